use Rattle.std.proofs.Common.{sym, ◌∙◌}
use Rattle.hv_plan.proofs.ShapePlaces.{no_position}
use Rattle.hv_plan.proofs.id_table.place_in.Goals as goal

pub returns-in-None : goal.returns-in-None
returns-in-None c = c.len.ensures.len ∙ no_position c.args.table.now.keys c.args.id (sym c.in-None.ensures.index)
