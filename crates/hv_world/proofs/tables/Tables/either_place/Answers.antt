use Rattle.std.proofs.Common.{◌∙◌}
use Rattle.hv_world.proofs.EitherTables.{placed_same}
use Rattle.hv_world.proofs.tables.Tables.either_place.Goals as goal

pub returns : goal.returns
returns c = c.get_index_of.ensures.index ∙ placed_same c.args.list.now c.args.self.now.types.eithers.keys
