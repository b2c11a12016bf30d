use Rattle.std.proofs.Common.{◌∙◌, sym}
use Rattle.std.proofs.lemmas.List.{length-map}
use Rattle.hv_world.specs.FactViews.{atom_over}
use Rattle.hv_world.proofs.facts.Facts.len.Goals as goal

pub returns : goal.returns
returns c = c.len.ensures ∙ sym (length-map c.args.self.now.facts atom_over)
