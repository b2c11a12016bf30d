use Rattle.std.proofs.Common.{◌∙◌, sym}
use Rattle.std.proofs.lemmas.List.{length-map}
use Rattle.hv_syntax.specs.ProblemViews.{literal_in}
use Rattle.hv_syntax.proofs.init.by_place.LiteralsByPlace.len.Goals as goal

pub returns : goal.returns
returns c = c.len.ensures ∙ sym (length-map c.args.self.now.literals (literal_in c.args.self.now.text.now))
