use Rattle.hv_text.proofs.ShapeLemmas.{expressions_tidy}
use Rattle.hv_text.proofs.laws.expressions_are_tidy.Goals as goal

pub returns : goal.returns
returns c = expressions_tidy
