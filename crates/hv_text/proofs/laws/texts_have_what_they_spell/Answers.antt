use Rattle.hv_text.proofs.ShapeLemmas.{expressions_found}
use Rattle.hv_text.proofs.laws.texts_have_what_they_spell.Goals as goal

pub returns : goal.returns
returns c = expressions_found
