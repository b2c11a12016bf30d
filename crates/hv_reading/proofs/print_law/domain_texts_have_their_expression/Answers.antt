use Rattle.hv_reading.proofs.ReadBack.{domain_expression_found}
use Rattle.hv_reading.proofs.print_law.domain_texts_have_their_expression.Goals as goal

pub returns : goal.returns
returns c = domain_expression_found c.expressions_are_tidy.ensures c.texts_have_what_they_spell.ensures
