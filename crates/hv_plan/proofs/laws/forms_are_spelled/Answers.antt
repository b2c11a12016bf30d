use Rattle.hv_plan.proofs.SpellingLemmas.{form_table}
use Rattle.hv_plan.proofs.laws.forms_are_spelled.Goals as goal

pub returns : goal.returns
returns c = form_table
