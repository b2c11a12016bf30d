use Rattle.hv_reading.proofs.ReadBackProblems.{problem_bytes}
use Rattle.hv_reading.proofs.print_law.problem_texts_are_printed_again.Goals as goal

pub returns : goal.returns
returns c = problem_bytes c.expressions_are_tidy.ensures c.texts_have_what_they_spell.ensures c.a_text_has_one_reading.ensures
