use Rattle.hv_reading.proofs.ReadBackProblems.{problem_back, problem_only}
use Rattle.hv_reading.proofs.print_law.problem_texts_are_read_back.Goals as goal

pub returns-clause-some : goal.returns-clause-some
returns-clause-some c = problem_back c.expressions_are_tidy.ensures c.texts_have_what_they_spell.ensures

pub returns-clause-only : goal.returns-clause-only
returns-clause-only c = problem_only c.expressions_are_tidy.ensures c.texts_have_what_they_spell.ensures c.a_text_has_one_reading.ensures
