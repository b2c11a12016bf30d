use Rattle.hv_reading.proofs.ReadBackProblems.{problem_found}
use Rattle.hv_reading.proofs.print_law.problems_are_read_wherever_they_stand.Goals as goal

pub returns : goal.returns
returns c = problem_found
