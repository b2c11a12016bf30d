use Rattle.hv_reading.proofs.AgainProblems.{problem_again}
use Rattle.hv_reading.proofs.print_law.problems_are_read_again.Goals as goal

pub returns : goal.returns
returns c = problem_again
