use Rattle.hv_plan.proofs.NodeLaws.{line_of, task_of_child}
use Rattle.hv_plan.proofs.laws.nodes_are_lines.Goals as goal

pub returns-clause-lines : goal.returns-clause-lines
returns-clause-lines c = λ w p t is v lt. line_of w p t is v lt

pub returns-clause-tasks : goal.returns-clause-tasks
returns-clause-tasks c = λ w p t is v u h. task_of_child w p t is v u h
