use Rattle.hv_text.specs.Trees.{trees}
use Rattle.hv_syntax.specs.ProblemViews.{problem_view}
use Rattle.hv_reading.proofs.TextLemmas.{problem_of_text, fault_of_problem}
use Rattle.hv_reading.proofs.read.read_whole_problem.Goals as goal

pub returns-clause-ok : goal.returns-clause-ok
returns-clause-ok c =
    problem_of_text c.args.text.now (trees c.deref.result.now) (rw c.deref.ensures.value c.in_ok-es.ensures.ok) problem_view c.read_problem_of.result c.read_problem_of.ensures

pub returns-clause-err : goal.returns-clause-err
returns-clause-err c =
    fault_of_problem c.args.text.now (trees c.deref.result.now) (rw c.deref.ensures.value c.in_ok-es.ensures.ok) problem_view c.read_problem_of.result c.read_problem_of.ensures
