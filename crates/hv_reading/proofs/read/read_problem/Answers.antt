use Rattle.std.proofs.Common.{Ok}
use Rattle.hv_text.specs.Rests.{here}
use Rattle.hv_text.specs.Cursors.{rest_at}
use Rattle.hv_syntax.specs.ProblemViews.{problem_view}
use Rattle.hv_reading.proofs.TextLemmas.{problem_of_text}
use Rattle.hv_reading.proofs.read.read_problem.Goals as goal

pub returns-in-Ok-clause-ok : goal.returns-in-Ok-clause-ok
returns-in-Ok-clause-ok c =
    problem_of_text c.args.text.now (here (rest_at c.in-Some.start)) (c.in-Some.ensures.are c.in-Ok.ensures.whole) problem_view (Ok c.in-Ok.problem) c.in-Ok.ensures.problem
