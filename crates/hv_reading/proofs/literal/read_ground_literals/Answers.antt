use Rattle.hv_reading.specs.inside.Literals.{ground_literal_of}
use Rattle.hv_syntax.specs.ProblemViews.{init_view}
use Rattle.hv_syntax.specs.Views.{ground_literal_view}
use Rattle.hv_reading.proofs.Lists.{read_one_more}
use Rattle.hv_reading.proofs.literal.read_ground_literals.Goals as goal

pub loop-e-preserved : goal.loop-e-preserved
loop-e-preserved c =
    rw c.in_ok-push.ensures
    (read_one_more ground_literal_of ground_literal_view c.args.es.now c.loop-e.e-index _ (init_view c.loop-e.literals) (ground_literal_view c.in_ok-literal.literal) _
    c.loop-e-test.true c.e-item.is c.in_ok-literal.ensures c.loop-e.invariant)
