use Rattle.std.proofs.Common.{◌≤◌, arith}
use Rattle.std.specs.Prelude.{slice_index}
use Rattle.hv_plan.specs.TreeViews.{child_view}
use Rattle.hv_plan.specs.declared.tree.Child.TheVariants as children
use Rattle.hv_order.specs.Certificates.{subtask_start}
use Rattle.hv_order.proofs.CheckSteps.{taken_more}
use Rattle.hv_order.proofs.check.start_behind.Goals as goal

pub loop-child-preserved : goal.loop-child-preserved
loop-child-preserved c =
    taken_more child_view (λ x. c.args.at ≤ subtask_start (slice_index c.args.starts.now) x) c.args.children.now c.loop-child.child-index (children.Action 0)
    c.loop-child-test.true c.loop-child.invariant (omega (arith, c.start_of.ensures, c.from.ensures, c.if-start_of-from.false))
