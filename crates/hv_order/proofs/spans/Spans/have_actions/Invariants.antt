use Rattle.std.proofs.Common.{ℕ, ◌<◌}
use Rattle.hv_plan.specs.TreeViews.{child_view}
use Rattle.hv_order.specs.inside.Children.{child_at}
use Rattle.hv_order.specs.inside.Spans.{HasActions}
use Rattle.hv_order.proofs.spans.Spans.have_actions.Given as goal

abbrev pub invariant-loop-child : goal.invariant-loop-child
invariant-loop-child l = (j : ℕ) → j < l.child-index → HasActions l.self (child_view (child_at l.children j))
