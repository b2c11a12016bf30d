use Rattle.std.proofs.Common.{◌≡◌, ℕ, true, take, Contains}
use Rattle.hv_plan.specs.TreeViews.{child_view}
use Rattle.hv_order.specs.inside.Children.{child_at}
use Rattle.hv_order.specs.inside.Spans.{is_behind}
use Rattle.hv_order.proofs.spans.Spans.in_front.Given as goal

abbrev pub invariant-loop-former : goal.invariant-loop-former
invariant-loop-former l =
    (i : ℕ) → Contains (take l.former-index l.formers) i → is_behind l.self (child_view (child_at l.children i)) (child_view l.latter) ≡ true
