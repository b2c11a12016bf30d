use Rattle.std.proofs.Common.{◌≡◌, ℕ, ◌<◌, ◌≤◌, length}
use Rattle.std.specs.Option.{IfSome}
use Rattle.hv_plan.specs.TreeViews.{child_view}
use Rattle.hv_order.specs.inside.Children.{child_at}
use Rattle.hv_order.specs.inside.Firsts.{item_first}
use Rattle.hv_order.specs.inside.Spans.{IsMet}
use Rattle.hv_order.proofs.spans.Spans.first_met.Given as goal

-- the soonest begins the child of one of those looked at
abbrev pub invariant-loop-place : goal.invariant-loop-place
invariant-loop-place l =
    ((later : ℕ) × (l.place ≤ later) × (later < length l.children) × (l.soonest ≡ item_first l.self.firsts.items (child_view (child_at l.children later))))
    × IfSome l.met (IsMet l.self l.children)
