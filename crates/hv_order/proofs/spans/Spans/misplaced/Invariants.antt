use Rattle.std.proofs.Common.{◌≡◌, ◌<◌, ℕ, true}
use Rattle.hv_order.specs.inside.Arrangements.{listed_before}
use Rattle.hv_order.specs.inside.Children.{child_at}
use Rattle.hv_order.specs.inside.Spans.{is_behind_all}
use Rattle.hv_order.proofs.spans.Spans.misplaced.Given as goal

abbrev pub invariant-loop-latter : goal.invariant-loop-latter
invariant-loop-latter l = (j : ℕ) → j < l.latter → is_behind_all l.self l.children (child_at l.children j) (listed_before l.direct j) ≡ true
