use Rattle.std.proofs.Common.{ℕ, ◌<◌}
use Rattle.hv_plan.specs.BuiltTrees.{tree_view}
use Rattle.hv_order.specs.inside.Checks.{HasLineAt}
use Rattle.hv_order.proofs.entries.other_line.Given as goal

abbrev pub invariant-loop-place : goal.invariant-loop-place
invariant-loop-place l =
    (k : ℕ) → 0 < k → k < l.place → HasLineAt (tree_view l.tree) l.certificate k
