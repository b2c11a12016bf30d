use Rattle.std.proofs.Common.{◌≡◌, ℕ, ◌<◌, length}
use Rattle.std.specs.Prelude.{slice_index}
use Rattle.hv_plan.specs.BuiltTrees.{tree_view}
use Rattle.hv_plan.specs.PlanTrees.{children_at}
use Rattle.hv_order.specs.inside.Checks.{IsLatest, finish_in}
use Rattle.hv_order.proofs.check.finishes.Given as goal

abbrev pub invariant-loop-node : goal.invariant-loop-node
invariant-loop-node l =
    (length l.finishes.items ≡ l.node)
    × ((v : ℕ) → v < l.node
    → IsLatest (slice_index l.starts v) (children_at (tree_view l.tree).nodes v) (finish_in l.finishes.items)
    (slice_index l.finishes.items v))
