use Rattle.std.proofs.Common.{ℕ, ◌<◌, ◌≤◌, map}
use Rattle.std.specs.Prelude.{slice_index}
use Rattle.hv_world.specs.Orders.{IsDirect}
use Rattle.hv_plan.specs.TreeViews.{child_view}
use Rattle.hv_order.specs.Certificates.{subtask_start}
use Rattle.hv_order.specs.inside.Checks.{finish_in, child_at}
use Rattle.hv_order.proofs.check.keeps_order.Given as goal

abbrev pub invariant-loop-subtask : goal.invariant-loop-subtask
invariant-loop-subtask l =
    (i j : ℕ) → j < l.subtask → IsDirect l.order i j
    → finish_in l.finishes (child_at (map child_view l.children) l.places i)
    ≤ subtask_start (slice_index l.starts) (child_at (map child_view l.children) l.places j)
