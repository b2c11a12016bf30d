use Rattle.std.proofs.Common.{◌≡◌, ℕ, ◌<◌, length}
use Rattle.hv_world.specs.Orders.{AreDirect}
use Rattle.hv_order.specs.inside.Arrangements.{listed_before}
use Rattle.hv_order.proofs.sequencing.directs.Given as goal

-- the lists so far are of the first subtasks
abbrev pub invariant-loop-subtask : goal.invariant-loop-subtask
invariant-loop-subtask l = record {
  as_many : length l.lists ≡ l.subtask;
  direct : (j : ℕ) → j < l.subtask → AreDirect l.order j (listed_before l.lists j);
}
