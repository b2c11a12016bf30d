-- Where the first step at or below a subtask begins.
use Rattle.std.proofs.Common.{◌≡◌, ℕ, refl}
use Rattle.hv_plan.specs.Trees.{Item, Act, Task, Pre, Tree, AtOrBelow, itself, its_pre, IsPrimitive, IsSubtask}
use Rattle.hv_order.specs.Schedules.{begins}
use Rattle.hv_order.specs.Certificates.{subtask_start}

-- the step with which a subtask begins: an action itself, a line's precondition step
pub record FirstStep (t : Tree) (at : ℕ → ℕ) (x : Item) : Type 0 where
  pub step : Item
  pub is_step : IsPrimitive step
  pub below : AtOrBelow t x step
  pub begin : begins at step ≡ subtask_start at x

pub first_step : (t : Tree) (at : ℕ → ℕ) (x : Item) → IsSubtask x → FirstStep t at x
first_step t at (Act k) c = record { step = Act k; is_step = tt; below = itself; begin = refl }
first_step t at (Task v) c = record { step = Pre v; is_step = tt; below = its_pre itself; begin = refl }
first_step t at (Pre v) c = absurd c
