-- A least finish under a cap.
use Rattle.std.proofs.Common.{◌≡◌, ℕ, ◌≤◌, ◌<◌, arith, Some, None}
use Rattle.hv_order.specs.Tables.{IsLeast}
use Rattle.hv_order.specs.inside.Facts.{IsRunOf}
use Rattle.hv_order.specs.declared.trial.Run.{Run}

pub none_under : (P : ℕ → Type 0) (n cap : ℕ) → cap ≤ n → IsLeast P n None → IsLeast P cap None
none_under P n cap le h = λ g a w. h g (omega arith) w

pub late_under : (P : ℕ → Type 0) (n cap f : ℕ) → cap < f → IsLeast P n (Some f) → IsLeast P cap None
late_under P n cap f lt h = λ g a w. let b = h.least g w in absurd (omega arith)

pub some_under : (P : ℕ → Type 0) (n cap f : ℕ) → f ≤ cap → IsLeast P n (Some f) → IsLeast P cap (Some f)
some_under P n cap f le h = record { reached = h.reached; within = le; least = h.least }

-- a run's finish under a cap, for each of its starts
pub run_under : (Fit : ℕ → ℕ → Type 0) (n cap s f : ℕ) (r : Run) → f ≤ cap → r.finish ≡ Some f → IsRunOf Fit n s r → (x : ℕ) → s ≤ x → x ≤ r.last → IsLeast (Fit x) cap (Some f)
run_under Fit n cap s f r le e is x a b = some_under (Fit x) n cap f le (rw e at (is.least x a b))

-- a run without a finish under the cap
pub run_late : (Fit : ℕ → ℕ → Type 0) (n cap s f : ℕ) (r : Run) → cap < f → r.finish ≡ Some f → IsRunOf Fit n s r → IsLeast (Fit s) cap None
run_late Fit n cap s f r lt e is = late_under (Fit s) n cap f lt (rw e at (is.least s (omega arith) is.begun))

pub run_none : (Fit : ℕ → ℕ → Type 0) (n cap s : ℕ) (r : Run) → cap ≤ n → r.finish ≡ None → IsRunOf Fit n s r → IsLeast (Fit s) cap None
run_none Fit n cap s r le e is = none_under (Fit s) n cap le (rw e at (is.least s (omega arith) is.begun))
