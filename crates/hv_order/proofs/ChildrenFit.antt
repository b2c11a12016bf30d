-- Between which states children fit.
use Rattle.std.proofs.Common.{ℕ, ◌+◌, ◌≤◌, ◌<◌, arith, Some, None}
use Rattle.hv_plan.specs.declared.tree.Child.{Child}
use Rattle.hv_plan.specs.declared.tree.Child.TheVariants as children
use Rattle.hv_order.specs.Finishes.{ActionFits}
use Rattle.hv_order.specs.inside.Children.{ChildFits}
use Rattle.hv_order.specs.inside.Facts.{AreFits, IsRunOf}

-- a child finishes no earlier than it starts
pub child_climbs : (Fits : ℕ → ℕ → ℕ → Type 0) → AreFits Fits → (x : Child) (s f : ℕ) → ChildFits Fits x s f → s ≤ f
child_climbs Fits are (children.Action k) s f is = let (late, early) = is in omega arith
child_climbs Fits are (children.Node v) s f is = are.climbs v s f is

-- a child that fits from a start fits from an earlier one
pub child_earlier : (Fits : ℕ → ℕ → ℕ → Type 0) → AreFits Fits → (x : Child) (s s' f : ℕ) → s' ≤ s → ChildFits Fits x s f → ChildFits Fits x s' f
child_earlier Fits are (children.Action k) s s' f le is = let (late, early) = is in (omega arith, early)
child_earlier Fits are (children.Node v) s s' f le is = are.earlier v s s' f le is

-- an action fits from no start behind its state
pub behind_its_state : (k n s : ℕ) → s ≤ n → k < s → IsRunOf (ActionFits k) n s (record { last = n; finish = None })
behind_its_state k n s le lt = record { begun = le; within = omega arith; least = λ x a b g c is. let (late, early) = is in omega arith }

-- nor does one that is not in the plan
pub behind_the_plan : (k n s : ℕ) → s ≤ n → n ≤ k → IsRunOf (ActionFits k) n s (record { last = n; finish = None })
behind_the_plan k n s le lt = record { begun = le; within = omega arith; least = λ x a b g c is. let (late, early) = is in omega arith }

-- from each start up to its state an action is over in the next
pub up_to_its_state : (k n s : ℕ) → s ≤ k → k < n → IsRunOf (ActionFits k) n s (record { last = k; finish = Some (k + 1) })
up_to_its_state k n s le lt = record {
  begun = le;
  within = omega arith;
  least = λ x a b. record { reached = (b, omega arith); within = omega arith; least = λ g is. let (late, early) = is in omega arith };
}
