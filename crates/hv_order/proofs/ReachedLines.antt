-- Every line belongs to the tree: from the greatest number down.
use Rattle.std.proofs.Common.{ℕ, zero, suc, ◌+◌, ◌<◌, ◌≤◌, inl, inr, arith, ◌⊎◌, Contains}
use Rattle.hv_plan.specs.Trees.{Task, Tree, Reached, IsTree}
use Rattle.hv_order.specs.Laws.{ReachLaw}
use Rattle.hv_order.proofs.Ancestry.{reached_initial, reached_child}

module _ (t : Tree) (count : ℕ) (tree : IsTree t) (each : (v : ℕ) → v < count → Contains t.initial_tasks (Task v) ⊎ ((w : ℕ) × (w < count) × Contains (t.children w) (Task v))) where
  reach : (steps v : ℕ) → v < count → count ≤ v + steps → Reached t (Task v)
  reach zero v below near = absurd (omega arith)
  reach (suc steps) v below near = by_parent (each v below) (λ w a b. reach steps w a b)
    where
      by_parent : Contains t.initial_tasks (Task v) ⊎ ((w : ℕ) × (w < count) × Contains (t.children w) (Task v)) → ((w : ℕ) → w < count → count ≤ w + steps → Reached t (Task w)) → Reached t (Task v)
      by_parent (inl initial) higher = reached_initial t initial
      by_parent (inr parent) higher =
          let (w, w_below, child) = parent in
          let lower = tree.lower w v child in
          reached_child t w (Task v) (higher w w_below (omega arith)) child

pub reach_law : ReachLaw
reach_law t count tree each v below = reach t count tree each count v below (omega arith)
