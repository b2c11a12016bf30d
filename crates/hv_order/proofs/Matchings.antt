-- A matching gives each of a node's children one subtask: there are as many places as children, each
-- another, so all.
use Rattle.std.proofs.Common.{◌≡◌, ℕ, ◌<◌, List, length, ap, ◌∙◌, inl, inr, ◌⊎◌, Contains}
use Rattle.std.specs.Prelude.{All, slice_index}
use Rattle.std.proofs.lemmas.List.Elements.{Contains-get_or}
use Rattle.hv_lists.specs.Lists.{Once}
use Rattle.hv_plan.specs.Trees.{Item, Act}
use Rattle.hv_order.specs.StandIns.{IsMatching}
use Rattle.hv_order.specs.inside.PlanFacts.{child_in}
use Rattle.hv_order.proofs.Members.{is_member}
use Rattle.hv_order.proofs.Pigeons.{all_places, same_default, one_place}

module _ (xs : List Item) (each : Once xs) (M : List ℕ) (once : Once M) (within : All (λ x. x < length xs) M) (all : length M ≡ length xs) where
  -- the subtask for which an item stands, if it is a child
  subtask_at : (x : Item) → Contains xs x ⊎ (Contains xs x → ⊥) → ℕ
  subtask_at x (inl (p, lt, e)) = (all_places (length xs) M once within all p lt).0
  subtask_at x (inr none) = 0

  stands_there : (x : Item) (c : Contains xs x ⊎ (Contains xs x → ⊥)) → Contains xs x → (subtask_at x c < length M) × (child_in xs (slice_index M (subtask_at x c)) ≡ x)
  unfolding subtask_at
  stands_there x (inl (p, lt, e)) m =
      let (j, few, same) = all_places (length xs) M once within all p lt in
      let place : slice_index M j ≡ p = same_default M j 0 p few ∙ same in
      (few, ap (child_in xs) place ∙ same_default xs p (Act 0) x lt ∙ e)
  stands_there x (inr none) m = absurd (none m)

  pub is_matching : IsMatching xs (length M) (λ j. child_in xs (slice_index M j))
  is_matching = record {
    in_list = λ j h. Contains-get_or xs (slice_index M j) (Act 0) (within j 0 h);
    subtask = λ x. subtask_at x (is_member x xs);
    is_subtask = λ x m. (stands_there x (is_member x xs) m).0;
    stands = λ x m. (stands_there x (is_member x xs) m).1;
    once = λ i j in_i in_j e. one_place M once i j 0 in_i in_j (one_place xs each (slice_index M i) (slice_index M j) (Act 0) (within i 0 in_i) (within j 0 in_j) e);
  }
