-- Subtasks that are more than the children that are tried for them.
use Rattle.std.proofs.Common.{◌≡◌, ℕ, ◌+◌, ◌≤◌, Bool, true, false, List, [], ◌∷◌, length, map, refl, sym, ap, ◌∙◌, arith, if◌then◌else◌, Option, inl, inr, Contains}
use Rattle.std.proofs.lemmas.List.{length-map}
use Rattle.std.specs.List.{AllZip}
use Rattle.hv_lists.specs.Lists.{Once}
use Rattle.hv_lists.proofs.Contained.{at_head, in_tail, none_in_empty, contains_cases}
use Rattle.hv_lists.proofs.EachOnce.{once_head, once_tail, once_more}
use Rattle.hv_lists.proofs.Pairs.{same_length}
use Rattle.hv_world.specs.Values.{Subtask}
use Rattle.hv_world.specs.Alike.{Key, key, keys, same_key, how_many}
use Rattle.hv_match.specs.inside.Puzzles.{Work, child_at, Done, IsRow}
use Rattle.hv_match.proofs.Factors.{key_is}
use Rattle.hv_match.proofs.Fitting.{has_mem}
use Rattle.hv_match.proofs.Members.{once_none, at_most}

-- the children of the subtasks with a key
picked : Key → List Key → List ℕ → List ℕ
picked k [] M = []
picked k (j ∷ js) [] = []
picked k (j ∷ js) (x ∷ M) = if same_key k j then x ∷ picked k js M else picked k js M

picked_many : (k : Key) (js : List Key) (M : List ℕ) → length js ≡ length M → length (picked k js M) ≡ how_many k js
unfolding picked
picked_many k [] M e = refl
picked_many k (j ∷ js) [] e = absurd (omega (arith, e))
picked_many k (j ∷ js) (x ∷ M) e = go (same_key k j) (picked_many k js M (omega (arith, e)))
  where
    go : (b : Bool) → length (picked k js M) ≡ how_many k js → length (if b then x ∷ picked k js M else picked k js M) ≡ (if b then 1 else 0) + how_many k js
    go true r = omega (arith, r)
    go false r = omega (arith, r)

picked_some : (k : Key) (js : List Key) (M : List ℕ) (x : ℕ) → Contains (picked k js M) x → Contains M x
unfolding picked
picked_some k [] M x m = absurd (none_in_empty x m)
picked_some k (j ∷ js) [] x m = absurd (none_in_empty x m)
picked_some k (j ∷ js) (y ∷ M) x m = go (same_key k j) m (picked_some k js M x)
  where
    go : (b : Bool) → Contains (if b then y ∷ picked k js M else picked k js M) x → (Contains (picked k js M) x → Contains M x) → Contains (y ∷ M) x
    go true m r = elim (contains_cases y (picked k js M) x m) [ inl e ↦ at_head y M x e | inr h ↦ in_tail y M x (r h) ]
    go false m r = in_tail y M x (r m)

picked_once : (k : Key) (js : List Key) (M : List ℕ) → Once M → Once (picked k js M)
unfolding picked
picked_once k [] M o = once_none
picked_once k (j ∷ js) [] o = once_none
picked_once k (j ∷ js) (x ∷ M) o = go (same_key k j) (picked_once k js M (once_tail x M o))
  where
    go : (b : Bool) → Once (picked k js M) → Once (if b then x ∷ picked k js M else picked k js M)
    go true r = once_more x (picked k js M) (λ m. once_head x M o (picked_some k js M x m)) r
    go false r = r

-- each of them does a subtask with the key
picked_does : (f : Subtask → Key) (cs : List (Option Work)) (B : List ℕ) (k : Key) (M : List ℕ) (ss : List Subtask) → AllZip (Done cs B) M ss → (x : ℕ) → Contains (picked k (map f ss) M) x → (s : Subtask) × Contains ss s × (f s ≡ k) × Done cs B x s
unfolding picked
picked_does f cs B k M [] a x m = absurd (none_in_empty x m)
picked_does f cs B k [] (s ∷ ss) a x m = absurd (none_in_empty x m)
picked_does f cs B k (y ∷ M) (s ∷ ss) a x m = go (same_key k (f s)) refl m (picked_does f cs B k M ss a.1 x)
  where
    later : (t : Subtask) × Contains ss t × (f t ≡ k) × Done cs B x t → (t : Subtask) × Contains (s ∷ ss) t × (f t ≡ k) × Done cs B x t
    later (t, there, same, d) = (t, in_tail s ss t there, same, d)

    go : (b : Bool) → same_key k (f s) ≡ b → Contains (if b then y ∷ picked k (map f ss) M else picked k (map f ss) M) x → (Contains (picked k (map f ss) M) x → (t : Subtask) × Contains ss t × (f t ≡ k) × Done cs B x t)
        → (t : Subtask) × Contains (s ∷ ss) t × (f t ≡ k) × Done cs B x t
    go true e m r = elim (contains_cases y (picked k (map f ss) M) x m) [
      | inl z ↦ (s, at_head s ss s refl, sym (key_is k (f s) e), ap (child_at cs) z ∙ a.0)
      | inr h ↦ later (r h)
    ]
    go false e m r = later (r m)

-- the children that do alike subtasks are no more than those that are tried for one
pub no_more : (ss : List Subtask) (cs : List (Option Work)) (B M : List ℕ) (t : Subtask) (row : List ℕ) → Once M → AllZip (Done cs B) M ss → IsRow ss cs t row → how_many (key ss t) (keys ss) ≤ length row
no_more ss cs B M t row once a is =
    let k = key ss t in
    let many : length (keys ss) ≡ length M = length-map ss (key ss) ∙ sym (same_length (Done cs B) M ss a) in
    let most = at_most (picked k (keys ss) M) row (picked_once k (keys ss) M once) (λ x m. let r = picked_does (key ss) cs B k M ss a x m in has_mem x row (is.all r.0 r.1 r.2 B x r.3)) in
    omega (arith, most, picked_many k (keys ss) M many)
