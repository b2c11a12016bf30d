-- Branches that are left one after another, all of which begin alike.
use Rattle.std.proofs.Common.{◌≡◌, ℕ, zero, suc, ◌≤◌, ◌-◌, Bool, List, [], ◌∷◌, ◌++◌, ◌⊎◌, inl, inr, length, take, drop, map, refl, sym, ap, ◌∙◌, append_assoc, arith, Contains}
use Rattle.std.proofs.lemmas.List.{take-append-le}
use Rattle.std.proofs.lemmas.List.Elements.{Contains-append_cases}
use Rattle.hv_lists.proofs.Contained.{none_in_empty, map_mem}
use Rattle.hv_match.specs.inside.Search.{Search, below}
use Rattle.hv_match.specs.inside.States.{to_come, HasLeft, LeavesOut}
use Rattle.hv_match.specs.inside.Parts.{parts}
use Rattle.hv_match.specs.declared.state.State.{State}
use Rattle.hv_match.proofs.Listing.{found}
use Rattle.hv_match.proofs.Members.{mem_flat}

-- what is wanted below some choices begins with them
begins_so : (options : List ℕ → List ℕ) (good : List ℕ → Bool) (k : ℕ) (p : List ℕ) (c : ℕ) (q : List ℕ) → Contains (below options good k p c) q → (xs : List ℕ) × (q ≡ p ++ xs)
begins_so options good zero p c q m = let r = found options good zero p q m in (r.0, r.1)
begins_so options good (suc k) p c q m =
    let r = mem_flat (λ (x : ℕ). below options good k (p ++ x ∷ []) 0) (drop c (options p)) q m in
    let s = found options good k (p ++ r.0 ∷ []) q r.2 in
    (r.0 ∷ s.0, s.1 ∙ append_assoc p (r.0 ∷ []) s.0)

pub nothing_left : (s : Search) (n : ℕ) (at : State) → LeavesOut s n at at
nothing_left s n at = record { gone = []; coming = refl; alike = λ q m. absurd (none_in_empty q m) }

pub one_branch_more :
    (s : Search) (n : ℕ) (first old new : State) → LeavesOut s n first old → HasLeft s old new → n ≤ length old.chosen.items
    → take n old.chosen.items ≡ take n first.chosen.items → LeavesOut s n first new
one_branch_more s n first old new before left long front = record {
  gone = before.gone ++ branch;
  coming = before.coming ∙ ap (λ (l : List (List ℕ)). before.gone ++ l) left ∙ sym (append_assoc before.gone branch (to_come s.options s.good s.levels new));
  alike = λ q m. by q (Contains-append_cases before.gone branch q m);
}
  where
    branch : List (List ℕ)
    branch = below s.options s.good (s.levels - length old.chosen.items) old.chosen.items old.next

    by : (q : List ℕ) → Contains before.gone q ⊎ Contains branch q → take n q ≡ take n first.chosen.items
    by q (inl m) = before.alike q m
    by q (inr m) =
        let r = begins_so s.options s.good (s.levels - length old.chosen.items) old.chosen.items old.next q m in
        ap (take n) r.1 ∙ take-append-le n old.chosen.items r.0 long ∙ front

-- the first of the first so many are the first
pub take_fewer : (n m : ℕ) (xs : List ℕ) → n ≤ m → take n (take m xs) ≡ take n xs
take_fewer zero m xs le = refl
take_fewer (suc n) zero xs le = absurd (omega (arith, le))
take_fewer (suc n) (suc m) [] le = refl
take_fewer (suc n) (suc m) (x ∷ xs) le = ap (λ (l : List ℕ). x ∷ l) (take_fewer n m xs (omega (arith, le)))

-- so are the candidates that go with them
pub parts_alike :
    (k n : ℕ) (gone : List (List ℕ)) (places : List ℕ) → n ≤ k → ((q : List ℕ) → Contains gone q → take n q ≡ take n places)
    → (M B : List ℕ) → Contains (map (parts k) gone) (M, B) → take n M ≡ take n places
parts_alike k n gone places le alike M B m =
    let r = map_mem (parts k) gone (M, B) m in
    let same : take k r.0 ≡ M = ap (λ (c : List ℕ × List ℕ). c.0) r.2 in
    sym (ap (take n) same) ∙ take_fewer n k r.0 le ∙ alike r.0 r.1
