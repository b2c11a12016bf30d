-- The places of the children that pass a test.
use Rattle.std.proofs.Common.{◌≡◌, ℕ, zero, suc, ◌+◌, ◌<◌, ◌≤◌, Bool, true, false, List, [], ◌∷◌, ◌++◌, length, refl, sym, ap, ◌∙◌, append_assoc, arith, if◌then◌else◌, drop, Option, Some, None, MatchOption, IfSome, Contains}
use Rattle.std.proofs.lemmas.List.{append-nil}
use Rattle.hv_lists.proofs.Contained.{at_head, in_tail, none_in_empty}
use Rattle.hv_lists.proofs.EachOnce.{once_more}
use Rattle.hv_lists.specs.Lists.{Once}
use Rattle.hv_match.specs.inside.Puzzles.{Work, child_at, places_where}
use Rattle.hv_match.proofs.Members.{once_none}
use Rattle.hv_match.proofs.Turns.{mem_drop}

module _ (test : Option Work → Bool) where
  pub places_end : (k : ℕ) (cs : List (Option Work)) (c : Option Work) → places_where test k (cs ++ c ∷ []) ≡ places_where test k cs ++ (if test c then (k + length cs) ∷ [] else [])
  places_end k [] c = let z : k + 0 ≡ k = omega arith in rw z refl
  places_end k (d ∷ cs) c =
      let z : k + suc (length cs) ≡ k + 1 + length cs = omega arith in
      rw z (go (test d) (places_end (k + 1) cs c))
    where
      go : (b : Bool) → places_where test (k + 1) (cs ++ c ∷ []) ≡ places_where test (k + 1) cs ++ (if test c then (k + 1 + length cs) ∷ [] else []) →
          (if b then k ∷ places_where test (k + 1) (cs ++ c ∷ []) else places_where test (k + 1) (cs ++ c ∷ [])) ≡ (if b then k ∷ places_where test (k + 1) cs else places_where test (k + 1) cs) ++ (if test c then (k + 1 + length cs) ∷ [] else [])
      go true r = ap (λ (l : List ℕ). k ∷ l) r
      go false r = r

  pub places_within : (k : ℕ) (cs : List (Option Work)) (x : ℕ) → Contains (places_where test k cs) x → (k ≤ x) × (x < k + length cs)
  places_within k [] x m = absurd (none_in_empty x m)
  places_within k (c ∷ cs) x m = go (test c) m (places_within (k + 1) cs x)
    where
      go : (b : Bool) → Contains (if b then k ∷ places_where test (k + 1) cs else places_where test (k + 1) cs) x → (Contains (places_where test (k + 1) cs) x → (k + 1 ≤ x) × (x < k + 1 + length cs)) → (k ≤ x) × (x < k + suc (length cs))
      go true (zero, lt, e) r = let same : k ≡ x = e in (omega arith, omega arith)
      go true (suc i, lt, e) r =
          let within : suc i < suc (length (places_where test (k + 1) cs)) = lt in
          let w = r (i, omega (arith, within), e) in
          (omega (arith, w.0), omega (arith, w.1))
      go false m r = let w = r m in (omega (arith, w.0), omega (arith, w.1))

  pub places_once : (k : ℕ) (cs : List (Option Work)) → Once (places_where test k cs)
  places_once k [] = once_none
  places_once k (c ∷ cs) = go (test c) (places_once (k + 1) cs)
    where
      go : (b : Bool) → Once (places_where test (k + 1) cs) → Once (if b then k ∷ places_where test (k + 1) cs else places_where test (k + 1) cs)
      go true r = once_more k (places_where test (k + 1) cs) (λ m. absurd (omega (arith, (places_within (k + 1) cs k m).0))) r
      go false r = r

  pub places_there : (k : ℕ) (cs : List (Option Work)) (x : ℕ) → test None ≡ false → test (child_at cs x) ≡ true → Contains (places_where test k cs) (k + x)
  places_there k [] x h e = cc
  places_there k (c ∷ cs) zero h e = let z : k + 0 ≡ k = omega arith in rw (z, e) (at_head k (places_where test (k + 1) cs) k refl)
  places_there k (c ∷ cs) (suc x) h e =
      let z : k + suc x ≡ k + 1 + x = omega arith in
      rw z (go (test c) (places_there (k + 1) cs x h e))
    where
      go : (b : Bool) → Contains (places_where test (k + 1) cs) (k + 1 + x) → Contains (if b then k ∷ places_where test (k + 1) cs else places_where test (k + 1) cs) (k + 1 + x)
      go true m = in_tail k (places_where test (k + 1) cs) (k + 1 + x) m
      go false m = m

-- a child more that passes, or not, behind other places
pub row_yes : (test : Option Work → Bool) (cs : List (Option Work)) (c : Option Work) (i : ℕ) (before : List ℕ) → length cs ≡ i → test c ≡ true → (before ++ places_where test 0 cs) ++ i ∷ [] ≡ before ++ places_where test 0 (cs ++ c ∷ [])
row_yes test cs c i before size e =
    let z : 0 + length cs ≡ i = omega (arith, size) in
    let end = places_end test 0 cs c in
    let end' = rw (z, e) at end in
    append_assoc before (places_where test 0 cs) (i ∷ []) ∙ ap (λ l. before ++ l) (sym end')

pub row_no : (test : Option Work → Bool) (cs : List (Option Work)) (c : Option Work) (before : List ℕ) → test c ≡ false → before ++ places_where test 0 cs ≡ before ++ places_where test 0 (cs ++ c ∷ [])
row_no test cs c before e =
    let end = places_end test 0 cs c in
    let end' = rw e at end in
    ap (λ l. before ++ l) (sym (end' ∙ append-nil (places_where test 0 cs)))

pub chosen_within : (o : Option ℕ) (n m : ℕ) (l : List ℕ) → MatchOption o (length l ≤ n) (λ x. drop n l ≡ x ∷ drop (n + 1) l) → ((x : ℕ) → Contains l x → x < m) → IfSome o (λ x. x < m)
chosen_within None n m l e h = tt
chosen_within (Some x) n m l e h = h x (mem_drop n l x (drop (n + 1) l) e)
