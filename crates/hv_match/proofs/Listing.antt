-- What a search finds: exactly what is wanted, each once, and how much at most.
use Rattle.std.proofs.Common.{◌≡◌, ℕ, zero, suc, Bool, true, false, List, [], ◌∷◌, ◌++◌, length, refl, sym, ap, ◌∙◌, arith, append_assoc, subst, if◌then◌else◌, Contains, ◌<◌}
use Rattle.std.proofs.lemmas.List.{append-nil}
use Rattle.hv_lists.specs.Lists.{Once}
use Rattle.hv_lists.proofs.Contained.{at_head, none_in_empty}
use Rattle.hv_lists.proofs.EachOnce.{once_more}
use Rattle.hv_match.specs.inside.Search.{IsPath, below, IsWanted}
use Rattle.hv_match.proofs.Members.{mem_flat, flat_mem, once_flat, once_none}

same_next : (p xs ys : List ℕ) (x y : ℕ) → (p ++ x ∷ []) ++ xs ≡ (p ++ y ∷ []) ++ ys → x ≡ y
same_next [] xs ys x y e = cc
same_next (z ∷ p) xs ys x y e = let f : (p ++ x ∷ []) ++ xs ≡ (p ++ y ∷ []) ++ ys = cc in same_next p xs ys x y f

module _ (options : List ℕ → List ℕ) (good : List ℕ → Bool) where
  pub found : (k : ℕ) (p q : List ℕ) → Contains (below options good k p 0) q → (xs : List ℕ) × (q ≡ p ++ xs) × (length xs ≡ k) × IsPath options p xs × (good q ≡ true)
  found zero p q m = go (good p) refl m
    where
      go : (b : Bool) → good p ≡ b → Contains (if b then p ∷ [] else []) q → (xs : List ℕ) × (q ≡ p ++ xs) × (length xs ≡ 0) × IsPath options p xs × (good q ≡ true)
      go false e m = absurd (none_in_empty q m)
      go true e (zero, lt, f) = let same : p ≡ q = f in ([], sym same ∙ sym (append-nil p), refl, tt, ap good (sym same) ∙ e)
      go true e (suc i, lt, f) = absurd (let few : suc i < 1 = lt in omega (arith, few))
  found (suc k) p q m =
      let r = mem_flat (λ (x : ℕ). below options good k (p ++ x ∷ []) 0) (options p) q m in
      let s = found k (p ++ r.0 ∷ []) q r.2 in
      (r.0 ∷ s.0, s.1 ∙ append_assoc p (r.0 ∷ []) s.0, ap suc s.2, (r.1, s.3), s.4)

  pub finds : (k : ℕ) (p xs : List ℕ) → length xs ≡ k → IsPath options p xs → good (p ++ xs) ≡ true → Contains (below options good k p 0) (p ++ xs)
  finds zero p [] e h g = let g' = rw append-nil at g in rw (append-nil, g') (at_head p [] p refl)
  finds zero p (x ∷ xs) e h g = absurd (omega arith)
  finds (suc k) p [] e h g = absurd (omega arith)
  finds (suc k) p (x ∷ xs) e h g =
      let a = append_assoc p (x ∷ []) xs in
      let g' : good ((p ++ x ∷ []) ++ xs) ≡ true = ap good a ∙ g in
      let r = finds k (p ++ x ∷ []) xs (omega arith) h.1 g' in
      let P : List ℕ → Type 0 = λ l. Contains (below options good (suc k) p 0) l in
      subst P a (flat_mem (λ (z : ℕ). below options good k (p ++ z ∷ []) 0) (options p) x ((p ++ x ∷ []) ++ xs) h.0 r)

  pub once_below : ((p : List ℕ) → Once (options p)) → (k : ℕ) (p : List ℕ) → Once (below options good k p 0)
  once_below o zero p = go (good p)
    where
      go : (b : Bool) → Once {X = List ℕ} (if b then p ∷ [] else [])
      go false = once_none {X = List ℕ}
      go true = once_more p [] (λ m. none_in_empty p m) once_none
  once_below o (suc k) p =
      once_flat (λ (x : ℕ). below options good k (p ++ x ∷ []) 0) (options p) (o p) (λ x. once_below o k (p ++ x ∷ []))
      (λ x y q a b. let r = found k (p ++ x ∷ []) q a in let s = found k (p ++ y ∷ []) q b in same_next p r.0 s.0 x y (sym r.1 ∙ s.1))

  -- exactly what is wanted
  pub listing_to : (levels : ℕ) (q : List ℕ) → Contains (below options good levels [] 0) q → IsWanted options good levels q
  listing_to levels q m =
      let r = found levels [] q m in
      let P : List ℕ → Type 0 = λ l. IsPath options [] l in
      record { whole = ap length r.1 ∙ r.2; path = subst P (sym r.1) r.3; is_good = r.4 }

  pub listing_from : (levels : ℕ) (q : List ℕ) → IsWanted options good levels q → Contains (below options good levels [] 0) q
  listing_from levels q w = finds levels [] q w.whole w.path w.is_good

-- a list of which nothing begins so
pub none_begins : (f : List ℕ → List ℕ) (good : List ℕ → Bool) (k : ℕ) (p : List ℕ) → ((q xs : List ℕ) → q ≡ p ++ xs → length xs ≡ k → good q ≡ true → ⊥) → below f good k p 0 ≡ []
none_begins f good k p h = go (below f good k p 0) (λ q m. let r = found f good k p q m in h q r.0 r.1 r.2 r.4)
  where
    go : (l : List (List ℕ)) → ((q : List ℕ) → Contains l q → ⊥) → l ≡ []
    go [] n = refl
    go (q ∷ l) n = absurd (n q (at_head q l q refl))
