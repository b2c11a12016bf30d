-- A run that has the same finish as the one before it stands for both.
use Rattle.std.proofs.Common.{◌≡◌, ℕ, zero, suc, ◌+◌, ◌-◌, ◌≤◌, ◌<◌, ◌++◌, List, [], ◌∷◌, refl, sym, ap, ◌∙◌, subst, inl, inr, arith, ◌⊎◌, Option, Some, None, length, take}
use Rattle.std.proofs.lemmas.Bool.{cases_lt}
use Rattle.std.specs.Prelude.{slice_get}
use Rattle.hv_order.specs.Tables.{IsLeast}
use Rattle.hv_order.specs.inside.Facts.{IsRunOf}
use Rattle.hv_order.specs.inside.Runs.{IsRow, AreApart, EndsWith, IsTrimmed}
use Rattle.hv_order.specs.declared.trial.Run.{Run}
use Rattle.hv_order.proofs.RunLemmas.{appended, row_more}

-- a list up to its last member
pub up_to_last : {X : Type 0} (xs : List X) (m : ℕ) (x : X) → length xs ≡ m + 1 → slice_get xs m ≡ Some x → xs ≡ take m xs ++ x ∷ []
up_to_last [] m x e is = absurd (omega arith)
up_to_last (y ∷ []) zero x e is = let k : y ≡ x = (let i : Some y ≡ Some x = is in cc) in ap (λ z. z ∷ []) k
up_to_last (y ∷ []) (suc m) x e is = absurd (omega arith)
up_to_last (y ∷ z ∷ zs) zero x e is = absurd (omega arith)
up_to_last (y ∷ z ∷ zs) (suc m) x e is = ap (λ ys. y ∷ ys) (up_to_last (z ∷ zs) m x (omega arith) is)

-- two runs with one finish are one
pub as_one : (Fit : ℕ → ℕ → Type 0) (n s : ℕ) (r r' : Run) → r.finish ≡ r'.finish → IsRunOf Fit n s r → IsRunOf Fit n (r.last + 1) r' → IsRunOf Fit n s r'
as_one Fit n s r r' same is is' =
    let a = is.begun in
    let b = is'.begun in
    record { begun = omega arith; within = is'.within; least = λ x c d. by_order x c d (cases_lt r.last x) }
  where
    by_order : (x : ℕ) → s ≤ x → x ≤ r'.last → (r.last < x) ⊎ (x ≤ r.last) → IsLeast (Fit x) n r'.finish
    by_order x c d (inl lt) = is'.least x (omega arith) d
    by_order x c d (inr le) = let P : Option ℕ → Type 0 = λ o. IsLeast (Fit x) n o in subst P same (is.least x c le)

pub merged : (Fit : ℕ → ℕ → Type 0) (n s : ℕ) (ys : List Run) (r r' : Run) (rest : List Run) → r.finish ≡ r'.finish → IsRow Fit n s (ys ++ r ∷ r' ∷ rest) → IsRow Fit n s (ys ++ r' ∷ rest)
merged Fit n s [] r r' rest same is = (as_one Fit n s r r' same is.0 is.1.0, is.1.1)
merged Fit n s (y ∷ ys) r r' rest same is = (is.0, merged Fit n (y.last + 1) ys r r' rest same is.1)

-- one run in the place of another with the same finish
pub apart_like : (ys : List Run) (x r : Run) → x.finish ≡ r.finish → AreApart (ys ++ x ∷ []) → AreApart (ys ++ r ∷ [])
apart_like [] x r same are = (tt, tt)
apart_like (y ∷ []) x r same are = (λ e. are.0 (e ∙ sym same), (tt, tt))
apart_like (y ∷ z ∷ zs) x r same are = (are.0, apart_like (z ∷ zs) x r same are.1)

-- one run more, with another finish than the last
pub apart_more : (ys : List Run) (r : Run) → AreApart ys → ((m : ℕ) (x : Run) → length ys ≡ m + 1 → slice_get ys m ≡ Some x → x.finish ≡ r.finish → ⊥) → AreApart (ys ++ r ∷ [])
apart_more [] r are other = (tt, tt)
apart_more (y ∷ []) r are other = (other zero y refl refl, (tt, tt))
apart_more (y ∷ z ∷ zs) r are other = (are.0, apart_more (z ∷ zs) r are.1 (λ m x e is. other (suc m) x (omega arith) is))

-- what holds of the runs so far
pub record IsRowSoFar (Fit : ℕ → ℕ → Type 0) (n s : ℕ) (rs : List Run) : Type 0 where
  pub rest : (rest : List Run) → IsRow Fit n s rest → IsRow Fit n 0 (rs ++ rest)
  pub apart : AreApart rs

-- at first it is one run
pub first_run : (Fit : ℕ → ℕ → Type 0) (n : ℕ) (r : Run) (rs : List Run) → rs ≡ r ∷ [] → IsRunOf Fit n 0 r → IsRowSoFar Fit n (r.last + 1) rs
first_run Fit n r rs one is =
    let far : IsRowSoFar Fit n (r.last + 1) (r ∷ []) = record { rest = λ rest h. (is, h); apart = (tt, tt) } in
    subst (IsRowSoFar Fit n (r.last + 1)) (sym one) far

module _ (Fit : ℕ → ℕ → Type 0) (n s : ℕ) (rs : List Run) (r : Run) (far : IsRowSoFar Fit n s rs) (is : IsRunOf Fit n s r) where
  behind : (EndsWith rs r.finish → ⊥) → IsRowSoFar Fit n (r.last + 1) (rs ++ r ∷ [])
  behind other = record {
    rest = λ rest h. row_more Fit n s rs r far.rest is rest h;
    apart = apart_more rs r far.apart (λ m x e there same. let i : m ≡ length rs - 1 = omega arith in let P : ℕ → Type 0 = λ u. slice_get rs u ≡ Some x in other (record { run = x; is_last = subst P i there; finish_is = same }));
  }

  instead : (last : EndsWith rs r.finish) → length rs ≡ (length rs - 1) + 1 → IsRowSoFar Fit n (r.last + 1) (take (length rs - 1) rs ++ r ∷ [])
  instead last long =
      let m = length rs - 1 in
      let x = last.run in
      let split : rs ≡ take m rs ++ x ∷ [] = up_to_last rs m x long last.is_last in
      record {
        rest = λ rest h.
            let R : List Run → Type 0 = λ ys. IsRow Fit n 0 (ys ++ r ∷ rest) in
            let whole : IsRow Fit n 0 ((take m rs ++ x ∷ []) ++ r ∷ rest) = subst R split (far.rest (r ∷ rest) (is, h)) in
            let flat : IsRow Fit n 0 (take m rs ++ x ∷ r ∷ rest) = subst (IsRow Fit n 0) (appended (take m rs) x (r ∷ rest)) whole in
            subst (IsRow Fit n 0) (sym (appended (take m rs) r rest)) (merged Fit n 0 (take m rs) x r rest last.finish_is flat);
        apart = apart_like (take m rs) x r last.finish_is (subst AreApart split far.apart);
      }

  some_last : (o : Option ℕ) → EndsWith rs o → length rs ≡ (length rs - 1) + 1
  some_last o last = by_runs rs last.run last.is_last
    where
      by_runs : (ys : List Run) (x : Run) → slice_get ys (length ys - 1) ≡ Some x → length ys ≡ (length ys - 1) + 1
      by_runs [] x e = absurd (let k : None ≡ Some x = e in cc)
      by_runs (y ∷ ys) x e = omega arith

  -- the runs so far with one run more
  pub far_more : (rs' : List Run) → IsTrimmed rs r.finish rs' → IsRowSoFar Fit n (r.last + 1) (rs' ++ r ∷ [])
  far_more rs' (inl stays) = rw stays.runs_are (behind stays.other)
  far_more rs' (inr loses) = rw loses.runs_are (instead loses.last (some_last r.finish loses.last))
