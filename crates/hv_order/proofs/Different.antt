-- The runs of a row are as many as its different finishes.
use Rattle.std.proofs.Common.{◌≡◌, ℕ, suc, ◌+◌, ◌≤◌, ◌<◌, List, [], ◌∷◌, refl, sym, ap, subst, inl, inr, arith, ◌⊎◌, Option, Some, None, length}
use Rattle.std.proofs.lemmas.Bool.{cases_lt}
use Rattle.std.specs.Prelude.{Contains}
use Rattle.hv_lists.specs.Lists.{Once}
use Rattle.hv_lists.proofs.Contained.{at_head, in_tail, contains_cases, none_in_empty}
use Rattle.hv_lists.proofs.EachOnce.{once_more}
use Rattle.hv_order.specs.LeastFinishes.{IsNumberOfAnswers}
use Rattle.hv_order.specs.Tables.{IsLeast}
use Rattle.hv_order.specs.inside.Runs.{IsRow, IsApartFrom, AreApart}
use Rattle.hv_order.specs.declared.trial.Run.{Run}
use Rattle.hv_order.proofs.Members.{once_none}

-- a number is the least in one way
one_least : (P : ℕ → Type 0) (n : ℕ) (o p : Option ℕ) → IsLeast P n o → IsLeast P n p → o ≡ p
one_least P n None None a b = refl
one_least P n None (Some g) a b = absurd (a g b.within b.reached)
one_least P n (Some f) None a b = absurd (b f a.within a.reached)
one_least P n (Some f) (Some g) a b = let c = a.least g b.reached in let d = b.least f a.reached in let e : f ≡ g = omega arith in ap Some e

abbrev finishes : List Run → List (Option ℕ)
finishes [] = []
finishes (r ∷ rs) = r.finish ∷ finishes rs

as_many : (rs : List Run) → length (finishes rs) ≡ length rs
as_many [] = refl
as_many (r ∷ rs) = ap suc (as_many rs)

module _ (Fit : ℕ → ℕ → Type 0) (earlier : (s s' f : ℕ) → s' ≤ s → Fit s f → Fit s' f) (n : ℕ) where
  -- between two starts with one finish there is no other
  between : (a b c : ℕ) (o p : Option ℕ) → a ≤ b → b ≤ c → IsLeast (Fit a) n o → IsLeast (Fit c) n o → IsLeast (Fit b) n p → o ≡ p
  between a b c None p le le' first last is = one_least (Fit b) n None p (λ g w h. first g w (earlier b a g le h)) is
  between a b c (Some f) p le le' first last is = one_least (Fit b) n (Some f) p (record { reached = earlier c b f le' last.reached; within = first.within; least = λ g h. first.least g (earlier b a g le h) }) is

  all_in : (s : ℕ) (rs : List Run) (x : ℕ) (o : Option ℕ) → IsRow Fit n s rs → s ≤ x → x ≤ n → IsLeast (Fit x) n o → Contains (finishes rs) o
  all_in s [] x o is a b least = let e : s ≡ n + 1 = is in absurd (omega arith)
  all_in s (r ∷ rs) x o is a b least = by_order (cases_lt r.last x) (is.0.least x a) (λ lt. all_in (r.last + 1) rs x o is.1 lt b least)
    where
      by_order : (r.last < x) ⊎ (x ≤ r.last) → (x ≤ r.last → IsLeast (Fit x) n r.finish) → (r.last + 1 ≤ x → Contains (finishes rs) o) → Contains (finishes (r ∷ rs)) o
      by_order (inl lt) here later = in_tail r.finish (finishes rs) o (later (omega arith))
      by_order (inr le) here later = at_head r.finish (finishes rs) o (one_least (Fit x) n o r.finish least (here le))

  -- a start that has a finish
  record HasStart (s : ℕ) (o : Option ℕ) : Type 0 where
    start : ℕ
    from : s ≤ start
    within : start ≤ n
    least : IsLeast (Fit start) n o

  only_in : (s : ℕ) (rs : List Run) (o : Option ℕ) → IsRow Fit n s rs → Contains (finishes rs) o → HasStart s o
  only_in s [] o is m = absurd (none_in_empty o m)
  only_in s (r ∷ rs) o is m = by_place (contains_cases r.finish (finishes rs) o m) (λ k. only_in (r.last + 1) rs o is.1 k)
    where
      by_place : (o ≡ r.finish) ⊎ Contains (finishes rs) o → (Contains (finishes rs) o → HasStart (r.last + 1) o) → HasStart s o
      by_place (inl e) later =
          let run = is.0 in
          let a = run.begun in
          let b = run.within in
          let P : Option ℕ → Type 0 = λ u. IsLeast (Fit s) n u in
          record { start = s; from = omega arith; within = omega arith; least = subst P (sym e) (run.least s (omega arith) a) }
      by_place (inr k) later =
          let there = later k in
          let run = is.0 in
          let a = run.begun in
          let b = there.from in
          record { start = there.start; from = omega arith; within = there.within; least = there.least }

  new : (s : ℕ) (r : Run) (rs : List Run) → IsRow Fit n s (r ∷ rs) → IsApartFrom r rs → Contains (finishes rs) r.finish → ⊥
  new s r [] is apart m = none_in_empty r.finish m
  new s r (x ∷ xs) is apart m =
      let there = only_in (r.last + 1) (x ∷ xs) r.finish is.1 m in
      let run = is.0 in
      let next = is.1.0 in
      apart (between r.last (r.last + 1) there.start r.finish x.finish (omega arith) there.from (run.least r.last run.begun (omega arith)) there.least (next.least (r.last + 1) (omega arith) next.begun))

  once : (s : ℕ) (rs : List Run) → IsRow Fit n s rs → AreApart rs → Once (finishes rs)
  once s [] is are = once_none
  once s (r ∷ rs) is are = once_more r.finish (finishes rs) (new s r rs is are.0) (once (r.last + 1) rs is.1 are.1)

  pub number_is : (rs : List Run) → IsRow Fit n 0 rs → AreApart rs → IsNumberOfAnswers Fit n (length rs)
  number_is rs is are = record {
    answers = finishes rs;
    as_many = as_many rs;
    once = once 0 rs is are;
    has = λ s o le least. all_in 0 rs s o is (omega arith) le least;
    only = λ o m. let there = only_in 0 rs o is m in (there.start, there.within, there.least);
  }
