-- What is told of the order of a candidate's children is so, and where the candidate fits they are in order.
use Rattle.std.proofs.Common.{◌≡◌, ℕ, zero, suc, ◌+◌, ◌<◌, ◌≤◌, ◌⊎◌, inl, inr, Bool, true, false, List, [], ◌∷◌, length, refl, sym, subst, arith, Contains}
use Rattle.std.specs.Prelude.{◌&&◌, nat_le, take}
use Rattle.std.specs.List.{slice_index_or}
use Rattle.std.proofs.lemmas.Bool.{cases_lt, le-leb}
use Rattle.hv_lists.proofs.Bools.{and_both, or_left, or_right}
use Rattle.hv_lists.proofs.Contained.{at_head, in_tail, none_in_empty, contains_cases}
use Rattle.hv_plan.specs.TreeViews.{child_view}
use Rattle.hv_plan.specs.declared.tree.Child.{Child}
use Rattle.hv_plan.specs.declared.tree.Child.TheVariants as children
use Rattle.hv_order.specs.Settings.{Setting}
use Rattle.hv_order.specs.inside.Arrangements.{Arrangement, listed_before}
use Rattle.hv_order.specs.inside.Children.{child_at, ChildFits}
use Rattle.hv_order.specs.inside.Ends.{item_end}
use Rattle.hv_order.specs.inside.Facts.{FitsWith}
use Rattle.hv_order.specs.inside.Firsts.{never, item_first}
use Rattle.hv_order.specs.inside.Frames.{IsArranged}
use Rattle.hv_order.specs.inside.PlanFacts.{FitsNode, plan_facts}
use Rattle.hv_order.specs.inside.Spans.{AreSpans, is_behind, is_behind_all, are_behind, is_in_order, IsMisplaced}
use Rattle.hv_order.specs.declared.spans.Spans.{Spans}
use Rattle.hv_order.proofs.EndLemmas.{node_behind}
use Rattle.hv_order.proofs.FirstLemmas.{node_before}

not_left : (a b : Bool) → a ≡ false → (a && b) ≡ false
not_left false b e = refl
not_left true b e = absurd (let clash : true ≡ false = e in cc)

not_right : (a b : Bool) → b ≡ false → (a && b) ≡ false
not_right true b e = e
not_right false b e = refl

-- lists that agree up to a place have the same there
pub agreed : {X : Type 0} (d : X) (n : ℕ) (xs ys : List X) (k : ℕ) → take n xs ≡ take n ys → k < n → slice_index_or xs k d ≡ slice_index_or ys k d
agreed d zero xs ys k e lt = absurd (omega (arith, lt))
agreed d (suc n) [] [] k e lt = refl
agreed d (suc n) [] (y ∷ ys) k e lt = absurd (let clash : [] ≡ y ∷ take n ys = e in cc)
agreed d (suc n) (x ∷ xs) [] k e lt = absurd (let clash : x ∷ take n xs ≡ [] = e in cc)
agreed d (suc n) (x ∷ xs) (y ∷ ys) zero e lt = let same : x ∷ take n xs ≡ y ∷ take n ys = e in cc
agreed d (suc n) (x ∷ xs) (y ∷ ys) (suc k) e lt = let same : x ∷ take n xs ≡ y ∷ take n ys = e in agreed d n xs ys k (let rest : take n xs ≡ take n ys = cc in rest) (omega (arith, lt))

module _ (s : Spans) where
  -- where each of some subtasks has a child that another is behind, it is behind all of these
  pub all_true : (cs : List Child) (y : Child) (is : List ℕ) → ((i : ℕ) → Contains is i → is_behind s (child_view (child_at cs i)) (child_view y) ≡ true) → is_behind_all s cs y is ≡ true
  all_true cs y [] each = refl
  all_true cs y (i ∷ is) each =
      and_both (is_behind s (child_view (child_at cs i)) (child_view y)) (is_behind_all s cs y is)
      (each i (at_head i is i refl)) (all_true cs y is (λ k m. each k (in_tail i is k m)))

  one_false : (cs : List Child) (y : Child) (is : List ℕ) (i : ℕ) → Contains is i → is_behind s (child_view (child_at cs i)) (child_view y) ≡ false → is_behind_all s cs y is ≡ false
  one_false cs y [] i m e = absurd (none_in_empty i m)
  one_false cs y (k ∷ is) i m e = by (contains_cases k is i m) (λ later. one_false cs y is i later e)
    where
      by : (i ≡ k) ⊎ Contains is i → (Contains is i → is_behind_all s cs y is ≡ false) → (is_behind s (child_view (child_at cs k)) (child_view y) && is_behind_all s cs y is) ≡ false
      by (inl same) rest = not_left (is_behind s (child_view (child_at cs k)) (child_view y)) (is_behind_all s cs y is) (subst (λ (n : ℕ). is_behind s (child_view (child_at cs n)) (child_view y) ≡ false) same e)
      by (inr later) rest = not_right (is_behind s (child_view (child_at cs k)) (child_view y)) (is_behind_all s cs y is) (rest later)

  rows_true :
      (cs : List Child) (j : ℕ) (lists : List (List ℕ)) → ((l : ℕ) → l < length lists → is_behind_all s cs (child_at cs (j + l)) (listed_before lists l) ≡ true)
      → are_behind s cs j lists ≡ true
  rows_true cs j [] each = refl
  rows_true cs j (is ∷ lists) each =
      let here : j + 0 ≡ j = omega arith in
      let P : ℕ → Type 0 = λ n. is_behind_all s cs (child_at cs n) is ≡ true in
      let further : (l : ℕ) → l < length lists → is_behind_all s cs (child_at cs (j + 1 + l)) (listed_before lists l) ≡ true =
      λ l lt. let same : j + suc l ≡ j + 1 + l = omega arith in let Q : ℕ → Type 0 = λ n. is_behind_all s cs (child_at cs n) (listed_before lists l) ≡ true in subst Q same (each (suc l) (omega (arith, lt))) in
      and_both (is_behind_all s cs (child_at cs j) is) (are_behind s cs (j + 1) lists)
      (subst P here (each 0 (omega arith))) (rows_true cs (j + 1) lists further)

  pub in_order_true : (cs : List Child) (lists : List (List ℕ)) → ((l : ℕ) → l < length lists → is_behind_all s cs (child_at cs l) (listed_before lists l) ≡ true) → are_behind s cs 0 lists ≡ true
  in_order_true cs lists each =
      rows_true cs 0 lists
      (λ l lt. let same : l ≡ 0 + l = omega arith in let P : ℕ → Type 0 = λ n. is_behind_all s cs (child_at cs n) (listed_before lists l) ≡ true in subst P same (each l lt))

  row_false :
      (cs : List Child) (j : ℕ) (lists : List (List ℕ)) (l : ℕ) → l < length lists → is_behind_all s cs (child_at cs (j + l)) (listed_before lists l) ≡ false
      → are_behind s cs j lists ≡ false
  row_false cs j [] l lt e = absurd (omega (arith, lt))
  row_false cs j (is ∷ lists) zero lt e =
      let here : j + 0 ≡ j = omega arith in
      let P : ℕ → Type 0 = λ n. is_behind_all s cs (child_at cs n) is ≡ false in
      not_left (is_behind_all s cs (child_at cs j) is) (are_behind s cs (j + 1) lists) (subst P here e)
  row_false cs j (is ∷ lists) (suc l) lt e =
      let same : j + suc l ≡ j + 1 + l = omega arith in
      let P : ℕ → Type 0 = λ n. is_behind_all s cs (child_at cs n) (listed_before lists l) ≡ false in
      not_right (is_behind_all s cs (child_at cs j) is) (are_behind s cs (j + 1) lists) (row_false cs (j + 1) lists l (omega (arith, lt)) (subst P same e))

  -- what is not listed has nothing before it
  within : (lists : List (List ℕ)) (l i : ℕ) → Contains (listed_before lists l) i → l < length lists
  within [] l i m = absurd (none_in_empty i m)
  within (is ∷ lists) zero i m = omega arith
  within (is ∷ lists) (suc l) i m = let rest = within lists l i m in omega (arith, rest)

  -- with the same children up to the last of a pair that is out of order nothing is in order
  pub misplaced_alike :
      (cs cs' : List Child) (lists : List (List ℕ)) (last : ℕ) → IsMisplaced s cs lists last → take (last + 1) cs' ≡ take (last + 1) cs → are_behind s cs' 0 lists ≡ false
  misplaced_alike cs cs' lists last m e =
      let former = agreed (children.Action 0) (last + 1) cs' cs m.former e (omega (arith, m.of_former)) in
      let latter = agreed (children.Action 0) (last + 1) cs' cs m.latter e (omega (arith, m.of_latter)) in
      let apart : is_behind s (child_view (child_at cs' m.former)) (child_view (child_at cs' m.latter)) ≡ false =
      subst (λ (c : Child). is_behind s (child_view c) (child_view (child_at cs' m.latter)) ≡ false) (sym former)
      (subst (λ (c : Child). is_behind s (child_view (child_at cs m.former)) (child_view c) ≡ false) (sym latter) m.pair.apart) in
      let same : m.latter ≡ 0 + m.latter = omega arith in
      let P : ℕ → Type 0 = λ n. is_behind_all s cs' (child_at cs' n) (listed_before lists m.latter) ≡ false in
      row_false cs' 0 lists m.latter (within lists m.latter m.former m.pair.listed)
      (subst P same (one_false cs' (child_at cs' m.latter) (listed_before lists m.latter) m.former m.pair.listed apart))

-- where a candidate fits, its children are in order
module _ (q : Setting) (s : Spans) (are : AreSpans q.tree s) where
  ends_by : (x : Child) (a b : ℕ) → ChildFits (FitsNode q) x a b → item_end s.ends.items (child_view x) ≤ b
  ends_by (children.Action k) a b (late, early) = omega (arith, early)
  ends_by (children.Node v) a b fits = node_behind q s.ends.items are.ends v a b fits

  begins_by : (x : Child) (n a b : ℕ) → n ≤ never → n ≤ a → ChildFits (FitsNode q) x a b → n ≤ item_first s.firsts.items (child_view x)
  begins_by (children.Action k) n a b small le (late, early) = omega (arith, le, late)
  begins_by (children.Node v) n a b small le fits = node_before q s.firsts.items are.firsts v n a b small le fits

  behind : (x y : Child) (a b a' b' : ℕ) → ChildFits (FitsNode q) x a b → ChildFits (FitsNode q) y a' b' → b ≤ a' → is_behind s (child_view x) (child_view y) ≡ true
  behind x y a b a' b' fits fits' le = by (cases_lt never a')
    where
      by : (never < a') ⊎ (a' ≤ never) → is_behind s (child_view x) (child_view y) ≡ true
      by (inl large) =
          let n = begins_by y never a' b' (omega arith) (omega (arith, large)) fits' in
          or_left (nat_le never (item_first s.firsts.items (child_view y))) (nat_le (item_end s.ends.items (child_view x)) (item_first s.firsts.items (child_view y))) (le-leb never (item_first s.firsts.items (child_view y)) n)
      by (inr small) =
          let n = begins_by y a' a' b' small (omega arith) fits' in
          let e = ends_by x a b fits in
          or_right (nat_le never (item_first s.firsts.items (child_view y))) (nat_le (item_end s.ends.items (child_view x)) (item_first s.firsts.items (child_view y)))
          (le-leb (item_end s.ends.items (child_view x)) (item_first s.firsts.items (child_view y)) (omega (arith, n, e, le)))

  pub fits_in_order : (c : Arrangement) (from f : ℕ) → length c.direct ≡ length c.children → IsArranged (plan_facts q) c → FitsWith (plan_facts q) from c f → is_in_order s c ≡ true
  fits_in_order c from f as_many arranged fits =
      in_order_true s c.children c.direct
      (λ j lt. all_true s c.children (child_at c.children j) (listed_before c.direct j)
      (λ i m.
      let within : j < length c.children = omega (arith, lt, as_many) in
      let (is, comes) = (arranged.directs j within).sound i m in
      let t = fits.together in
      behind (child_at c.children i) (child_at c.children j) (t.start i) (t.finish i) (t.start j) (t.finish j) (t.fits i is) (t.fits j within) (t.order i j is within comes)))
