-- The lines of a certificate and the places of nodes.
use Rattle.std.proofs.Common.{◌≡◌, ◌≢◌, ℕ, zero, suc, ◌+◌, ◌-◌, ◌<◌, ◌≤◌, ◌⊎◌, inl, inr, List, [], ◌∷◌, Some, None, length, drop, slice_get, refl, sym, ◌∙◌, subst, arith}
use Rattle.std.specs.Prelude.{slice_index}
use Rattle.std.specs.List.{AllZip, slice_set}
use Rattle.std.proofs.lemmas.List.{get_or-set_same, get_or-set_other, length-set}
use Rattle.std.proofs.lemmas.Option.{slice_get_within}
use Rattle.hv_world.specs.Worlds.{World}
use Rattle.hv_plan.specs.Trees.{Task}
use Rattle.hv_plan.specs.PlanTrees.{PlanTree, IsTreeIn, StandsFor}
use Rattle.hv_order.specs.Certified.{line_numbers}
use Rattle.hv_order.specs.Misfits.{IsPart}
use Rattle.hv_order.specs.inside.Checks.{HasIdOf, HasLines, HasLineAt, IsOtherAt, ArePlaces}
use Rattle.hv_certificate.specs.declared.certificate.Choice.{Choice}
use Rattle.hv_certificate.specs.declared.certificate.Certificate.{Certificate}
use Rattle.hv_order.proofs.Checking.{behind_root}
use Rattle.hv_order.proofs.ToldApart.{one_stand, one_id}
use Rattle.hv_order.proofs.TreeLines.{as_many_in_order, within_order, place_of}

-- lists of one length are zipped where it is so place by place
zip_from : {A B : Type 0} (R : A → B → Type 0) (xs : List A) (ys : List B) → length xs ≡ length ys
    → ((i : ℕ) (x : A) (y : B) → slice_get xs i ≡ Some x → slice_get ys i ≡ Some y → R x y) → AllZip R xs ys
zip_from R [] [] n each = tt
zip_from R [] (y ∷ ys) n each = absurd (let z : 0 ≡ suc (length ys) = n in omega (arith, z))
zip_from R (x ∷ xs) [] n each = absurd (let z : suc (length xs) ≡ 0 = n in omega (arith, z))
zip_from R (x ∷ xs) (y ∷ ys) n each =
    let m : suc (length xs) ≡ suc (length ys) = n in
    (each 0 x y refl refl, zip_from R xs ys (omega (arith, m)) (λ i a b e f. each (suc i) a b e f))

pub count_lines : (t : PlanTree) → length (line_numbers t) ≡ length t.order - 1
count_lines t = by t.order
  where
    by : (xs : List ℕ) → length (drop 1 xs) ≡ length xs - 1
    by [] = refl
    by (x ∷ xs) = omega arith

module _ (w : World) (t : PlanTree) (is : IsTreeIn w t) where
  -- each node but the root line's is that of a decomposition line
  pub many : length t.nodes ≡ length (line_numbers t) + 1
  many = let n = as_many_in_order w t is in let m = count_lines t in let some = is.is_tree.last in omega (arith, n, m, some)

  -- the line at a place begins with another id, or there is none
  pub other_id : (c : Certificate) (k v i : ℕ) (x : ℕ × Choice × ℕ) → 0 < k → slice_get t.order k ≡ Some v → slice_get c.lines.items (k - 1) ≡ Some x → StandsFor t i (Task v) → x.0 ≢ i → IsOtherAt t c k
  other_id c zero v i x low at_v at_x id other = absurd (omega (arith, low))
  other_id c (suc k) v i x low at_v at_x id other = (
    k,
    refl,
    record {
      there = inr (slice_get_within c.lines.items k x here);
      differ = λ u l at_u at_l has.
          let both : Some u ≡ Some v = sym (behind_root t k u at_u) ∙ at_v in
          let same : u ≡ v = cc in
          let lines : Some l ≡ Some x = sym at_l ∙ here in
          let line : l ≡ x = cc in
          let P : ℕ → Type 0 = λ y. HasIdOf t y l in
          let Q : ℕ × Choice × ℕ → Type 0 = λ z. HasIdOf t v z in
          other (one_id t x.0 i (Task v) (subst Q line (subst P same has)) id);
    },
  )
    where
      here : slice_get c.lines.items k ≡ Some x
      here = let P : ℕ → Type 0 = λ n. slice_get c.lines.items n ≡ Some x in let back : suc k - 1 ≡ k = omega arith in subst P back at_x

  pub no_line : (c : Certificate) (k : ℕ) → 0 < k → k < length t.nodes → slice_get c.lines.items (k - 1) ≡ None → IsOtherAt t c k
  no_line c zero low lt none = absurd (omega (arith, low))
  no_line c (suc k) low lt none = (
    k,
    refl,
    record {
      there = inl (omega (arith, lt, many));
      differ = λ u l at_u at_l has. absurd (let clash : Some l ≡ None = sym at_l ∙ here in cc);
    },
  )
    where
      here : slice_get c.lines.items k ≡ None
      here = let P : ℕ → Type 0 = λ n. slice_get c.lines.items n ≡ None in let back : suc k - 1 ≡ k = omega arith in subst P back none

  pub its_line : (c : Certificate) (k v i : ℕ) (x : ℕ × Choice × ℕ) → slice_get t.order k ≡ Some v → slice_get c.lines.items (k - 1) ≡ Some x → StandsFor t i (Task v) → x.0 ≡ i → HasLineAt t c k
  its_line c k v i x at_v at_x id same =
      let P : ℕ → Type 0 = λ n. StandsFor t n (Task v) in
      (v, x, at_v, at_x, subst P (sym same) id)

  -- a line behind those of all nodes
  pub one_too_many : (c : Certificate) (k : ℕ) → k ≡ length t.nodes → k ≤ length c.lines.items → IsOtherAt t c k
  one_too_many c zero e le = absurd (let some = is.is_tree.last in omega (arith, e, some))
  one_too_many c (suc k) e le = (
    k,
    refl,
    record {
      there = inr (omega (arith, le));
      differ = λ u l at_u at_l has. absurd (let lt = slice_get_within (line_numbers t) k u at_u in omega (arith, lt, e, many));
    },
  )

  pub all_lines : (c : Certificate) (n : ℕ) → n ≡ length t.nodes → length c.lines.items < n → ((k : ℕ) → 0 < k → k < n → HasLineAt t c k) → HasLines t c
  all_lines c n e few each =
      zip_from (HasIdOf t) (line_numbers t) c.lines.items (as_many n e few each)
      (λ i v x at_v at_x.
      let lt = slice_get_within (line_numbers t) i v at_v in
      let (u, l, at_u, at_l, id) = each (suc i) (omega arith) (omega (arith, lt, e, many)) in
      let nodes : Some u ≡ Some v = sym at_u ∙ behind_root t i v at_v in
      let node : u ≡ v = cc in
      let P : ℕ → Type 0 = λ n. slice_get c.lines.items n ≡ Some l in
      let back : suc i - 1 ≡ i = omega arith in
      let lines : Some l ≡ Some x = sym (subst P back at_l) ∙ at_x in
      let line : l ≡ x = cc in
      let Q : ℕ → Type 0 = λ y. HasIdOf t y l in
      let R : ℕ × Choice × ℕ → Type 0 = λ z. HasIdOf t v z in
      subst R line (subst Q node id))
    where
      as_many : (n : ℕ) → n ≡ length t.nodes → length c.lines.items < n → ((k : ℕ) → 0 < k → k < n → HasLineAt t c k) → length (line_numbers t) ≡ length c.lines.items
      as_many zero e few each = absurd (omega (arith, few))
      as_many (suc zero) e few each = omega (arith, e, few, many)
      as_many (suc (suc k)) e few each =
          let (u, l, at_u, at_l, id) = each (suc k) (omega arith) (omega arith) in
          let lt = slice_get_within c.lines.items (suc k - 1) l at_l in
          omega (arith, e, few, lt, many)

  -- one place more
  pub place_more : (ps : List ℕ) (k v : ℕ) → slice_get t.order k ≡ Some v → (length ps ≡ length t.nodes) × ((j u : ℕ) → j < k → slice_get t.order j ≡ Some u → slice_index ps u ≡ j)
      → (length (slice_set ps v k) ≡ length t.nodes) × ((j u : ℕ) → j < k + 1 → slice_get t.order j ≡ Some u → slice_index (slice_set ps v k) u ≡ j)
  place_more ps k v at so_far = (length-set ps v k ∙ so_far.0, λ j u lt at_u. each j u lt at_u (compare j k))
    where
      compare : (a b : ℕ) → (a < b) ⊎ (b ≤ a)
      compare a b = grind arith

      each : (j u : ℕ) → j < k + 1 → slice_get t.order j ≡ Some u → (j < k) ⊎ (k ≤ j) → slice_index (slice_set ps v k) u ≡ j
      each j u lt at_u (inl less) =
          get_or-set_other ps v u k 0 (λ same.
          let P : ℕ → Type 0 = λ n. slice_get t.order j ≡ Some n in
          let one = one_stand t.order is.is_tree.once j k v (subst P same at_u) at in
          omega (arith, one, less))
          ∙ so_far.1 j u less at_u
      each j u lt at_u (inr past) =
          let here : k ≡ j = omega (arith, past, lt) in
          let P : ℕ → Type 0 = λ n. slice_get t.order n ≡ Some v in
          let nodes : Some v ≡ Some u = sym (subst P here at) ∙ at_u in
          let same : v ≡ u = cc in
          let Q : ℕ → Type 0 = λ n. slice_index (slice_set ps v k) n ≡ k in
          subst Q same (get_or-set_same ps v k 0 (let w' = within_order w t is k v at in omega (arith, w', so_far.0))) ∙ here

  pub all_placed : (ps : List ℕ) (n : ℕ) → length t.nodes ≤ n → (length ps ≡ length t.nodes) × ((j u : ℕ) → j < n → slice_get t.order j ≡ Some u → slice_index ps u ≡ j) → ArePlaces t ps
  all_placed ps n whole placed = record {
    as_many = placed.0;
    each = λ v lt.
        let (k, at) = place_of w t is v lt in
        let less = slice_get_within t.order k v at in
        let count = as_many_in_order w t is in
        let P : ℕ → Type 0 = λ j. slice_get t.order j ≡ Some v in
        subst P (sym (placed.1 k v (omega (arith, less, count, whole)) at)) at;
  }

-- what a line says is the part of its place
pub line_is_part : (c : Certificate) (place line : ℕ) (x : ℕ × Choice × ℕ) (s : Choice) (k : ℕ) → place ≡ line + 1 → slice_get c.lines.items line ≡ Some x → s ≡ x.1 → k ≡ x.2 → IsPart c place s k
line_is_part c zero line x s k e at choice index = absurd (omega (arith, e))
line_is_part c (suc i) line x s k e at choice index =
    let same : line ≡ i = omega (arith, e) in
    let P : ℕ → Type 0 = λ n. slice_get c.lines.items n ≡ Some x in
    (x.0, subst P same at ∙ rw (choice, index) refl)
