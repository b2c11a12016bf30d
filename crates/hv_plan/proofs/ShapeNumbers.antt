-- The numbers that a walk gives from its end on, and what has them.
use Rattle.std.proofs.Common.{◌≡◌, ◌≢◌, ◌+◌, ◌-◌, ◌<◌, ◌≤◌, ◌⊎◌, inl, inr, ℕ, zero, suc, Bool, true, false, cond, nat_lt, refl, drop, ltb-true, ltb-false, List, [], ◌∷◌, ◌++◌, sym, ap, ◌∙◌, arith, length, set, slice_index, length-set, get_or-set_same, get_or-set_other}
use Rattle.std.specs.List.{flat_map}
use Rattle.std.proofs.Math.Seq.{drop-cons}
use Rattle.hv_lists.specs.Lists.{Once}
use Rattle.hv_lists.proofs.Places.{push_front, push_last, length_pushed, below_pushed}
use Rattle.hv_lists.proofs.EachOnce.{same_place}
use Rattle.hv_lists.proofs.Numbers.{either_side}
use Rattle.hv_plan.specs.inside.Shaping.{IsNumbering, line_in, backward}

drop-length : (xs : List ℕ) → drop (length xs) xs ≡ []
drop-length [] = refl
drop-length (x ∷ xs) = drop-length xs

true-ltb : (a b : ℕ) → a < b → nat_lt a b ≡ true
true-ltb a b lt = by (nat_lt a b) refl where
  by : (t : Bool) → nat_lt a b ≡ t → nat_lt a b ≡ true
  by true e = e
  by false e = let ge : b ≤ a = ltb-false a b e in absurd (omega (arith, lt, ge))

false-ltb : (a b : ℕ) → b ≤ a → nat_lt a b ≡ false
false-ltb a b ge = by (nat_lt a b) refl where
  by : (t : Bool) → nat_lt a b ≡ t → nat_lt a b ≡ false
  by true e = let lt : a < b = ltb-true a b e in absurd (omega (arith, lt, ge))
  by false e = e

no_place : (k : ℕ) → k < 0 → ⊥
no_place k w = omega arith

pub no_numbers : (actions : ℕ) (met numbers : List ℕ) → IsNumbering actions (length met) met [] numbers
no_numbers actions met numbers = record {
  back = λ v w. absurd (no_place v w);
  was_met = λ v w. absurd (no_place v w);
  given = λ b k le w e. absurd (apart b le w);
  falling = λ a b j k le lt w e f. absurd (apart b (omega (arith, le, lt)) w);
  in_order = ap (flat_map (line_in actions)) (drop-length met);
}
  where
    apart : (b : ℕ) → length met ≤ b → b < length met → ⊥
    apart b le w = omega (arith, le, w)

module _ (actions at : ℕ) (met lines numbers : List ℕ) where
  next : at < length met → drop at met ≡ slice_index met at ∷ drop (at + 1) met
  next lt = let e : suc at ≡ at + 1 = omega arith in drop-cons met at 0 lt ∙ ap (λ k. slice_index met at ∷ drop k met) e

  pub no_number : at < length met → slice_index met at < actions → IsNumbering actions (at + 1) met lines numbers → IsNumbering actions at met lines numbers
  no_number here_is less so_far = record {
    back = so_far.back;
    was_met = λ v w. let m = so_far.was_met v w in let le : at + 1 ≤ m.0 = m.1 in (m.0, omega (arith, le), m.2, m.3);
    given = λ b k le w e. so_far.given b k (later b k le e) w e;
    falling = λ a b j k le lt w e f. so_far.falling a b j k (later a j le e) lt w e f;
    in_order = ap (flat_map (line_in actions)) (next here_is) ∙ ap (λ zs. zs ++ flat_map (line_in actions) (drop (at + 1) met)) no_line ∙ so_far.in_order;
  }
    where
      no_line : line_in actions (slice_index met at) ≡ []
      no_line = ap (λ b. cond b [] ((slice_index met at - actions) ∷ [])) (true-ltb (slice_index met at) actions less)

      here : (b k : ℕ) → slice_index met b ≡ actions + k → b ≡ at → ⊥
      here b k e q = let f : slice_index met at ≡ actions + k = ap (slice_index met) (sym q) ∙ e in omega (arith, f, less)

      later : (b k : ℕ) → at ≤ b → slice_index met b ≡ actions + k → at + 1 ≤ b
      later b k le e = by (either_side at b) where
        by : (at < b) ⊎ (b ≤ at) → at + 1 ≤ b
        by (inl o) = omega (arith, o)
        by (inr o) = absurd (here b k e (omega (arith, o, le)))

  module _ (line : ℕ) (lt : at < length met) (once : Once met) (is : slice_index met at ≡ actions + line) (within : line < length numbers) (so_far : IsNumbering actions (at + 1) met lines numbers) where
    abbrev more : List ℕ
    more = lines ++ line ∷ []

    abbrev new : List ℕ
    new = set numbers line (length lines)

    new_here : slice_index new line ≡ length lines
    new_here = get_or-set_same numbers line (length lines) 0 within

    new_there : (j : ℕ) → j ≢ line → slice_index new j ≡ slice_index numbers j
    new_there j n = get_or-set_other numbers line j (length lines) 0 n

    long : length new ≡ length numbers
    long = length-set numbers line (length lines)

    longer : length more ≡ length lines + 1
    longer = length_pushed lines line

    -- only at this place of the walk stands the line
    only : (b k : ℕ) → b < length met → slice_index met b ≡ actions + k → k ≡ line → b ≡ at
    only b k w e q = same_place met once b at w lt (e ∙ ap (λ j. actions + j) q ∙ sym is)

    fresh : (v : ℕ) → v < length lines → slice_index lines v ≢ line
    fresh v w q =
        let m = so_far.was_met v w in
        let le : at + 1 ≤ m.0 = m.1 in
        let e : m.0 ≡ at = only m.0 (slice_index lines v) m.2 m.3 q in
        omega (arith, le, e)

    other : (b k : ℕ) → at < b → b < length met → slice_index met b ≡ actions + k → k ≢ line
    other b k o w e q = let s : b ≡ at = only b k w e q in omega (arith, o, s)

    line_at : (b k : ℕ) → slice_index met b ≡ actions + k → b ≡ at → k ≡ line
    line_at b k e q = let f : actions + k ≡ actions + line = sym e ∙ ap (slice_index met) q ∙ is in omega (arith, f)

    back_at : (v : ℕ) → (v < length lines) ⊎ (v ≡ length lines) → (slice_index more v < length new) × (slice_index new (slice_index more v) ≡ v)
    back_at v (inl w) =
        let o = so_far.back v w in
        let front : slice_index more v ≡ slice_index lines v = push_front lines line v w in
        let less : slice_index lines v < length numbers = o.0 in
        let l = long in
        (omega (arith, front, less, l), ap (slice_index new) front ∙ new_there (slice_index lines v) (fresh v w) ∙ o.1)
    back_at v (inr q) =
        let last : slice_index more v ≡ line = ap (slice_index more) q ∙ push_last lines line in
        let l = long in
        (omega (arith, last, within, l), ap (slice_index new) last ∙ new_here ∙ sym q)

    was_at : (v : ℕ) → (v < length lines) ⊎ (v ≡ length lines) → (b : ℕ) × (at ≤ b) × (b < length met) × (slice_index met b ≡ actions + slice_index more v)
    was_at v (inl w) =
        let m = so_far.was_met v w in
        let le : at + 1 ≤ m.0 = m.1 in
        (m.0, omega (arith, le), m.2, m.3 ∙ ap (λ j. actions + j) (sym (push_front lines line v w)))
    was_at v (inr q) = (at, omega arith, lt, is ∙ ap (λ j. actions + j) (sym (ap (slice_index more) q ∙ push_last lines line)))

    given_at : (b k : ℕ) → b < length met → slice_index met b ≡ actions + k → (at < b) ⊎ (b ≡ at) → (slice_index new k < length more) × (slice_index more (slice_index new k) ≡ k)
    given_at b k w e (inl o) =
        let g = so_far.given b k (omega (arith, o)) w e in
        let same : slice_index new k ≡ slice_index numbers k = new_there k (other b k o w e) in
        let less : slice_index numbers k < length lines = g.0 in
        let l = longer in
        (omega (arith, same, less, l), ap (slice_index more) same ∙ push_front lines line (slice_index numbers k) g.0 ∙ g.1)
    given_at b k w e (inr q) =
        let s : k ≡ line = line_at b k e q in
        let n : slice_index new k ≡ length lines = ap (slice_index new) s ∙ new_here in
        let l = longer in
        (omega (arith, n, l), ap (slice_index more) n ∙ push_last lines line ∙ sym s)

    side : (b : ℕ) → at ≤ b → (at < b) ⊎ (b ≡ at)
    side b le = by (either_side at b) where
      by : (at < b) ⊎ (b ≤ at) → (at < b) ⊎ (b ≡ at)
      by (inl o) = inl o
      by (inr o) = inr (omega (arith, o, le))

    falls : (a b j k : ℕ) → a < b → b < length met → slice_index met a ≡ actions + j → slice_index met b ≡ actions + k → at < b → (at < a) ⊎ (a ≡ at) → slice_index new k < slice_index new j
    falls a b j k o w e f beyond (inl p) =
        let sj : slice_index new j ≡ slice_index numbers j = new_there j (other a j p (omega (arith, o, w)) e) in
        let sk : slice_index new k ≡ slice_index numbers k = new_there k (other b k beyond w f) in
        let less : slice_index numbers k < slice_index numbers j = so_far.falling a b j k (omega (arith, p)) o w e f in
        omega (arith, sj, sk, less)
    falls a b j k o w e f beyond (inr q) =
        let sk : slice_index new k ≡ slice_index numbers k = new_there k (other b k beyond w f) in
        let g = so_far.given b k (omega (arith, beyond)) w f in
        let less : slice_index numbers k < length lines = g.0 in
        let n : slice_index new j ≡ length lines = ap (slice_index new) (line_at a j e q) ∙ new_here in
        omega (arith, sk, less, n)

    pub one_number : IsNumbering actions at met more new
    one_number = record {
      back = λ v w. back_at v (below_pushed lines line v w);
      was_met = λ v w. was_at v (below_pushed lines line v w);
      given = λ b k le w e. given_at b k w e (side b le);
      falling = λ a b j k le o w e f. falls a b j k o w e f (omega (arith, le, o)) (side a le);
      in_order = ap (flat_map (line_in actions)) (next lt) ∙ ap (λ zs. zs ++ flat_map (line_in actions) (drop (at + 1) met)) one_line ∙ ap (λ zs. line ∷ zs) so_far.in_order ∙ sym listed;
    }
      where
        one_line : line_in actions (slice_index met at) ≡ line ∷ []
        one_line =
            let ge : actions ≤ slice_index met at = omega (arith, is) in
            let back : slice_index met at - actions ≡ line = omega (arith, is) in
            ap (λ b. cond b [] ((slice_index met at - actions) ∷ [])) (false-ltb (slice_index met at) actions ge) ∙ ap (λ k. k ∷ []) back

        front : (n : ℕ) → n ≤ length lines → backward more n ≡ backward lines n
        front zero le = refl
        front (suc n) le =
            let first : slice_index more n ≡ slice_index lines n = push_front lines line n (omega (arith, le)) in
            let rest : backward more n ≡ backward lines n = front n (omega (arith, le)) in
            λ i. first i ∷ rest i

        listed : backward more (length more) ≡ line ∷ backward lines (length lines)
        listed =
            let l : length more ≡ suc (length lines) = let k = longer in omega (arith, k) in
            let last : slice_index more (length lines) ≡ line = push_last lines line in
            let rest : backward more (length lines) ≡ backward lines (length lines) = front (length lines) (omega arith) in
            ap (backward more) l ∙ (λ i. last i ∷ rest i)
