-- How one turn of a search changes what is to come, and how many steps are left.
use Rattle.std.proofs.lemmas.List.Elements.{All-push}
use Rattle.std.proofs.Common.{◌^◌, ◌≡◌, ℕ, zero, suc, ◌+◌, ◌-◌, ◌<◌, ◌≤◌, Bool, false, List, [], ◌∷◌, ◌++◌, length, take, drop, refl, sym, ap, subst, ◌∙◌, arith, append_assoc, length-append, Contains}
use Rattle.std.proofs.lemmas.List.{append-nil}
use Rattle.std.proofs.lemmas.List.Sums.{sum_by-cons}
use Rattle.hv_lists.proofs.Contained.{at_head, in_tail}
use Rattle.hv_match.specs.inside.Search.{IsPath, below}
use Rattle.hv_match.specs.inside.States.{rest, effort, left, to_come, steps_left, IsState, AreTold}
use Rattle.hv_match.specs.declared.state.State.{State}

drop_all : {X : Type 0} (c : ℕ) (l : List X) → length l ≤ c → drop c l ≡ []
drop_all zero [] h = refl
drop_all (suc c) [] h = refl
drop_all zero (y ∷ l) h = absurd (omega arith)
drop_all (suc c) (y ∷ l) h = drop_all c l (omega arith)

pub mem_drop : {X : Type 0} (c : ℕ) (l : List X) (x : X) (r : List X) → drop c l ≡ x ∷ r → Contains l x
mem_drop zero [] x r e = cc
mem_drop (suc c) [] x r e = cc
mem_drop zero (y ∷ l) x r e = let h : y ≡ x = cc in at_head y l x (sym h)
mem_drop (suc c) (y ∷ l) x r e = in_tail y l x (mem_drop c l x r e)

module _ (options : List ℕ → List ℕ) where
  pub path_push : (p xs : List ℕ) (x : ℕ) → IsPath options p xs → Contains (options (p ++ xs)) x → IsPath options p (xs ++ x ∷ [])
  path_push p [] x h m = (rw append-nil at m, tt)
  path_push p (y ∷ xs) x h m = (h.0, path_push (p ++ y ∷ []) xs x h.1 (rw (append_assoc p (y ∷ []) xs) m))

  pub path_pop : (p xs : List ℕ) (x : ℕ) → IsPath options p (xs ++ x ∷ []) → IsPath options p xs
  path_pop p [] x h = tt
  path_pop p (y ∷ xs) x h = (h.0, path_pop (p ++ y ∷ []) xs x h.1)

  effort_some : (k : ℕ) (p : List ℕ) (c : ℕ) → 0 < effort options k p c
  unfolding effort
  effort_some zero p c = omega arith
  effort_some (suc k) p c = omega arith

  effort_step : (k : ℕ) (p : List ℕ) (c x : ℕ) → drop c (options p) ≡ x ∷ drop (c + 1) (options p) → effort options (suc k) p c ≡ effort options k (p ++ x ∷ []) 0 + 1 + effort options (suc k) p (c + 1)
  unfolding effort
  effort_step k p c x d = rw d (omega (arith, sum_by-cons (λ (z : ℕ). effort options k (p ++ z ∷ []) 0 + 1) x (drop (c + 1) (options p))))

  pub left_some : (k : ℕ) (p : List ℕ) (c : ℕ) → 0 < left options k p [] [] c
  unfolding left
  left_some zero p c = effort_some zero p c
  left_some (suc k) p c = effort_some (suc k) p c

  pub left_taken : (k : ℕ) (p xs ns : List ℕ) (x c : ℕ) → length ns ≡ length xs → length xs < k → drop c (options (p ++ xs)) ≡ x ∷ drop (c + 1) (options (p ++ xs)) →
      left options k p (xs ++ x ∷ []) (ns ++ c ∷ []) 0 < left options k p xs ns c
  unfolding left
  left_taken zero p xs ns x c e lt d = absurd (omega arith)
  left_taken (suc zero) p [] [] x c e lt d = omega (arith, effort_step zero p c x (rw append-nil at d))
  left_taken (suc (suc k)) p [] [] x c e lt d = omega (arith, effort_step (suc k) p c x (rw append-nil at d))
  left_taken (suc k) p [] (n ∷ ns) x c e lt d = absurd (omega arith)
  left_taken (suc k) p (y ∷ xs) [] x c e lt d = absurd (omega arith)
  left_taken (suc k) p (y ∷ xs) (n ∷ ns) x c e lt d =
      omega (arith, left_taken k (p ++ y ∷ []) xs ns x c (omega arith) (omega arith) (rw (append_assoc p (y ∷ []) xs) d))

  pub left_back : (k : ℕ) (p xs ns : List ℕ) (x n c : ℕ) → length ns ≡ length xs → length xs < k →
      left options k p xs ns (n + 1) < left options k p (xs ++ x ∷ []) (ns ++ n ∷ []) c
  unfolding left
  left_back zero p xs ns x n c e lt = absurd (omega arith)
  left_back (suc zero) p [] [] x n c e lt = omega (arith, effort_some zero (p ++ x ∷ []) c)
  left_back (suc (suc k)) p [] [] x n c e lt = omega (arith, effort_some (suc k) (p ++ x ∷ []) c)
  left_back (suc k) p [] (m ∷ ns) x n c e lt = absurd (omega arith)
  left_back (suc k) p (y ∷ xs) [] x n c e lt = absurd (omega arith)
  left_back (suc k) p (y ∷ xs) (m ∷ ns) x n c e lt = omega (arith, left_back k (p ++ y ∷ []) xs ns x n c (omega arith) (omega arith))

module _ (options : List ℕ → List ℕ) (good : List ℕ → Bool) where
  pub coming_taken : (k : ℕ) (p xs ns : List ℕ) (x c : ℕ) → length ns ≡ length xs → length xs < k → drop c (options (p ++ xs)) ≡ x ∷ drop (c + 1) (options (p ++ xs)) →
      rest options good k p (xs ++ x ∷ []) (ns ++ c ∷ []) 0 ≡ rest options good k p xs ns c
  coming_taken zero p xs ns x c e lt d = absurd (omega arith)
  coming_taken (suc zero) p [] [] x c e lt d = let d' = rw append-nil at d in rw d' refl
  coming_taken (suc (suc k)) p [] [] x c e lt d = let d' = rw append-nil at d in rw d' refl
  coming_taken (suc k) p [] (n ∷ ns) x c e lt d = absurd (omega arith)
  coming_taken (suc k) p (y ∷ xs) [] x c e lt d = absurd (omega arith)
  coming_taken (suc k) p (y ∷ xs) (n ∷ ns) x c e lt d =
      ap (λ (l : List (List ℕ)). l ++ below options good (suc k) p (n + 1)) (coming_taken k (p ++ y ∷ []) xs ns x c (omega arith) (omega arith) (rw (append_assoc p (y ∷ []) xs) d))

  pub coming_back : (k j : ℕ) (p xs ns : List ℕ) (x n c : ℕ) → length ns ≡ length xs → j + suc (length xs) ≡ k →
      rest options good k p (xs ++ x ∷ []) (ns ++ n ∷ []) c ≡ below options good j (p ++ (xs ++ x ∷ [])) c ++ rest options good k p xs ns (n + 1)
  coming_back zero j p xs ns x n c e lt = absurd (omega arith)
  coming_back (suc zero) j p [] [] x n c e lt = let i : j ≡ zero = omega arith in rw i refl
  coming_back (suc (suc k)) j p [] [] x n c e lt = let i : j ≡ suc k = omega arith in rw i refl
  coming_back (suc k) j p [] (m ∷ ns) x n c e lt = absurd (omega arith)
  coming_back (suc k) j p (y ∷ xs) [] x n c e lt = absurd (omega arith)
  coming_back (suc k) j p (y ∷ xs) (m ∷ ns) x n c e lt =
      rw (coming_back k j (p ++ y ∷ []) xs ns x n c (omega arith) (omega arith), append_assoc p (y ∷ []) (xs ++ x ∷ []))
      (append_assoc (below options good j (p ++ (y ∷ (xs ++ x ∷ []))) c) (rest options good k (p ++ y ∷ []) xs ns (n + 1)) (below options good (suc k) p (m + 1)))

-- the same for a place, whose lists begin with nothing

pub back_coming : (options : List ℕ → List ℕ) (good : List ℕ → Bool) (levels : ℕ) (xs ns ys ms : List ℕ) (x n c : ℕ) →
    xs ≡ ys ++ x ∷ [] → ns ≡ ms ++ n ∷ [] → length ns ≡ length xs → length xs ≤ levels →
    rest options good levels [] xs ns c ≡ below options good (levels - length xs) xs c ++ rest options good levels [] ys ms (n + 1)
back_coming options good levels xs ns ys ms x n c e f g s =
    let g' : length ms ≡ length ys = omega (arith, ap length e, ap length f, length-append ys (x ∷ []), length-append ms (n ∷ []), g) in
    let j : levels - length xs + suc (length ys) ≡ levels = omega (arith, ap length e, length-append ys (x ∷ []), s) in
    rw (e, f) (let e' = rw e at j in coming_back options good levels (levels - length (ys ++ x ∷ [])) [] ys ms x n c g' e')

pub back_steps : (options : List ℕ → List ℕ) (levels : ℕ) (xs ns ys ms : List ℕ) (x n c : ℕ) →
    xs ≡ ys ++ x ∷ [] → ns ≡ ms ++ n ∷ [] → length ns ≡ length xs → length xs ≤ levels →
    left options levels [] ys ms (n + 1) < left options levels [] xs ns c
back_steps options levels xs ns ys ms x n c e f g s =
    let g' : length ms ≡ length ys = omega (arith, ap length e, ap length f, length-append ys (x ∷ []), length-append ms (n ∷ []), g) in
    let j : length ys < levels = omega (arith, ap length e, length-append ys (x ∷ []), s) in
    rw (e, f) (left_back options levels [] ys ms x n c g' j)

-- no option of that number is left, and nothing follows
pub none_left : (options : List ℕ → List ℕ) (good : List ℕ → Bool) (k : ℕ) (p : List ℕ) (c : ℕ) → 0 < k → length (options p) ≤ c → below options good k p c ≡ []
none_left options good zero p c lt le = absurd (omega arith)
none_left options good (suc k) p c lt le = let d = drop_all c (options p) le in rw d refl

pub none_numbers : (options : List ℕ → List ℕ) (levels : ℕ) (xs ns : List ℕ) (c : ℕ) → length ns ≡ length xs → length ns ≡ 0 → 0 < left options levels [] xs ns c
none_numbers options levels [] [] c e n = left_some options levels [] c
none_numbers options levels [] (m ∷ ns) c e n = absurd (omega arith)
none_numbers options levels (x ∷ xs) [] c e n = absurd (omega arith)
none_numbers options levels (x ∷ xs) (m ∷ ns) c e n = absurd (omega arith)

-- a place that goes one choice deeper
module _ (options : List ℕ → List ℕ) (levels distinct width : ℕ) (a b : State) (x : ℕ) (place : IsState options levels distinct width a) where
  pub descended : length a.chosen.items < levels → drop a.next (options a.chosen.items) ≡ x ∷ drop (a.next + 1) (options a.chosen.items) → a.next + 1 < 2 ^ 64 →
      b.chosen.items ≡ a.chosen.items ++ x ∷ [] → b.numbers.items ≡ a.numbers.items ++ a.next ∷ [] → AreTold b.made_at.items (take distinct (a.chosen.items ++ x ∷ [])) → length b.made_at.items ≡ width
      → IsState options levels distinct width b
  descended short d small e f told wide = record {
    short = omega (arith, ap length e, length-append a.chosen.items (x ∷ []), short);
    even = omega (arith, ap length e, ap length f, length-append a.chosen.items (x ∷ []), length-append a.numbers.items (a.next ∷ []), place.even);
    path = rw e (path_push options [] a.chosen.items x place.path (mem_drop a.next _ x _ d));
    numbers = rw f (All-push (λ n. n + 1 < 2 ^ 64) a.numbers.items a.next place.numbers small);
    told = rw e told;
    wide = wide;
  }

  pub descended_coming : (good : List ℕ → Bool) → a.is_over ≡ false → length a.chosen.items < levels → drop a.next (options a.chosen.items) ≡ x ∷ drop (a.next + 1) (options a.chosen.items) →
      b.chosen.items ≡ a.chosen.items ++ x ∷ [] → b.numbers.items ≡ a.numbers.items ++ a.next ∷ [] → b.next ≡ 0 → b.is_over ≡ a.is_over → to_come options good levels b ≡ to_come options good levels a
  descended_coming good running short d e f n o = rw (o, running, e, f, n) (coming_taken options good levels [] a.chosen.items a.numbers.items x a.next place.even short d)

  pub descended_steps : a.is_over ≡ false → length a.chosen.items < levels → drop a.next (options a.chosen.items) ≡ x ∷ drop (a.next + 1) (options a.chosen.items) →
      b.chosen.items ≡ a.chosen.items ++ x ∷ [] → b.numbers.items ≡ a.numbers.items ++ a.next ∷ [] → b.next ≡ 0 → b.is_over ≡ a.is_over → steps_left options levels b < steps_left options levels a
  descended_steps running short d e f n o = rw (o, running, e, f, n) (left_taken options levels [] a.chosen.items a.numbers.items x a.next place.even short d)

-- a choice that leads to nothing is passed over
module _ (options : List ℕ → List ℕ) (levels distinct width : ℕ) (a : State) (x : ℕ) (place : IsState options levels distinct width a) (short : length a.chosen.items < levels) where
  pub passed_coming : (good : List ℕ → Bool) → drop a.next (options a.chosen.items) ≡ x ∷ drop (a.next + 1) (options a.chosen.items) →
      ((k : ℕ) → below options good k (a.chosen.items ++ x ∷ []) 0 ≡ []) →
      rest options good levels [] a.chosen.items a.numbers.items (a.next + 1) ≡ rest options good levels [] a.chosen.items a.numbers.items a.next
  passed_coming good d none =
      let j = levels - suc (length a.chosen.items) in
      let down = coming_taken options good levels [] a.chosen.items a.numbers.items x a.next place.even short d in
      let back = coming_back options good levels j [] a.chosen.items a.numbers.items x a.next 0 place.even (omega arith) in
      let none' = none j in
      let back' = rw none' at back in
      sym back' ∙ down

  pub passed_steps : drop a.next (options a.chosen.items) ≡ x ∷ drop (a.next + 1) (options a.chosen.items) →
      left options levels [] a.chosen.items a.numbers.items (a.next + 1) < left options levels [] a.chosen.items a.numbers.items a.next
  passed_steps d =
      let down = left_taken options levels [] a.chosen.items a.numbers.items x a.next place.even short d in
      let back = left_back options levels [] a.chosen.items a.numbers.items x a.next 0 place.even short in
      omega (arith, down, back)

-- a place at which nothing but the table changed
pub stayed : (options : List ℕ → List ℕ) (levels distinct width : ℕ) (a b : State) → IsState options levels distinct width a → b.chosen.items ≡ a.chosen.items → b.numbers.items ≡ a.numbers.items →
    AreTold b.made_at.items (take distinct a.chosen.items) → length b.made_at.items ≡ width → IsState options levels distinct width b
stayed options levels distinct width a b place e f told wide = record {
  short = omega (arith, ap length e, place.short);
  even = omega (arith, ap length e, ap length f, place.even);
  path = rw e place.path;
  numbers = rw f place.numbers;
  told = rw e told;
  wide = wide;
}

-- the same place, with another number to go on from
abbrev pub from_number : State → ℕ → State
from_number a c = record { chosen = a.chosen; numbers = a.numbers; made_at = a.made_at; next = c; is_over = a.is_over }

pub moved : (options : List ℕ → List ℕ) (levels distinct width : ℕ) (a : State) (c : ℕ) → IsState options levels distinct width a → IsState options levels distinct width (from_number a c)
moved options levels distinct width a c place = record { short = place.short; even = place.even; path = place.path; numbers = place.numbers; told = place.told; wide = place.wide }

-- several choices, one after another, that lead to nothing are passed over
module _ (options : List ℕ → List ℕ) (good : List ℕ → Bool) (levels distinct width : ℕ) (a : State) (place : IsState options levels distinct width a) (short : length a.chosen.items < levels) where
  abbrev pub Leads : ℕ → ℕ → Type 0
  Leads c upto = (i : ℕ) → c ≤ i → i < upto → (x : ℕ) × (drop i (options a.chosen.items) ≡ x ∷ drop (i + 1) (options a.chosen.items)) × ((k : ℕ) → below options good k (a.chosen.items ++ x ∷ []) 0 ≡ [])

  skipped : (d c : ℕ) → Leads c (c + d)
      → (rest options good levels [] a.chosen.items a.numbers.items (c + d) ≡ rest options good levels [] a.chosen.items a.numbers.items c)
      × (left options levels [] a.chosen.items a.numbers.items (c + d) ≤ left options levels [] a.chosen.items a.numbers.items c)
  skipped zero c h = let same : c + 0 ≡ c = omega arith in rw same (refl, omega arith)
  skipped (suc d) c h =
      let (x, this, none) = h c (omega arith) (omega arith) in
      let further = skipped d (c + 1) (λ i le lt. h i (omega (arith, le)) (omega (arith, lt))) in
      let same : c + suc d ≡ c + 1 + d = omega arith in
      let one = passed_coming options levels distinct width (from_number a c) x (moved options levels distinct width a c place) short good this none in
      let step = passed_steps options levels distinct width (from_number a c) x (moved options levels distinct width a c place) short this in
      rw same (further.0 ∙ one, omega (arith, further.1, step))

  pub skipped_coming : (c upto : ℕ) → c ≤ upto → Leads c upto → rest options good levels [] a.chosen.items a.numbers.items upto ≡ rest options good levels [] a.chosen.items a.numbers.items c
  skipped_coming c upto le h =
      let same : c + (upto - c) ≡ upto = omega (arith, le) in
      subst (λ n. rest options good levels [] a.chosen.items a.numbers.items n ≡ rest options good levels [] a.chosen.items a.numbers.items c) same (skipped (upto - c) c (subst (Leads c) (sym same) h)).0

  pub skipped_steps : (c upto : ℕ) → c ≤ upto → Leads c upto → left options levels [] a.chosen.items a.numbers.items upto ≤ left options levels [] a.chosen.items a.numbers.items c
  skipped_steps c upto le h =
      let same : c + (upto - c) ≡ upto = omega (arith, le) in
      subst (λ n. left options levels [] a.chosen.items a.numbers.items n ≤ left options levels [] a.chosen.items a.numbers.items c) same (skipped (upto - c) c (subst (Leads c) (sym same) h)).1
