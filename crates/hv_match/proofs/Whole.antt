-- A node has no more candidates than its count.
use Rattle.std.proofs.Common.{◌≡◌, ℕ, zero, suc, ◌+◌, ◌-◌, ◌*◌, ◌<◌, ◌≤◌, Bool, true, false, List, [], ◌∷◌, ◌++◌, length, nat_lt, get_or, take, drop, slice_get, refl, sym, ap, ◌∙◌, arith, subst, if◌then◌else◌, Option, Some, None, Contains}
use Rattle.std.proofs.lemmas.Bool.Decides.{nat_tests}
use Rattle.std.proofs.lemmas.Bool.{ltb-true, ltb-false}
use Rattle.std.proofs.lemmas.List.{length-map}
use Rattle.hv_lists.proofs.Contained.{at_head, none_in_empty}
use Rattle.hv_lists.proofs.EachOnce.{once_more}
use Rattle.hv_world.specs.Values.{Subtask}
use Rattle.hv_world.specs.Alike.{is_free, Key, key, keys, subtask_instance}
use Rattle.hv_lists.specs.Lists.{Once}
use Rattle.hv_match.specs.inside.Search.{IsWanted, below}
use Rattle.hv_match.specs.inside.Puzzles.{Puzzle, bound, pick, options, AreRows, IsMatch, widths, ways}
use Rattle.hv_match.proofs.FirstPlaces.{free_unbound, bound_some}
use Rattle.hv_match.specs.Counts.{product}
use Rattle.hv_match.specs.inside.Counting.{first_alike, rising, tower, IsMatching}
use Rattle.hv_match.proofs.Members.{at_most, once_none}
use Rattle.hv_match.proofs.Bounds.{bounded, few_matches}
use Rattle.hv_match.proofs.Keys.{child_key, matching}

pub options_once : (pz : Puzzle) → AreRows pz → ((i : ℕ) → Once (get_or pz.ranges i [])) → (p : List ℕ) → Once (options pz p)
options_once pz rows o p = go (slice_get pz.subtasks (length p)) refl (bound pz p (length p - length pz.subtasks))
  where
    go : (b : Option Subtask) → slice_get pz.subtasks (length p) ≡ b → (r : Option ℕ) → Once (elim b [ Some s ↦ pz.rows (length p) | None ↦ pick r (get_or pz.ranges (length p - length pz.subtasks) []) ])
    go (Some s) e r = (rows (length p) s e).once
    go None e None = o (length p - length pz.subtasks)
    go None e (Some x) = once_more x [] (λ m. none_in_empty x m) once_none

no_more : (ss : List Subtask) (i : ℕ) → length ss ≤ i → slice_get ss i ≡ None
no_more [] i h = refl
no_more (s ∷ ss) zero h = absurd (omega arith)
no_more (s ∷ ss) (suc i) h = no_more ss i (omega arith)

object_options : (pz : Puzzle) (q : List ℕ) → length pz.subtasks ≤ length q → options pz q ≡ pick (bound pz q (length q - length pz.subtasks)) (get_or pz.ranges (length q - length pz.subtasks) [])
object_options pz q h =
    ap (λ (o : Option Subtask). elim o [ Some s ↦ pz.rows (length q) | None ↦ pick (bound pz q (length q - length pz.subtasks)) (get_or pz.ranges (length q - length pz.subtasks) []) ]) (no_more pz.subtasks (length q) h)

take_past : (n : ℕ) (p : List ℕ) (y : ℕ) (t : List ℕ) → length p < n → (u : List ℕ) × (take n (p ++ y ∷ t) ≡ p ++ y ∷ u)
take_past zero p y t h = absurd (omega arith)
take_past (suc n) [] y t h = (take n t, refl)
take_past (suc n) (x ∷ p) y t h = let r = take_past n p y t (omega arith) in (r.0, ap (λ (l : List ℕ). x ∷ l) r.1)

width_at : (pz : Puzzle) (a : ℕ) (ts : List (List ℕ)) (j : ℕ) → j < length ts → get_or (widths pz a ts) j 0 ≡ (if is_free pz.task pz.subtasks (a + j) then length (get_or ts j []) else 1)
width_at pz a [] j h = absurd (omega arith)
width_at pz a (t ∷ ts) zero h = let e : a + 0 ≡ a = omega arith in rw e refl
width_at pz a (t ∷ ts) (suc j) h = let e : a + suc j ≡ a + 1 + j = omega arith in rw e (width_at pz (a + 1) ts j (omega arith))

width_len : (pz : Puzzle) (a : ℕ) (ts : List (List ℕ)) → length (widths pz a ts) ≡ length ts
width_len pz a [] = refl
width_len pz a (t ∷ ts) = ap suc (width_len pz (a + 1) ts)

take_front : (n : ℕ) (p t : List ℕ) → n ≤ length p → (us : List ℕ) × (p ≡ take n (p ++ t) ++ us)
take_front zero p t h = (p, refl)
take_front (suc n) [] t h = absurd (omega arith)
take_front (suc n) (x ∷ p) t h = let r = take_front n p t (omega arith) in (r.0, ap (λ (l : List ℕ). x ∷ l) r.1)

-- towers
tower_split : (fac : ℕ → ℕ) (l a b : ℕ) → tower fac l (a + b) ≡ tower fac l a * tower fac (l + a) b
tower_split fac l zero b = let e : 0 + b ≡ b = omega arith in let f : l + 0 ≡ l = omega arith in rw (e, f) (omega arith)
tower_split fac l (suc a) b =
    let e : suc a + b ≡ suc (a + b) = omega arith in let f : l + suc a ≡ l + 1 + a = omega arith in
    rw (e, f) (rw (tower_split fac (l + 1) a b) (grind arith))

tower_keys : (fac : ℕ → ℕ) (l : ℕ) (ks : List Key) → ((j : ℕ) → j < length ks → fac (l + j) ≡ first_alike (drop j ks)) → tower fac l (length ks) ≡ rising ks
tower_keys fac l [] h = refl
tower_keys fac l (k ∷ ks) h =
    let z : l + 0 ≡ l = omega arith in
    let first = h 0 (omega arith) in
    let first' = rw z at first in
    rw (first', tower_keys fac (l + 1) ks (λ j i. let s : l + 1 + j ≡ l + suc j = omega arith in rw s (h (suc j) (omega arith)))) refl

tower_widths : (fac : ℕ → ℕ) (l : ℕ) (ws : List ℕ) → ((j : ℕ) → j < length ws → fac (l + j) ≡ get_or ws j 0) → tower fac l (length ws) ≡ product ws
tower_widths fac l [] h = refl
tower_widths fac l (n ∷ ws) h =
    let z : l + 0 ≡ l = omega arith in
    let first = h 0 (omega arith) in
    let first' = rw z at first in
    rw (first', tower_widths fac (l + 1) ws (λ j i. let s : l + 1 + j ≡ l + suc j = omega arith in rw s (h (suc j) (omega arith)))) refl

lt-ltb' : (a b : ℕ) → a < b → nat_lt a b ≡ true
lt-ltb' a b h = grind (arith, nat_tests)

ge-ltb' : (a b : ℕ) → b ≤ a → nat_lt a b ≡ false
ge-ltb' a b h = grind (arith, nat_tests)

module _ (pz : Puzzle) (instances : (s : Subtask) (g : ℕ → ℕ) → Contains pz.subtasks s → key pz.subtasks (subtask_instance g s) ≡ key pz.subtasks s) (rows : AreRows pz) (o : (i : ℕ) → Once (get_or pz.ranges i [])) (good : List ℕ → Bool)
    (right : (q : List ℕ) → good q ≡ true → IsMatch pz (take (length pz.subtasks) q) (drop (length pz.subtasks) q)) where
  factor : ℕ → ℕ
  factor l = if nat_lt l (length pz.subtasks) then first_alike (drop l (keys pz.subtasks)) else get_or (widths pz 0 pz.ranges) (l - length pz.subtasks) 0

  few : (p ys : List ℕ) → length p < length pz.subtasks + length pz.ranges → Once ys →
      ((y : ℕ) → Contains ys y → Contains (options pz p) y × ((t : List ℕ) × IsWanted (options pz) good (length pz.subtasks + length pz.ranges) (p ++ y ∷ t))) → length ys ≤ factor (length p)
  unfolding factor
  few p [] h n f = omega arith
  few p (y0 ∷ ys) h n f = go (nat_lt (length p) (length pz.subtasks)) refl
    where
      match_of : (y : ℕ) (t : List ℕ) → length p < length pz.subtasks → good (p ++ y ∷ t) ≡ true → (u : List ℕ) × IsMatching (child_key pz) (keys pz.subtasks) (p ++ y ∷ u)
      match_of y t l g =
          let r = take_past (length pz.subtasks) p y t l in
          let P : List ℕ → Type 0 = λ z. IsMatching (child_key pz) (keys pz.subtasks) z in
          (r.0, subst P r.1 (matching pz instances (take (length pz.subtasks) (p ++ y ∷ t)) (drop (length pz.subtasks) (p ++ y ∷ t)) (right (p ++ y ∷ t) g)))

      wide : (i : ℕ) → (r : Option ℕ) → bound pz p i ≡ r → (a : Bool) → is_free pz.task pz.subtasks i ≡ a → (is_free pz.task pz.subtasks i ≡ false → bound pz p i ≡ None → ⊥) →
          suc (length ys) ≤ length (pick r (get_or pz.ranges i [])) → suc (length ys) ≤ (if a then length (get_or pz.ranges i []) else 1)
      wide i None b true a k s = s
      wide i None b false a k s = absurd (k a b)
      wide i (Some x) b true a k s = let n = free_unbound pz p i a in absurd (let c : None ≡ Some x = sym n ∙ b in cc)
      wide i (Some x) b false a k s = s

      go : (b : Bool) → nat_lt (length p) (length pz.subtasks) ≡ b → suc (length ys) ≤ (if b then first_alike (drop (length p) (keys pz.subtasks)) else get_or (widths pz 0 pz.ranges) (length p - length pz.subtasks) 0)
      go true e = few_matches (child_key pz) (keys pz.subtasks) p (y0 ∷ ys) n (λ y k. let r = f y k in match_of y r.1.0 (ltb-true (length p) (length pz.subtasks) e) r.1.1.is_good)
      go false e =
          let ge : length pz.subtasks ≤ length p = ltb-false (length p) (length pz.subtasks) e in
          let j : length p - length pz.subtasks < length pz.ranges = omega arith in
          let z : 0 + (length p - length pz.subtasks) ≡ length p - length pz.subtasks = omega arith in
          let width = width_at pz 0 pz.ranges (length p - length pz.subtasks) j in
          let width' = rw z at width in
          let most = at_most (y0 ∷ ys) (options pz p) n (λ y k. (f y k).0) in
          let most' : suc (length ys) ≤ length (pick (bound pz p (length p - length pz.subtasks)) (get_or pz.ranges (length p - length pz.subtasks) [])) = omega (arith, most, ap length (object_options pz p ge)) in
          let q = f y0 (at_head y0 ys y0 refl) in
          let cand = right (p ++ y0 ∷ q.1.0) q.1.1.is_good in
          rw width' (wide (length p - length pz.subtasks) (bound pz p (length p - length pz.subtasks)) refl (is_free pz.task pz.subtasks (length p - length pz.subtasks)) refl
          (λ a b. unbound a b (take_front (length pz.subtasks) p (y0 ∷ q.1.0) ge) cand) most')
        where
          unbound : is_free pz.task pz.subtasks (length p - length pz.subtasks) ≡ false → bound pz p (length p - length pz.subtasks) ≡ None → (us : List ℕ) × (p ≡ take (length pz.subtasks) (p ++ y0 ∷ (f y0 (at_head y0 ys y0 refl)).1.0) ++ us) →
              IsMatch pz (take (length pz.subtasks) (p ++ y0 ∷ (f y0 (at_head y0 ys y0 refl)).1.0)) (drop (length pz.subtasks) (p ++ y0 ∷ (f y0 (at_head y0 ys y0 refl)).1.0)) → ⊥
          unbound a b us c =
              let same : bound pz (take (length pz.subtasks) (p ++ y0 ∷ (f y0 (at_head y0 ys y0 refl)).1.0) ++ us.0) (length p - length pz.subtasks) ≡ None =
              ap (λ (l : List ℕ). bound pz l (length p - length pz.subtasks)) (sym us.1) ∙ b in
              bound_some pz (take (length pz.subtasks) (p ++ y0 ∷ (f y0 (at_head y0 ys y0 refl)).1.0)) (drop (length pz.subtasks) (p ++ y0 ∷ (f y0 (at_head y0 ys y0 refl)).1.0)) us.0 (length p - length pz.subtasks) c a same

  pub at_most_count : length (below (options pz) good (length pz.subtasks + length pz.ranges) [] 0) ≤ ways pz
  unfolding factor
  at_most_count =
      let b = bounded (options pz) good (length pz.subtasks + length pz.ranges) factor (options_once pz rows o) few (length pz.subtasks + length pz.ranges) [] (omega arith) tt in
      let s = tower_split factor 0 (length pz.subtasks) (length pz.ranges) in
      let kl : length (keys pz.subtasks) ≡ length pz.subtasks = length-map pz.subtasks (key pz.subtasks) in
      let t : tower factor 0 (length (keys pz.subtasks)) ≡ rising (keys pz.subtasks) = tower_keys factor 0 (keys pz.subtasks) (λ j h. let z : 0 + j ≡ j = omega arith in let l = lt-ltb' j (length pz.subtasks) (omega (arith, kl, h)) in rw (z, l) refl) in
      let wl : length (widths pz 0 pz.ranges) ≡ length pz.ranges = width_len pz 0 pz.ranges in
      let u : tower factor (0 + length pz.subtasks) (length (widths pz 0 pz.ranges)) ≡ product (widths pz 0 pz.ranges) =
      tower_widths factor (0 + length pz.subtasks) (widths pz 0 pz.ranges)
      (λ j h. let l = ge-ltb' (0 + length pz.subtasks + j) (length pz.subtasks) (omega arith) in let z : 0 + length pz.subtasks + j - length pz.subtasks ≡ j = omega arith in rw (l, z) refl) in
      let t' = rw kl at t in
      let u' = rw wl at u in
      rw (← t', ← u', ← s) b
