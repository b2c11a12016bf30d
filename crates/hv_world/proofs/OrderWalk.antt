-- What each step of the walk keeps, and what the walk ends with.
use Rattle.std.proofs.Common.{◌≡◌, ◌≢◌, ◌<◌, ◌≤◌, ◌+◌, ◌-◌, ◌++◌, ◌∷◌, ◌⊎◌, inl, inr, ℕ, List, [], Option, Some, option_to_list, refl, sym, ap, ◌∙◌, subst, arith, length, set, get_or, Contains, slice_index, sum_by, get_or-set_same, get_or-set_other, length-set}
use Rattle.std.proofs.Math.ListN.{get_or-append, get_or-eq_default}
use Rattle.std.proofs.Math.Seq.{get_or-append_seam}
use Rattle.std.proofs.lemmas.Grind.{get_or_default_zero}
use Rattle.std.proofs.lemmas.List.{get_or_default}
use Rattle.std.proofs.lemmas.List.Elements.{Contains-push}
use Rattle.std.proofs.lemmas.List.Sums.{sum_by-set}
use Rattle.hv_lists.proofs.Numbers.{either, either_side}
use Rattle.hv_lists.proofs.Places.{push_front, push_last, length_pushed, below_pushed, stands_at, contained_at}
use Rattle.hv_lists.proofs.EachOnce.{once_at, same_place}
use Rattle.hv_world.specs.Orders.{Leads, one_step, more_steps, IsRow}
use Rattle.hv_lists.specs.Lists.{Once}
use Rattle.hv_world.specs.declared.order.walk.Mark.{Mark}
use Rattle.hv_world.specs.declared.order.walk.Mark.TheVariants as marks
use Rattle.hv_world.specs.inside.OrderWalks.{IsListed, list_at, mark_at, changes, EndsWith, IsWalk}

-- chains of pairs
pub led : {R : ℕ → ℕ → Type 0} {i k j : ℕ} → Leads R i k → Leads R k j → Leads R i j
led (one_step h) g = more_steps h g
led (more_steps h r) g = more_steps h (led r g)

-- a list with one more at its end
each_pushed : (P : ℕ → Type 0) (xs : List ℕ) (y : ℕ) → ((a : ℕ) → a < length xs → P (slice_index xs a)) → P y → (a : ℕ) → a < length (xs ++ y ∷ []) → P (slice_index (xs ++ y ∷ []) a)
each_pushed P xs y each last a w = by (below_pushed xs y a w) where
  by : (a < length xs) ⊎ (a ≡ length xs) → P (slice_index (xs ++ y ∷ []) a)
  by (inl h) = subst P (sym (push_front xs y a h)) (each a h)
  by (inr e) = subst (λ b. P (slice_index (xs ++ y ∷ []) b)) (sym e) (subst P (sym (push_last xs y)) last)

pairs_pushed : (R : ℕ → ℕ → Type 0) (xs : List ℕ) (y : ℕ) → ((a b : ℕ) → a < b → b < length xs → R (slice_index xs b) (slice_index xs a)) → ((a : ℕ) → a < length xs → R y (slice_index xs a))
    → (a b : ℕ) → a < b → b < length (xs ++ y ∷ []) → R (slice_index (xs ++ y ∷ []) b) (slice_index (xs ++ y ∷ []) a)
pairs_pushed R xs y each last a b o w = by (below_pushed xs y b w) where
  by : (b < length xs) ⊎ (b ≡ length xs) → R (slice_index (xs ++ y ∷ []) b) (slice_index (xs ++ y ∷ []) a)
  by (inl h) = subst (λ t. R t (slice_index (xs ++ y ∷ []) a)) (sym (push_front xs y b h)) (subst (R (slice_index xs b)) (sym (push_front xs y a (omega (arith, o, h)))) (each a b o h))
  by (inr e) =
      let h : a < length xs = omega (arith, o, e) in
      subst (λ t. R (slice_index (xs ++ y ∷ []) t) (slice_index (xs ++ y ∷ []) a)) (sym e) (subst (λ t. R t (slice_index (xs ++ y ∷ []) a)) (sym (push_last xs y)) (subst (R y) (sym (push_front xs y a h)) (last a h)))

pub contains_pushed : (xs : List ℕ) (y x : ℕ) → Contains xs x → Contains (xs ++ y ∷ []) x
contains_pushed xs y x h = (h.0, omega (arith, h.1, length_pushed xs y), get_or-append xs (y ∷ []) x h.0 h.1 ∙ h.2)

contains_other : (xs : List ℕ) (y x : ℕ) → Contains (xs ++ y ∷ []) x → x ≢ y → Contains xs x
contains_other xs y x h n = by (below_pushed xs y h.0 h.1) where
  by : (h.0 < length xs) ⊎ (h.0 ≡ length xs) → Contains xs x
  by (inl w) = (h.0, w, sym (get_or-append xs (y ∷ []) x h.0 w) ∙ h.2)
  by (inr e) = absurd (n (sym h.2 ∙ ap (λ k. get_or (xs ++ y ∷ []) k x) e ∙ get_or-append_seam xs y [] x))

-- what a list contains stands at a place
pub once_from : (xs : List ℕ) → ((a b : ℕ) → a < b → b < length xs → slice_index xs b ≢ slice_index xs a) → Once xs
once_from xs h = λ a b d o w e. h a b o w (sym (get_or_default_zero xs b d w) ∙ sym e ∙ get_or_default_zero xs a d (omega (arith, o, w)))

once_pushed : (xs : List ℕ) (y : ℕ) → Once xs → ((a : ℕ) → a < length xs → y ≢ slice_index xs a) → Once (xs ++ y ∷ [])
once_pushed xs y h n = once_from (xs ++ y ∷ []) (pairs_pushed ◌≢◌ xs y (λ a b o w e. once_at xs h a b o w (sym e)) n)

once_front : (xs : List ℕ) (y : ℕ) → Once (xs ++ y ∷ []) → Once xs
once_front xs y h = once_from xs (λ a b o w e. once_at (xs ++ y ∷ []) h a b o (omega (arith, w, length_pushed xs y)) (push_front xs y a (omega (arith, o, w)) ∙ sym e ∙ sym (push_front xs y b w)))

once_last : (xs : List ℕ) (y : ℕ) → Once (xs ++ y ∷ []) → (a : ℕ) → a < length xs → slice_index xs a ≢ y
once_last xs y h a w e = once_at (xs ++ y ∷ []) h a (length xs) w (omega (arith, length_pushed xs y)) (push_front xs y a w ∙ e ∙ sym (push_last xs y))

-- marks
mark_here : (ms : List Mark) (s : ℕ) (m : Mark) → s < length ms → mark_at (set ms s m) s ≡ m
mark_here ms s m w = get_or-set_same ms s m marks.Unseen w

mark_there : (ms : List Mark) (s : ℕ) (m : Mark) (j : ℕ) → j ≢ s → mark_at (set ms s m) j ≡ mark_at ms j
mark_there ms s m j n = get_or-set_other ms s j m marks.Unseen n

pub marked_within : (ms : List Mark) (j : ℕ) → mark_at ms j ≢ marks.Unseen → j < length ms
marked_within ms j n = by (either_side j (length ms)) where
  by : (j < length ms) ⊎ (length ms ≤ j) → j < length ms
  by (inl w) = w
  by (inr w) = absurd (n (get_or-eq_default ms marks.Unseen w))

unseen_not_open : {m : Mark} → m ≡ marks.Unseen → m ≡ marks.Open → ⊥
unseen_not_open e q = cc

unseen_not_placed : {m : Mark} → m ≡ marks.Unseen → m ≡ marks.Placed → ⊥
unseen_not_placed e q = cc

open_not_placed : {m : Mark} → m ≡ marks.Open → m ≡ marks.Placed → ⊥
open_not_placed e q = cc

-- what is marked m at j after a change to another mark at s was so before, at another place
was_marked : (ms : List Mark) (s : ℕ) (n m : Mark) (j : ℕ) → s < length ms → (n ≡ m → ⊥) → mark_at (set ms s n) j ≡ m → (j ≢ s) × (mark_at ms j ≡ m)
was_marked ms s n m j w d e = by (either j s) where
  by : (j ≡ s) ⊎ (j ≢ s) → (j ≢ s) × (mark_at ms j ≡ m)
  by (inl q) = absurd (d (sym (mark_here ms s n w) ∙ ap (mark_at (set ms s n)) (sym q) ∙ e))
  by (inr q) = (q, sym (mark_there ms s n j q) ∙ e)

-- what is marked m, and not at s, stays so
stays_marked : (ms : List Mark) (s : ℕ) (n m : Mark) (j : ℕ) → (mark_at ms s ≡ m → ⊥) → mark_at ms j ≡ m → mark_at (set ms s n) j ≡ m
stays_marked ms s n m j d e = mark_there ms s n j (λ q. d (ap (mark_at ms) (sym q) ∙ e)) ∙ e

-- a subtask that was not met goes to the end of the trail
pub opened_walk : (xss : List (List ℕ)) (ms : List Mark) (left trail row : List ℕ) (s : ℕ) → s < length xss → IsWalk xss ms left trail row → mark_at ms s ≡ marks.Unseen
    → ((a : ℕ) → a < length trail → Leads (IsListed xss) s (slice_index trail a)) → IsWalk xss (set ms s marks.Open) left (trail ++ s ∷ []) row
opened_walk xss ms left trail row s w h u next = record {
  marks_count = length-set ms s marks.Open ∙ h.marks_count;
  left_count = h.left_count;
  left_within = h.left_within;
  looked = h.looked;
  placed = λ j e. h.placed j (was_marked ms s marks.Open marks.Placed j v (open_not_placed refl) e).1;
  row_placed = λ q k. stays_marked ms s marks.Open marks.Placed (slice_index row q) (unseen_not_placed u) (h.row_placed q k);
  row_once = h.row_once;
  closed = h.closed;
  opened = λ j e. opened_at j e (either j s);
  trail_open = each_pushed (λ x. mark_at (set ms s marks.Open) x ≡ marks.Open) trail s (λ a k. stays_marked ms s marks.Open marks.Open (slice_index trail a) (unseen_not_open u) (h.trail_open a k)) (mark_here ms s marks.Open v);
  trail_once = once_pushed trail s h.trail_once (λ a k e. unseen_not_open u (ap (mark_at ms) e ∙ h.trail_open a k));
  path = pairs_pushed (Leads (IsListed xss)) trail s h.path next;
} where
  v : s < length ms
  v = omega (arith, w, h.marks_count)

  opened_at : (j : ℕ) → mark_at (set ms s marks.Open) j ≡ marks.Open → (j ≡ s) ⊎ (j ≢ s) → Contains (trail ++ s ∷ []) j
  opened_at j e (inl q) = subst (Contains (trail ++ s ∷ [])) (sym q) (Contains-push trail s)
  opened_at j e (inr q) = contains_pushed trail s j (h.opened j (sym (mark_there ms s marks.Open j q) ∙ e))

-- the subtask at the end of the trail, with all before it placed, goes to the end of the row
pub placed_walk : (xss : List (List ℕ)) (ms : List Mark) (left rest row : List ℕ) (s : ℕ) → s < length xss → IsWalk xss ms left (rest ++ s ∷ []) row → slice_index left s ≡ 0
    → IsWalk xss (set ms s marks.Placed) left rest (row ++ s ∷ [])
placed_walk xss ms left rest row s w h z = record {
  marks_count = length-set ms s marks.Placed ∙ h.marks_count;
  left_count = h.left_count;
  left_within = h.left_within;
  looked = λ j m a b. contains_pushed row s _ (h.looked j m a b);
  placed = λ j e. placed_at j e (either j s);
  row_placed = each_pushed (λ x. mark_at (set ms s marks.Placed) x ≡ marks.Placed) row s (λ q k. stays_marked ms s marks.Placed marks.Placed (slice_index row q) (open_not_placed opened) (h.row_placed q k)) (mark_here ms s marks.Placed v);
  row_once = once_pushed row s h.row_once (λ a k e. open_not_placed opened (ap (mark_at ms) e ∙ h.row_placed a k));
  closed = λ q i k l. closed_at q i l (below_pushed row s q k);
  opened = λ j e. contains_other rest s j (h.opened j (was_open j e).1) (was_open j e).0;
  trail_open = λ a k. stays_open a k;
  trail_once = once_front rest s h.trail_once;
  path = λ a b o k. path_at a b o k;
} where
  v : s < length ms
  v = omega (arith, w, h.marks_count)

  opened : mark_at ms s ≡ marks.Open
  opened = ap (mark_at ms) (sym (push_last rest s)) ∙ h.trail_open (length rest) (omega (arith, length_pushed rest s))

  was_open : (j : ℕ) → mark_at (set ms s marks.Placed) j ≡ marks.Open → (j ≢ s) × (mark_at ms j ≡ marks.Open)
  was_open j e = was_marked ms s marks.Placed marks.Open j v (λ q. open_not_placed refl (sym q)) e

  placed_at : (j : ℕ) → mark_at (set ms s marks.Placed) j ≡ marks.Placed → (j ≡ s) ⊎ (j ≢ s) → Contains (row ++ s ∷ []) j
  placed_at j e (inl q) = subst (Contains (row ++ s ∷ [])) (sym q) (Contains-push row s)
  placed_at j e (inr q) = contains_pushed row s j (h.placed j (sym (mark_there ms s marks.Placed j q) ∙ e))

  stays_open : (a : ℕ) → a < length rest → mark_at (set ms s marks.Placed) (slice_index rest a) ≡ marks.Open
  stays_open a k = mark_there ms s marks.Placed (slice_index rest a) (once_last rest s h.trail_once a k) ∙ ap (mark_at ms) (sym (push_front rest s a k)) ∙ h.trail_open a (omega (arith, k, length_pushed rest s))

  path_at : (a b : ℕ) → a < b → b < length rest → Leads (IsListed xss) (slice_index rest b) (slice_index rest a)
  path_at a b o k = subst (λ t. Leads (IsListed xss) t (slice_index rest a)) (push_front rest s b k) (subst (Leads (IsListed xss) (slice_index (rest ++ s ∷ []) b)) (push_front rest s a (omega (arith, o, k))) (h.path a b o (omega (arith, k, length_pushed rest s))))

  found : (i : ℕ) → IsListed xss i s → Contains row i
  found i l = subst (Contains row) (stands_at (list_at xss s) i l) (h.looked s l.0 (omega (arith, z)) l.1)

  closed_at : (q i : ℕ) → IsListed xss i (slice_index (row ++ s ∷ []) q) → (q < length row) ⊎ (q ≡ length row) → (p : ℕ) × (p < q) × (slice_index (row ++ s ∷ []) p ≡ i)
  closed_at q i l (inl k) =
      let c = h.closed q i k (subst (IsListed xss i) (push_front row s q k) l) in
      (c.0, c.1, push_front row s c.0 (omega (arith, c.1, k)) ∙ c.2)
  closed_at q i l (inr e) =
      let f = found i (subst (IsListed xss i) (ap (slice_index (row ++ s ∷ [])) e ∙ push_last row s) l) in
      (f.0, omega (arith, f.1, e), push_front row s f.0 f.1 ∙ stands_at row i f)

-- one more of the earlier ones of s is placed
pub looked_walk : (xss : List (List ℕ)) (ms : List Mark) (left trail row : List ℕ) (s k : ℕ) → s < length xss → IsWalk xss ms left trail row → slice_index left s ≡ k + 1
    → mark_at ms (slice_index (list_at xss s) k) ≡ marks.Placed → IsWalk xss ms (set left s k) trail row
looked_walk xss ms left trail row s k w h e p = record {
  marks_count = h.marks_count;
  left_count = length-set left s k ∙ h.left_count;
  left_within = λ j. within_at j (either j s);
  looked = λ j m a b. looked_at j m a b (either j s);
  placed = h.placed;
  row_placed = h.row_placed;
  row_once = h.row_once;
  closed = h.closed;
  opened = h.opened;
  trail_open = h.trail_open;
  trail_once = h.trail_once;
  path = h.path;
} where
  v : s < length left
  v = omega (arith, w, h.left_count)

  at_s : (j : ℕ) → j ≡ s → slice_index (set left s k) j ≡ k
  at_s j q = ap (slice_index (set left s k)) q ∙ get_or-set_same left s k 0 v

  at_other : (j : ℕ) → j ≢ s → slice_index (set left s k) j ≡ slice_index left j
  at_other j q = get_or-set_other left s j k 0 q

  was : (j : ℕ) → j ≡ s → slice_index left j ≡ k + 1
  was j q = ap (slice_index left) q ∙ e

  within_at : (j : ℕ) → (j ≡ s) ⊎ (j ≢ s) → slice_index (set left s k) j ≤ length (list_at xss j)
  within_at j (inl q) = omega (arith, at_s j q, was j q, h.left_within j)
  within_at j (inr q) = omega (arith, at_other j q, h.left_within j)

  first_at : (j m : ℕ) → j ≡ s → (m ≡ k) ⊎ (m ≢ k) → k ≤ m → m < length (list_at xss j) → Contains row (slice_index (list_at xss j) m)
  first_at j m q (inl o) a b = h.placed _ (ap (λ t. mark_at ms (slice_index (list_at xss t) m)) q ∙ ap (λ t. mark_at ms (slice_index (list_at xss s) t)) o ∙ p)
  first_at j m q (inr o) a b = h.looked j m (omega (arith, was j q, o, a)) b

  looked_at : (j m : ℕ) → slice_index (set left s k) j ≤ m → m < length (list_at xss j) → (j ≡ s) ⊎ (j ≢ s) → Contains row (slice_index (list_at xss j) m)
  looked_at j m a b (inl q) = first_at j m q (either m k) (omega (arith, at_s j q, a)) b
  looked_at j m a b (inr q) = h.looked j m (omega (arith, at_other j q, a)) b

-- what is before the last of the trail is before all of the trail
pub before_trail : (xss : List (List ℕ)) (ms : List Mark) (left trail row : List ℕ) (s i : ℕ) → IsWalk xss ms left trail row → 0 < length trail → slice_index trail (length trail - 1) ≡ s → IsListed xss i s
    → (a : ℕ) → a < length trail → Leads (IsListed xss) i (slice_index trail a)
before_trail xss ms left trail row s i h z e l a k = by (either a (length trail - 1)) where
  by : (a ≡ length trail - 1) ⊎ (a ≢ length trail - 1) → Leads (IsListed xss) i (slice_index trail a)
  by (inl q) = one_step (subst (IsListed xss i) (sym (ap (slice_index trail) q ∙ e)) l)
  by (inr q) = more_steps l (subst (λ t. Leads (IsListed xss) t (slice_index trail a)) e (h.path a (length trail - 1) (omega (arith, q, k)) (omega (arith, z))))

-- an open one before the last of the trail is before itself
pub open_is_cyclic : (xss : List (List ℕ)) (ms : List Mark) (left trail row : List ℕ) (s i : ℕ) → IsWalk xss ms left trail row → 0 < length trail → slice_index trail (length trail - 1) ≡ s → IsListed xss i s
    → mark_at ms i ≡ marks.Open → (j : ℕ) × Leads (IsListed xss) j j
open_is_cyclic xss ms left trail row s i h z e l o =
    let c = h.opened i o in
    (i, subst (Leads (IsListed xss) i) (stands_at trail i c) (before_trail xss ms left trail row s i h z e l c.0 c.1))

pub popped : (trail rest : List ℕ) (r : Option ℕ) (s n : ℕ) → n ≡ length trail → r ≡ Some (slice_index trail (n - 1)) → slice_index trail (length trail - 1) ≡ s → trail ≡ rest ++ option_to_list r → trail ≡ rest ++ s ∷ []
popped trail rest r s n k v e q = q ∙ ap (λ o. rest ++ option_to_list o) (v ∙ ap (λ m. Some (slice_index trail (m - 1))) k ∙ ap (λ t. Some t) e)

pub left_at : (left : List ℕ) (s n : ℕ) → s < length left → n ≡ get_or left s n → slice_index left s ≡ n
left_at left s n w e = sym (get_or_default_zero left s n w) ∙ sym e

-- the one that is looked at next is one of those before s
pub next_listed : (xss : List (List ℕ)) (ms : List Mark) (left trail row : List ℕ) (s n x : ℕ) → IsWalk xss ms left trail row → s < length left → n ≡ get_or left s n → (n ≡ 0 → ⊥) → x ≡ slice_index (list_at xss s) (n - 1) → IsListed xss x s
next_listed xss ms left trail row s n x h w e z q = contained_at (list_at xss s) (n - 1) x (omega (arith, left_at left s n w e, h.left_within s, z)) (sym q)

pub mark_read : (ms : List Mark) (x : ℕ) (m n : Mark) → x < length ms → m ≡ get_or ms x m → m ≡ n → mark_at ms x ≡ n
mark_read ms x m n w e q = get_or_default ms x marks.Unseen m w ∙ sym e ∙ q

pub last_open : (xss : List (List ℕ)) (ms : List Mark) (left trail row : List ℕ) (s : ℕ) → IsWalk xss ms left trail row → EndsWith trail s → mark_at ms s ≡ marks.Open
last_open xss ms left trail row s h e = ap (mark_at ms) (sym e.1) ∙ h.trail_open (length trail - 1) (omega (arith, e.0))

pub last_within : (xss : List (List ℕ)) (ms : List Mark) (left trail row : List ℕ) (s : ℕ) → IsWalk xss ms left trail row → EndsWith trail s → s < length xss
last_within xss ms left trail row s h e = omega (arith, h.marks_count, marked_within ms s (λ u. unseen_not_open u (last_open xss ms left trail row s h e)))

pub fewer_changes : (ms : List Mark) (s : ℕ) → s < length ms → mark_at ms s ≡ marks.Open → sum_by changes (set ms s marks.Placed) < sum_by changes ms
fewer_changes ms s w e =
    let was : changes (mark_at ms s) ≡ 1 = ap changes e in
    omega (arith, was, sum_by-set changes ms s marks.Placed marks.Unseen w)

-- a row with each earlier one in front
stands : (xss : List (List ℕ)) (ms : List Mark) (left trail row : List ℕ) (i j : ℕ) → IsWalk xss ms left trail row → Leads (IsListed xss) i j → (q : ℕ) → q < length row → slice_index row q ≡ j → (p : ℕ) × (p < q) × (slice_index row p ≡ i)
stands xss ms left trail row i j h (one_step l) q k e = h.closed q i k (subst (IsListed xss i) (sym e) l)
stands xss ms left trail row i j h (more_steps l g) q k e =
    let m = stands xss ms left trail row _ j h g q k e in
    let p = h.closed m.0 i (omega (arith, m.1, k)) (subst (IsListed xss i) (sym m.2) l) in
    (p.0, omega (arith, p.1, m.1), p.2)

pub ended_walk : (xss : List (List ℕ)) (ms : List Mark) (left row : List ℕ) → IsWalk xss ms left [] row → ((j : ℕ) → j < length xss → mark_at ms j ≡ marks.Unseen → ⊥) → IsRow (Leads (IsListed xss)) (length xss) row
ended_walk xss ms left row h seen = record {
  within = λ i c. omega (arith, h.marks_count, marked_within ms i (λ u. unseen_not_placed u (ap (mark_at ms) (sym (stands_at row i c)) ∙ h.row_placed c.0 c.1)));
  whole = λ i k. h.placed i (placed_mark i k (mark_at ms i) refl);
  once = h.row_once;
  in_order = λ p q a b l. earlier p q a b (stands xss ms left [] row _ _ h l q b refl);
} where
  placed_mark : (i : ℕ) → i < length xss → (m : Mark) → mark_at ms i ≡ m → mark_at ms i ≡ marks.Placed
  placed_mark i k marks.Unseen e = absurd (seen i k e)
  placed_mark i k marks.Open e = absurd (not_open (h.opened i e)) where
    not_open : Contains [] i → ⊥
    not_open c = omega (arith, c.1)
  placed_mark i k marks.Placed e = e

  earlier : (p q : ℕ) → p < length row → q < length row → (m : ℕ) × (m < q) × (slice_index row m ≡ slice_index row p) → p < q
  earlier p q a b m = omega (arith, m.1, same_place row h.row_once m.0 p (omega (arith, m.1, b)) a m.2)
