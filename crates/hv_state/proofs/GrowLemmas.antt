-- Histories with one change more.
use Rattle.std.proofs.Common.{◌≡◌, ◌<◌, ◌≤◌, ◌+◌, ◌-◌, ◌++◌, ◌↔◌, ◌⊎◌, inl, inr, ℕ, zero, suc, Bool, true, false, true≢false, bytes_eq, nat_eq, nat_le, List, [], ◌∷◌, length, map, set, get_or, slice_get, Option, Some, None, if◌then◌else◌, refl, sym, ap, ◌∙◌, subst, arith}
use Rattle.std.specs.Option.{IsSome, option_to_list}
use Rattle.std.specs.List.{All, Contains}
use Rattle.std.specs.Cmp.Lexicographic.{bytes_decides}
use Rattle.std.proofs.lemmas.Bool.{cases_lt}
use Rattle.std.proofs.lemmas.List.{get_or-map, length-map, length-append, map_push}
use Rattle.std.proofs.lemmas.List.Elements.{Contains-append_left, Contains-push, Contains-push_cases}
use Rattle.std.proofs.lemmas.List.Quantifiers.{all_pairs_push}
use Rattle.hv_lists.proofs.Bools.{if_true, if_false}
use Rattle.hv_state.specs.declared.history.Change as code
use Rattle.hv_state.specs.declared.history.History.{History}
use Rattle.hv_state.specs.declared.rows.Row.{Row}
use Rattle.hv_state.specs.inside.Rows.{rows_in, IsBelow, Ascend}
use Rattle.hv_state.specs.Changes.{Change, told}
use Rattle.hv_state.specs.inside.Histories.{Table, Rise, IsTable, beside, rows_of, index_of, truth_of, change_view, in_order, changes_of, history_view, IsNextIn, IsLeast}
use Rattle.hv_state.specs.inside.Notes.{Before, EndsAt, IsTurned, IsTurnedAt, replaced}
use Rattle.hv_state.proofs.RowLemmas.{below_itself}
use Rattle.hv_state.proofs.PlanLemmas.{read_there}
use Rattle.hv_state.proofs.ChangeLemmas.{is_from, is_late, told_push}
use Rattle.hv_state.proofs.HistoryLemmas.{is_row, no_row, tail_ascends, beside_at, last_is}

-- one of the code's histories
pub set_replaces : (hs : List History) (i : ℕ) (h new : History) → i < length hs → h ≡ get_or hs i h → new.row ≡ h.row → map history_view (set hs i new) ≡ replaced (map history_view hs) i (changes_of new)
set_replaces [] i h new lt is row = absurd (omega (arith, lt))
set_replaces (x ∷ hs) zero h new lt is row =
    let rows : new.row.numbers.items ≡ x.row.numbers.items = ap (λ r. r.numbers.items) row ∙ ap (λ (y : History). y.row.numbers.items) is in
    λ j. (rows j, changes_of new) ∷ map history_view hs
set_replaces (x ∷ hs) (suc i) h new lt is row = ap (λ es. history_view x ∷ es) (set_replaces hs i h new (omega (arith, lt)) is row)

pub set_same : (hs : List History) (i : ℕ) (h new : History) → i < length hs → h ≡ get_or hs i h → new.row ≡ h.row → changes_of new ≡ changes_of h → map history_view (set hs i new) ≡ map history_view hs
set_same [] i h new lt is row e = absurd (omega (arith, lt))
set_same (x ∷ hs) zero h new lt is row e =
    let rows : new.row.numbers.items ≡ x.row.numbers.items = ap (λ r. r.numbers.items) row ∙ ap (λ (y : History). y.row.numbers.items) is in
    let lists : changes_of new ≡ changes_of x = e ∙ ap changes_of is in
    λ j. (rows j, lists j) ∷ map history_view hs
set_same (x ∷ hs) (suc i) h new lt is row e = ap (λ es. history_view x ∷ es) (set_same hs i h new (omega (arith, lt)) is row e)

-- the last change is behind all others
module _ (cs : List code.Change) (k : ℕ) (last : code.Change) (rise : Rise (map change_view cs)) (is : Some last ≡ slice_get cs (length cs - 1)) where
  place_is : (length cs - 1 < length cs) × (get_or cs (length cs - 1) last ≡ last)
  place_is = read_there cs (length cs - 1) last (sym is)

  last_at : (d : Change) → (get_or (map change_view cs) (length cs - 1) d).0 ≡ index_of last
  last_at d = ap (λ c. c.0) (get_or-map change_view cs (length cs - 1) last d place_is.0) ∙ ap index_of place_is.1

  pub all_before : index_of last < k → Before k (map change_view cs)
  all_before lt i d i_in = by (cases_lt i (length cs - 1))
    where
      by : (i < length cs - 1) ⊎ (length cs - 1 ≤ i) → (get_or (map change_view cs) i d).0 < k
      by (inl before) =
          let below : (get_or (map change_view cs) i d).0 < (get_or (map change_view cs) (length cs - 1) d).0 = rise i (length cs - 1) d before (omega (arith, place_is.0, length-map cs change_view)) in
          let end = last_at d in
          omega (arith, below, end, lt)
      by (inr behind) =
          let here : length cs - 1 ≡ i = omega (arith, behind, i_in, place_is.0, length-map cs change_view) in
          subst (λ j. (get_or (map change_view cs) j d).0 < k) here (let end = last_at d in omega (arith, end, lt))

  pub last_before : Before k (map change_view cs) → index_of last < k
  last_before all =
      let below : (get_or (map change_view cs) (length cs - 1) (change_view last)).0 < k = all (length cs - 1) (change_view last) (omega (arith, place_is.0, length-map cs change_view)) in
      let end = last_at (change_view last) in
      omega (arith, below, end)

-- the last change is told, where all are before an index
pub last_told : (cs : List code.Change) (k : ℕ) (last : code.Change) → Some last ≡ slice_get cs (length cs - 1) → Before (k + 1) (map change_view cs) → told k (map change_view cs) ≡ Some (truth_of last)
last_told cs k last is room = sym (last_is cs k (length cs) (omega arith) (λ j d z lt. below j d lt, λ j d from lt. absurd (omega (arith, from, lt))) last (omega (arith, there.0))) ∙ ap (λ (c : code.Change). Some (truth_of c)) there.1
  where
    there : (length cs - 1 < length cs) × (get_or cs (length cs - 1) last ≡ last)
    there = read_there cs (length cs - 1) last (sym is)

    below : (j : ℕ) (d : code.Change) → j < length cs → nat_le (index_of (get_or cs j d)) k ≡ true
    below j d lt =
        let at : (get_or (map change_view cs) j (change_view d)).0 ≡ index_of (get_or cs j d) = ap (λ c. c.0) (get_or-map change_view cs j d (change_view d) lt) in
        let h : (get_or (map change_view cs) j (change_view d)).0 < k + 1 = room j (change_view d) (omega (arith, lt, length-map cs change_view)) in
        is_from (index_of (get_or cs j d)) k (omega (arith, at, h))

-- the last of a list
last_of : {X : Type 0} (xs : List X) (x d : X) → get_or (xs ++ x ∷ []) (length xs) d ≡ x
last_of [] x d = refl
last_of (y ∷ xs) x d = last_of xs x d

snoc_length : {X : Type 0} (xs : List X) (x : X) → length (xs ++ x ∷ []) ≡ suc (length xs)
snoc_length xs x = length-append xs (x ∷ []) ∙ omega arith

pub snoc_front : {X : Type 0} (xs ys : List X) (x y : X) → xs ++ x ∷ [] ≡ ys ++ y ∷ [] → xs ≡ ys
snoc_front [] [] x y e = refl
snoc_front [] (z ∷ ys) x y e = let h : 1 ≡ suc (length (ys ++ y ∷ [])) = ap length e in absurd (omega (arith, h, snoc_length ys y))
snoc_front (z ∷ xs) [] x y e = let h : suc (length (xs ++ x ∷ [])) ≡ 1 = ap length e in absurd (omega (arith, h, snoc_length xs x))
snoc_front (z ∷ xs) (w ∷ ys) x y e =
    let first : z ≡ w = ap (λ zs. get_or zs 0 z) e in
    λ i. first i ∷ snoc_front xs ys x y (ap (λ zs. tail_of zs) e) i
  where
    tail_of : {X : Type 0} → List X → List X
    tail_of [] = []
    tail_of (u ∷ us) = us

-- a list that ends at an index is not before it
pub not_before : (cs : List Change) (k : ℕ) (b : Bool) → Before k (cs ++ (k, b) ∷ []) → ⊥
not_before cs k b all =
    let below : (get_or (cs ++ (k, b) ∷ []) (length cs) (k, b)).0 < k = all (length cs) (k, b) (omega (arith, snoc_length cs (k, b))) in
    let is : (get_or (cs ++ (k, b) ∷ []) (length cs) (k, b)).0 ≡ k = ap (λ (c : Change). c.0) (last_of cs (k, b) (k, b)) in
    omega (arith, below, is)

-- the front of a list whose indices rise
front_rises : (cs : List Change) (c : Change) → Rise (cs ++ c ∷ []) → Rise cs
front_rises cs c rise i j d lt within =
    let a = front_at cs c i d (omega (arith, lt, within)) in
    let b = front_at cs c j d within in
    subst (λ (x : Change). x.0 < (get_or cs j d).0) a (subst (λ (y : Change). (get_or (cs ++ c ∷ []) i d).0 < y.0) b (rise i j d lt (omega (arith, within, snoc_length cs c))))
  where
    front_at : (xs : List Change) (x : Change) (n : ℕ) (e : Change) → n < length xs → get_or (xs ++ x ∷ []) n e ≡ get_or xs n e
    front_at [] x n e h = absurd (omega (arith, h))
    front_at (y ∷ xs) x zero e h = refl
    front_at (y ∷ xs) x (suc n) e h = front_at xs x n e (omega (arith, h))

-- the changes of a history: those before the last one, and the last one
module _ (h : History) (c : code.Change) (is : h.last ≡ Some c) where
  abbrev early : List Change
  early = map change_view h.earlier.items

  pub with_last : changes_of h ≡ early ++ change_view c ∷ []
  with_last = ap (λ o. map change_view (h.earlier.items ++ option_to_list o)) is ∙ map_push change_view h.earlier.items c

  pub earlier_rises : Rise (changes_of h) → Rise early
  earlier_rises rise = front_rises early (change_view c) (subst Rise with_last rise)

  pub told_is_last : (k : ℕ) → index_of c ≤ k → Some (truth_of c) ≡ told k (changes_of h)
  told_is_last k up_to = sym (ap (told k) with_last ∙ told_push None k early (change_view c) ∙ if_true (nat_le (index_of c) k) (Some (truth_of c)) (told k early) (is_from (index_of c) k up_to))

  pub told_is_earlier : (k : ℕ) → k < index_of c → told k early ≡ told k (changes_of h)
  told_is_earlier k past = sym (ap (told k) with_last ∙ told_push None k early (change_view c) ∙ if_false (nat_le (index_of c) k) (Some (truth_of c)) (told k early) (is_late (index_of c) k past))

  pub next_is_earlier : (k end j : ℕ) → index_of c ≤ k → IsNextIn early k end j → IsNextIn (changes_of h) k end j
  next_is_earlier k end j up_to next = subst (λ cs. IsNextIn cs k end j) (sym with_last)
      record {
        after = next.after;
        within = next.within;
        quiet = λ d m past. elim (Contains-push_cases early (change_view c) d m) [ inl l ↦ next.quiet d l past | inr e ↦ (let here = ap (λ (x : Change). x.0) e in absurd (omega (arith, here, up_to, past))) ];
        change = λ lt. (let (d, m, at) = next.change lt in (d, Contains-append_left early (change_view c ∷ []) d m, at));
      }

  pub next_is_last : (k end until j : ℕ) → IsLeast (index_of c) end until → IsNextIn early k until j → IsNextIn (changes_of h) k end j
  next_is_last k end until j (le, le', one) next = subst (λ cs. IsNextIn cs k end j) (sym with_last)
      record {
        after = next.after;
        within = omega (arith, le', next.within);
        quiet = λ d m past. elim (Contains-push_cases early (change_view c) d m) [ inl l ↦ next.quiet d l past | inr e ↦ (let here = ap (λ (x : Change). x.0) e in let within = next.within in omega (arith, here, le, within)) ];
        change = λ lt. by lt (cases_lt j until);
      }
    where
      by : j < end → (j < until) ⊎ (until ≤ j) → (d : Change) × Contains (early ++ change_view c ∷ []) d × (d.0 ≡ j)
      by lt (inl before) = let (d, m, at) = next.change before in (d, Contains-append_left early (change_view c ∷ []) d m, at)
      by lt (inr behind) = let within = next.within in (change_view c, Contains-push early (change_view c), which lt (omega (arith, behind, within)) one)
        where
          which : j < end → j ≡ until → (until ≡ index_of c) ⊎ (until ≡ end) → index_of c ≡ j
          which less here (inl e) = omega (arith, here, e)
          which less here (inr e) = absurd (omega (arith, less, here, e))

-- a change behind those before it
pub turned_behind : (old new : List Change) (c : Change) → Rise old → Before c.0 old → new ≡ old ++ c ∷ [] → IsTurned c old new
turned_behind old new c rise room is =
    record {
      behind = λ h. is;
      undone = λ cs b e. absurd (not_before cs c.0 b (subst (Before c.0) e room));
      rise = subst Rise (sym is) (all_pairs_push (λ a b. a.0 < b.0) old c rise (λ k e k_in. room k e k_in));
    }

-- the last undone
pub turned_undone : (old new : List Change) (c last : Change) → Rise old → EndsAt c.0 old → old ≡ new ++ last ∷ [] → IsTurned c old new
turned_undone old new c last rise (ds, b, is) cut =
    record {
      behind = λ h. absurd (not_before ds c.0 b (subst (Before c.0) is h));
      undone = λ cs d e. snoc_front new cs last (c.0, d) (sym cut ∙ e);
      rise = front_rises new last (subst Rise cut rise);
    }

-- nothing of it
pub turned_not : (old : List Change) (c : Change) → Rise old → (Before c.0 old → ⊥) → (EndsAt c.0 old → ⊥) → IsTurned c old old
turned_not old c rise late other = record { behind = λ h. absurd (late h); undone = λ cs b e. absurd (other (cs, b, e)); rise = rise }

pub is_equal : (a b : ℕ) → a ≡ b → nat_eq a b ≡ true
is_equal a b e = grind arith

-- a list ends at the index of its last change
pub ends_there : (cs : List code.Change) (k : ℕ) (last : code.Change) → Some last ≡ slice_get cs (length cs - 1) → index_of last ≡ k → EndsAt k (map change_view cs)
ends_there [] k last is e = absurd cc
ends_there (c ∷ []) k last is e = let same : last ≡ c = cc in ([], truth_of c, λ i. ((ap index_of (sym same) ∙ e) i, truth_of c) ∷ [])
ends_there (c ∷ d ∷ cs) k last is e =
    let next : length (c ∷ d ∷ cs) - 1 ≡ suc (length (d ∷ cs) - 1) = omega arith in
    let (ds, b, rest) = ends_there (d ∷ cs) k last (is ∙ ap (slice_get (c ∷ d ∷ cs)) next) e in
    (change_view c ∷ ds, b, ap (λ xs. change_view c ∷ xs) rest)

pub ends_elsewhere : (cs : List code.Change) (k : ℕ) (last : code.Change) → Some last ≡ slice_get cs (length cs - 1) → EndsAt k (map change_view cs) → index_of last ≡ k
ends_elsewhere cs k last is (ds, b, e) =
    let there = read_there cs (length cs - 1) last (sym is) in
    let long : length cs ≡ suc (length ds) = sym (length-map cs change_view) ∙ ap length e ∙ snoc_length ds (k, b) in
    let place : length cs - 1 ≡ length ds = omega (arith, long) in
    let view : get_or (map change_view cs) (length cs - 1) (k, b) ≡ change_view last = get_or-map change_view cs (length cs - 1) last (k, b) there.0 ∙ ap change_view there.1 in
    let end : get_or (map change_view cs) (length cs - 1) (k, b) ≡ (k, b) = ap (λ xs. get_or xs (length cs - 1) (k, b)) e ∙ ap (λ n. get_or (ds ++ (k, b) ∷ []) n (k, b)) place ∙ last_of ds (k, b) (k, b) in
    ap (λ (c : Change). c.0) (sym view ∙ end)

pub no_last : (cs : List code.Change) → None ≡ slice_get cs (length cs - 1) → cs ≡ []
no_last [] e = refl
no_last (c ∷ []) e = absurd cc
no_last (c ∷ d ∷ cs) e =
    let next : length (c ∷ d ∷ cs) - 1 ≡ suc (length (d ∷ cs) - 1) = omega arith in
    let clash : d ∷ cs ≡ [] = no_last (d ∷ cs) (e ∙ ap (slice_get (c ∷ d ∷ cs)) next) in
    absurd cc

-- the last of the code's changes taken off
pub turned_popped : (old new : List code.Change) (n : ℕ) (c : code.Change) (last : Option code.Change) → n ≡ length old → Rise (map change_view old) → EndsAt (index_of c) (map change_view old) → old ≡ new ++ option_to_list last → (IsSome last ↔ (0 < n)) → IsTurned (change_view c) (map change_view old) (map change_view new)
turned_popped old new n c (Some x) long rise ends cut some = turned_undone (map change_view old) (map change_view new) (change_view c) (change_view x) rise ends (ap (map change_view) cut ∙ map_push change_view new x)
turned_popped old new n c None long rise (ds, b, is) cut some =
    let size : length old ≡ suc (length ds) = sym (length-map old change_view) ∙ ap length is ∙ snoc_length ds (index_of c, b) in
    let h = some.1 (omega (arith, long, size)) in
    absurd (true≢false (sym h))

-- a history of the code in the model
pub entry_at : (hs : List History) (i : ℕ) (h : History) → i < length hs → h ≡ get_or hs i h → (d : List ℕ × List Change) → get_or (map history_view hs) i d ≡ history_view h
entry_at hs i h lt is d = get_or-map history_view hs i h d lt ∙ ap history_view (sym is)

pub rises_at : (hs : List History) (i : ℕ) (h : History) → i < length hs → h ≡ get_or hs i h → All (λ e. Rise e.1) (map history_view hs) → Rise (changes_of h)
rises_at hs i h lt is all = subst (λ (e : List ℕ × List Change). Rise e.1) (entry_at hs i h lt is (history_view h)) (all i (history_view h) (omega (arith, lt, length-map hs history_view)))

pub turned_at : (hs : List History) (i : ℕ) (h new : History) (c : Change) → i < length hs → h ≡ get_or hs i h → new.row ≡ h.row → IsTurned c (changes_of h) (changes_of new) → IsTurnedAt (map history_view hs) i c (map history_view (set hs i new))
turned_at hs i h new c lt is row turned = (changes_of new, set_replaces hs i h new lt is row, λ d. subst (λ (e : List ℕ × List Change). IsTurned c e.1 (changes_of new)) (sym (entry_at hs i h lt is d)) turned)

pub empty_ends : (k : ℕ) → EndsAt k [] → ⊥
empty_ends k (ds, b, e) = let h : 0 ≡ length (ds ++ (k, b) ∷ []) = ap length e in omega (arith, h, snoc_length ds (k, b))

-- one of the model's
replaced_rows : (es : Table) (i : ℕ) (cs : List Change) → rows_of (replaced es i cs) ≡ rows_of es
replaced_rows [] i cs = refl
replaced_rows (e ∷ es) zero cs = refl
replaced_rows (e ∷ es) (suc i) cs = ap (λ rows. e.0 ∷ rows) (replaced_rows es i cs)

replaced_here : (es : Table) (row : List ℕ) (i : ℕ) (cs : List Change) → Ascend (rows_of es) → i < length es → get_or (rows_of es) i [] ≡ row → beside (replaced es i cs) row ≡ cs
replaced_here [] row i cs h lt e = absurd (omega (arith, lt))
replaced_here (x ∷ es) row zero cs h lt e = if_true (bytes_eq row x.0) cs (beside es row) (is_row row x.0 (sym e))
replaced_here (x ∷ es) row (suc i) cs h lt e =
    let below : IsBelow x.0 (get_or (rows_of es) i []) = h 0 (suc i) [] (omega arith) (omega (arith, lt, length-map es (λ (f : List ℕ × List Change). f.0))) in
    let apart = no_row row x.0 (λ same. below_itself x.0 (subst (IsBelow x.0) (e ∙ same) below)) in
    if_false (bytes_eq row x.0) x.1 (beside (replaced es i cs) row) apart ∙ replaced_here es row i cs (tail_ascends x.0 (rows_of es) h) (omega (arith, lt)) e

replaced_other : (es : Table) (row : List ℕ) (i : ℕ) (cs : List Change) (r : List ℕ) → i < length es → get_or (rows_of es) i [] ≡ row → (r ≡ row → ⊥) → beside (replaced es i cs) r ≡ beside es r
replaced_other [] row i cs r lt e out = refl
replaced_other (x ∷ es) row zero cs r lt e out =
    let apart = no_row r x.0 (λ same. out (same ∙ e)) in
    if_false (bytes_eq r x.0) cs (beside es r) apart ∙ sym (if_false (bytes_eq r x.0) x.1 (beside es r) apart)
replaced_other (x ∷ es) row (suc i) cs r lt e out = ap (λ ds. if bytes_eq r x.0 then x.1 else ds) (replaced_other es row i cs r (omega (arith, lt)) e out)

replaced_lists : (P : List Change → Type 0) (es : Table) (i : ℕ) (cs : List Change) → All (λ e. P e.1) es → P cs → (j : ℕ) (d : List ℕ × List Change) → j < length (replaced es i cs) → P (get_or (replaced es i cs) j d).1
replaced_lists P [] i cs all h j d lt = absurd (omega (arith, lt))
replaced_lists P (e ∷ es) zero cs all h zero d lt = h
replaced_lists P (e ∷ es) zero cs all h (suc j) d lt = all (suc j) d lt
replaced_lists P (e ∷ es) (suc i) cs all h zero d lt = all 0 d (omega arith)
replaced_lists P (e ∷ es) (suc i) cs all h (suc j) d lt = replaced_lists P es i cs (λ k f within. all (suc k) f (omega (arith, within))) h j d (omega (arith, lt))

-- the changes of a row have turned, and nothing else has
module _ (old : Table) (row : List ℕ) (i : ℕ) (c : Change) (new : Table) (table : IsTable old) (lt : i < length (rows_of old)) (at : get_or (rows_of old) i [] ≡ row) (turned : IsTurnedAt old i c new) where
  within : i < length old
  within = omega (arith, lt, length-map old (λ (e : List ℕ × List Change). e.0))

  pub turned_rows : rows_of new ≡ rows_of old
  turned_rows = ap rows_of turned.1 ∙ replaced_rows old i turned.0

  pub turned_here : IsTurned c (beside old row) (beside new row)
  turned_here =
      let new_is : beside new row ≡ turned.0 = ap (λ t. beside t row) turned.1 ∙ replaced_here old row i turned.0 table.rows within at in
      let old_is : beside old row ≡ (get_or old i ([], [])).1 = beside_at old row i ([], []) table.rows within at in
      subst (IsTurned c (beside old row)) (sym new_is) (subst (λ cs. IsTurned c cs turned.0) (sym old_is) (turned.2 ([], [])))

  pub turned_others : (r : List ℕ) → (beside new r ≡ beside old r) ⊎ (r ≡ row)
  turned_others r = by (bytes_eq r row) (bytes_decides r row).0 (bytes_decides r row).1
    where
      by : (b : Bool) → (b ≡ true → r ≡ row) → (r ≡ row → b ≡ true) → (beside new r ≡ beside old r) ⊎ (r ≡ row)
      by true same out = inr (same refl)
      by false same out = inl (ap (λ t. beside t r) turned.1 ∙ replaced_other old row i turned.0 r within at (λ e. let clash = out e in absurd cc))

  pub turned_table : IsTable new
  turned_table = subst IsTable (sym turned.1) (record { rows = subst Ascend (sym (replaced_rows old i turned.0)) table.rows; lists = replaced_lists Rise old i turned.0 table.lists (turned.2 ([], [])).rise })

-- no changes yet
empty_lists : (rows : List (List ℕ)) (i : ℕ) (d : List ℕ × List Change) → i < length (map {A = List ℕ} {B = List ℕ × List Change} (λ r. (r, [])) rows) → (get_or (map {A = List ℕ} {B = List ℕ × List Change} (λ r. (r, [])) rows) i d).1 ≡ []
empty_lists [] i d lt = absurd (omega (arith, lt))
empty_lists (r ∷ rows) zero d lt = refl
empty_lists (r ∷ rows) (suc i) d lt = empty_lists rows i d (omega (arith, lt))

pub empty_rows : (rows : List (List ℕ)) → rows_of (map (λ r. (r, [])) rows) ≡ rows
empty_rows [] = refl
empty_rows (r ∷ rows) = ap (λ rs. r ∷ rs) (empty_rows rows)

pub empty_table : (rows : List (List ℕ)) → Ascend rows → (t : Table) → t ≡ map (λ r. (r, [])) rows → IsTable t
empty_table rows ascend t e = subst IsTable (sym e) (record { rows = subst Ascend (sym (empty_rows rows)) ascend; lists = λ i d lt. subst Rise (sym (empty_lists rows i d lt)) (λ a b f before inside. absurd (omega (arith, inside))) })

-- one history more, without changes
pub empty_more : (hs : List History) (vs : List Row) (h : History) → map history_view hs ≡ map (λ r. (r, [])) (rows_in vs) → in_order h ≡ [] → map history_view (hs ++ h ∷ []) ≡ map (λ r. (r, [])) (rows_in (vs ++ h.row ∷ []))
empty_more hs vs h e none =
    let row = h.row.numbers.items in
    map_push history_view hs h ∙ (λ j. e j ++ (row, ap (map change_view) none j) ∷ []) ∙ sym (ap (map (λ r. (r, []))) (map_push (λ (v : Row). v.numbers.items) vs h.row) ∙ map_push (λ r. (r, [])) (rows_in vs) row)

pub map_self : {X : Type 0} (xs : List X) → map (λ x. x) xs ≡ xs
map_self [] = refl
map_self (x ∷ xs) = ap (λ ys. x ∷ ys) (map_self xs)
