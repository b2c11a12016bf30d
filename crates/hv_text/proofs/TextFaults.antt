-- A text has expressions or one fault, never both.
use Rattle.std.proofs.Common.{◌≡◌, ◌<◌, ◌≤◌, ◌+◌, ◌-◌, ◌==◌, ◌++◌, ◌⊎◌, inl, inr, ℕ, Bool, true, false, List, [], ◌∷◌, length, Option, Some, None, refl, ap, subst, arith, if◌then◌else◌}
use Rattle.std.specs.List.{slice_get}
use Rattle.std.proofs.lemmas.Option.{slice_get_within}
use Rattle.hv_lists.proofs.Numbers.{Compared, less, equal, more, compare}
use Rattle.hv_text.specs.Words.{Piece, word, left, right, bad, pieces, nowhere}
use Rattle.hv_text.specs.Trees.{Trees}
use Rattle.hv_text.specs.Sexps.{fault_at, open_before, IsSound, IsFirstFault, IsUnclosed, AreExpressions, HasExpressions, IsTextFault, IsOwnFault, HasOwnFault}
use Rattle.hv_text.specs.inside.Scan.{fault_from, open_from}
use Rattle.hv_text.proofs.FaultLemmas.{is_text_fault}
use Rattle.hv_text.proofs.RestLemmas.{expressions_to_come}
use Rattle.hv_text.specs.declared.span.Span.{Span}
use Rattle.hv_text.specs.declared.fault.TextKind.{TextKind}
use Rattle.hv_text.specs.declared.fault.TheConstants.{MOST_BYTES, MOST_OPEN}
use Rattle.hv_text.specs.declared.fault.TextKind.TheVariants as kinds

-- one fault, by its kind and place
pub record SameFault (k l : TextKind) (s t : Span) : Type 0 where
  pub kind : k ≡ l
  pub place : s ≡ t

not_sound : (ps : List Piece) (k : TextKind) (s : Span) → IsSound ps → IsFirstFault ps k s → ⊥
not_sound ps k s sound (i, here, before) = let none = sound i in cc

one_first : (ps : List Piece) (k l : TextKind) (s t : Span) → IsFirstFault ps k s → IsFirstFault ps l t → SameFault k l s t
one_first ps k l s t (i, here, before) (j, there, earlier) = at (compare i j) where
  at : Compared i j → SameFault k l s t
  at (less h) = let none = earlier i h in absurd (cc)
  at (equal e) =
      let found : fault_at ps j ≡ Some (k, s) = subst (λ n. fault_at ps n ≡ Some (k, s)) e here in
      let same : ◌≡◌ {A = TextKind × Span} (k, s) (l, t) = cc in
      record { kind = ap (λ (f : TextKind × Span). f.0) same; place = ap (λ (f : TextKind × Span). f.1) same }
  at (more h) = let none = before j h in absurd (cc)

not_closed : (ps : List Piece) (s : Span) → open_before ps (length ps) ≡ 0 → IsUnclosed ps s → ⊥
not_closed ps s closed (k, (here, stays), last) =
    let within = slice_get_within ps k (left s) here in
    let deeper = stays (length ps) within (omega arith) in
    omega arith

one_unclosed : (ps : List Piece) (s t : Span) → IsUnclosed ps s → IsUnclosed ps t → s ≡ t
one_unclosed ps s t (j, stays, last) (k, remains, latest) = at (compare j k) where
  at : Compared j k → s ≡ t
  at (less h) = absurd (last k t h remains)
  at (equal e) =
      let here : slice_get ps k ≡ Some (left s) = subst (λ n. slice_get ps n ≡ Some (left s)) e stays.0 in
      let there = remains.0 in
      let same : left s ≡ left t = cc in
      cc
  at (more h) = absurd (latest j s h stays)

-- how a text is faulty: it is too long, a fault stands in it, or a parenthesis is not closed
pub data Faulty (text : List ℕ) (k : TextKind) (s : Span) : Type 0 where
  too_long : MOST_BYTES < length text → k ≡ kinds.TooLong → s ≡ nowhere → Faulty text k s
  in_text : length text ≤ MOST_BYTES → IsFirstFault (pieces text) k s → Faulty text k s
  unclosed : length text ≤ MOST_BYTES → k ≡ kinds.Unclosed → IsSound (pieces text) → IsUnclosed (pieces text) s → Faulty text k s

pub is_faulty : (text : List ℕ) (k : TextKind) (s : Span) → (k ≡ kinds.Memory → ⊥) → IsTextFault text k s → Faulty text k s
is_faulty text kinds.TooLong s sober (size, place) = too_long size refl place
is_faulty text kinds.Memory s sober h = absurd (sober refl)
is_faulty text kinds.BadByte s sober (size, first) = in_text size first
is_faulty text kinds.Unopened s sober (size, first) = in_text size first
is_faulty text kinds.TooDeep s sober (size, first) = in_text size first
is_faulty text kinds.Unclosed s sober (size, sound, last) = unclosed size refl sound last

pub one_fault : (text : List ℕ) (k l : TextKind) (s t : Span) → Faulty text k s → Faulty text l t → SameFault k l s t
one_fault text k l s t (too_long size kind place) (too_long size' kind' place') = record { kind = cc; place = cc }
one_fault text k l s t (too_long size kind place) (in_text short first) = absurd (omega arith)
one_fault text k l s t (too_long size kind place) (unclosed short kind' sound last) = absurd (omega arith)
one_fault text k l s t (in_text short first) (too_long size kind place) = absurd (omega arith)
one_fault text k l s t (in_text short first) (in_text short' first') = one_first (pieces text) k l s t first first'
one_fault text k l s t (in_text short first) (unclosed short' kind sound last) = absurd (not_sound (pieces text) k s sound first)
one_fault text k l s t (unclosed short kind sound last) (too_long size kind' place) = absurd (omega arith)
one_fault text k l s t (unclosed short kind sound last) (in_text short' first) = absurd (not_sound (pieces text) l t sound first)
one_fault text k l s t (unclosed short kind sound last) (unclosed short' kind' sound' last') =
    record { kind = cc; place = one_unclosed (pieces text) s t last last' }

pub no_fault : (text : List ℕ) (ts : Trees) (k : TextKind) (s : Span) → AreExpressions text ts → Faulty text k s → ⊥
no_fault text ts k s read (too_long size kind place) = let short = read.size in omega arith
no_fault text ts k s read (in_text short first) = not_sound (pieces text) k s read.sound first
no_fault text ts k s read (unclosed short kind sound last) = not_closed (pieces text) s read.closed last

-- what is found of faults from the front on
data Found (o : Option (TextKind × Span)) : Type 0 where
  none : o ≡ None → Found o
  bad_byte : (s : Span) → o ≡ Some (kinds.BadByte, s) → Found o
  unopened : (s : Span) → o ≡ Some (kinds.Unopened, s) → Found o
  too_deep : (s : Span) → o ≡ Some (kinds.TooDeep, s) → Found o

either : (b : Bool) (x y : Option (TextKind × Span)) → Found x → Found y → Found (if b then x else y)
either true x y f g = f
either false x y f g = g

find : (n : ℕ) (ps : List Piece) → Found (fault_from n ps)
find n [] = none refl
find n (word t s ∷ ps) = find n ps
find n (bad s ∷ ps) = bad_byte s refl
find n (left s ∷ ps) = either (n == MOST_OPEN) (Some (kinds.TooDeep, s)) (fault_from (n + 1) ps) (too_deep s refl) (find (n + 1) ps)
find n (right s ∷ ps) = either (n == 0) (Some (kinds.Unopened, s)) (fault_from (n - 1) ps) (unopened s refl) (find (n - 1) ps)

-- a list is empty, or has a last member
data Ended (xs : List Span) : Type 0 where
  empty : xs ≡ [] → Ended xs
  ends : (before : List Span) (s : Span) → xs ≡ before ++ s ∷ [] → Ended xs

ended : (xs : List Span) → Ended xs
ended [] = empty refl
ended (x ∷ xs) = behind (ended xs) where
  behind : Ended xs → Ended (x ∷ xs)
  behind (empty e) = ends [] x (ap (λ l. x ∷ l) e)
  behind (ends before s e) = ends (x ∷ before) s (ap (λ l. x ∷ l) e)

pub some_reading : (text : List ℕ) → HasExpressions text ⊎ HasOwnFault text
some_reading text = sized (compare (length text) MOST_BYTES) where
  closed : length text ≤ MOST_BYTES → fault_from 0 (pieces text) ≡ None → Ended (open_from [] (pieces text)) → HasExpressions text ⊎ HasOwnFault text
  closed size e (empty c) = inl (_, expressions_to_come text (record { size = size; sound = e; closed = c }))
  closed size e (ends before s c) = inr (kinds.Unclosed, s, ((λ d. cc), is_text_fault text kinds.Unclosed s (size, e, (before, c))))

  searched : length text ≤ MOST_BYTES → Found (fault_from 0 (pieces text)) → HasExpressions text ⊎ HasOwnFault text
  searched size (none e) = closed size e (ended (open_from [] (pieces text)))
  searched size (bad_byte s e) = inr (kinds.BadByte, s, ((λ d. cc), is_text_fault text kinds.BadByte s (size, e)))
  searched size (unopened s e) = inr (kinds.Unopened, s, ((λ d. cc), is_text_fault text kinds.Unopened s (size, e)))
  searched size (too_deep s e) = inr (kinds.TooDeep, s, ((λ d. cc), is_text_fault text kinds.TooDeep s (size, e)))

  sized : Compared (length text) MOST_BYTES → HasExpressions text ⊎ HasOwnFault text
  sized (less h) = searched (omega arith) (find 0 (pieces text))
  sized (equal e) = searched (omega arith) (find 0 (pieces text))
  sized (more h) = inr (kinds.TooLong, nowhere, ((λ d. cc), (h, refl)))

pub never_both : (text : List ℕ) (ts : Trees) (k : TextKind) (s : Span) → AreExpressions text ts → IsOwnFault text k s → ⊥
never_both text ts k s read (sober, h) = no_fault text ts k s read (is_faulty text k s sober h)

pub one_own_fault : (text : List ℕ) (k l : TextKind) (s t : Span) → IsOwnFault text k s → IsOwnFault text l t → (k ≡ l) × (s ≡ t)
one_own_fault text k l s t (sober, h) (sober', h') =
    let same = one_fault text k l s t (is_faulty text k s sober h) (is_faulty text l t sober' h') in (same.kind, same.place)
