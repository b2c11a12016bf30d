-- What stands in a text, by the places of its bytes.
use Rattle.std.proofs.Common.{◌≡◌, ◌+◌, ◌-◌, ◌<◌, ◌≤◌, ◌++◌, inl, inr, ℕ, zero, suc, Bool, true, false, List, [], ◌∷◌, Some, length, take, drop, get_or, refl, ap, sym, ◌∙◌, subst, arith, ◌↔◌, add-zero, zero-add, length-drop}
use Rattle.std.specs.Prelude.{slice_range}
use Rattle.std.specs.List.{take_while, prefix_len, Contains}
use Rattle.std.proofs.lemmas.List.{get_or-drop, get_or_past}
use Rattle.std.proofs.lemmas.List.Elements.{Contains-append_left, Contains-append_right, Contains-append_cases, Contains-push_cases, Contains-push}
use Rattle.std.proofs.lemmas.List.Sums.{prefix_len_passes, prefix_len_stops, prefix_len_is, prefix_len-drop_yes}
use Rattle.std.proofs.lemmas.Option.{slice_get-get_or, slice_get_within, get_or_from_slice_get}
use Rattle.std.proofs.lemmas.Bool.{cases_lt}
use Rattle.std.proofs.lemmas.Grind.{common_steps}
use Rattle.hv_text.specs.Bytes.{is_word_byte, is_bad_byte, lower}
use Rattle.hv_text.specs.Words.{Piece, word, left, right, bad, span, class_of, uncommented, beginning, pieces_from, pieces}
use Rattle.hv_text.specs.Runs.{word_byte_at, IsRun, IsByte, IsAmong, StandsIn, IsInOrder}
use Rattle.hv_text.specs.declared.span.Span.{Span}
use Rattle.hv_text.specs.declared.words.Class.{Class}
use Rattle.hv_text.specs.declared.words.Class.TheVariants.{Blank, Semicolon, Left, Right, Inner, Bad}

-- whether a word byte stands before the i-th of these bytes, where `after` says it of the first
abbrev word_before : Bool → List ℕ → ℕ → Bool
word_before after bs zero = after
word_before after bs (suc i) = word_byte_at bs i

-- what begins at the i-th of these bytes, the first of which stands at place p
abbrev begins : Bool → ℕ → List ℕ → ℕ → List Piece
begins after p bs i = beginning (class_of (get_or bs i 32)) (word_before after bs i) (p + i) (drop i bs)

before_tail : (after : Bool) (b : ℕ) (bs : List ℕ) (i : ℕ) → word_before (is_word_byte b) bs i ≡ word_before after (b ∷ bs) (suc i)
before_tail after b bs zero = refl
before_tail after b bs (suc i) = refl

begins_tail : (after : Bool) (p b : ℕ) (bs : List ℕ) (i : ℕ) → begins (is_word_byte b) (p + 1) bs i ≡ begins after p (b ∷ bs) (suc i)
begins_tail after p b bs i =
    let e : p + 1 + i ≡ p + suc i = omega arith in
    rw (e, before_tail after b bs i) refl

none_contained : (q : Piece) → Contains [] q → ⊥
none_contained q h = absurd (omega (arith, h.1))

-- a piece begins at one of the bytes
pub begins_somewhere : (bs : List ℕ) (after : Bool) (p : ℕ) (q : Piece) → Contains (pieces_from after p bs) q → (i : ℕ) × (i < length bs) × Contains (begins after p bs i) q
begins_somewhere [] after p q h = absurd (none_contained q h)
begins_somewhere (b ∷ bs) after p q h =
    elim (Contains-append_cases (beginning (class_of b) after p (b ∷ bs)) (pieces_from (is_word_byte b) (p + 1) bs) q h) [
      | inl a ↦ (zero, omega arith, rw add-zero a)
      | inr c ↦ let w = begins_somewhere bs (is_word_byte b) (p + 1) q c in
          (suc w.0, omega (arith, w.1), rw (begins_tail after p b bs w.0) at w.2)
    ]

-- and what begins at one of the bytes is a piece
pub begins_there : (i : ℕ) (bs : List ℕ) (after : Bool) (p : ℕ) (q : Piece) → i < length bs → Contains (begins after p bs i) q → Contains (pieces_from after p bs) q
begins_there i [] after p q l h = absurd (omega arith)
begins_there zero (b ∷ bs) after p q l h = Contains-append_left (beginning (class_of b) after p (b ∷ bs)) (pieces_from (is_word_byte b) (p + 1) bs) q (rw add-zero at h)
begins_there (suc i) (b ∷ bs) after p q l h =
    Contains-append_right (beginning (class_of b) after p (b ∷ bs)) (pieces_from (is_word_byte b) (p + 1) bs) q
    (begins_there i bs (is_word_byte b) (p + 1) q (omega arith) (rw (begins_tail after p b bs i) h))

only_one : (p q : Piece) → Contains (p ∷ []) q → p ≡ q
only_one p q h = elim (Contains-push_cases [] p q h) [ inl a ↦ absurd (none_contained q a) | inr e ↦ e ]

it_alone : (p : Piece) → Contains (p ∷ []) p
it_alone p = Contains-push [] p

-- the run of word bytes from a place on
pub run_from : (bs : List ℕ) (i : ℕ) → i < length bs → word_byte_at bs i ≡ true → ((k : ℕ) → k + 1 ≡ i → word_byte_at bs k ≡ false)
    → IsRun bs (span i (prefix_len is_word_byte (drop i bs)))
run_from bs i l e before =
    let n = prefix_len is_word_byte (drop i bs) in
    let some : 0 < n = omega (arith, prefix_len-drop_yes is_word_byte bs i 32 l e) in
    record { some = omega arith; inside = within; before = before; behind = stops }
  where
    within : (k : ℕ) → i ≤ k → k < i + prefix_len is_word_byte (drop i bs) → word_byte_at bs k ≡ true
    within k a b =
        let q : i + (k - i) ≡ k = omega arith in
        rw (get_or-drop i bs (k - i) 32, q) at (prefix_len_passes is_word_byte (drop i bs) (k - i) 32 (omega arith))

    stops : word_byte_at bs (i + prefix_len is_word_byte (drop i bs)) ≡ false
    stops = elim (cases_lt (prefix_len is_word_byte (drop i bs)) (length (drop i bs))) [
      | inl a ↦ rw (get_or-drop i bs (prefix_len is_word_byte (drop i bs)) 32) at (prefix_len_stops is_word_byte (drop i bs) 32 a)
      | inr b ↦ rw (get_or_past bs (i + prefix_len is_word_byte (drop i bs)) 32 (omega (arith, length-drop i bs))) refl
    ]

pub class_inner : (b : ℕ) → class_of b ≡ Inner → is_word_byte b ≡ true
class_inner b e = grind (arith, common_steps)

inner_class : (b : ℕ) → is_word_byte b ≡ true → class_of b ≡ Inner
inner_class b e = grind (arith, common_steps)

pub class_left : (b : ℕ) → class_of b ≡ Left → b ≡ 40
class_left b e = grind (arith, common_steps)

pub class_right : (b : ℕ) → class_of b ≡ Right → b ≡ 41
class_right b e = grind (arith, common_steps)

pub class_bad : (b : ℕ) → class_of b ≡ Bad → is_bad_byte b ≡ true
class_bad b e = grind (arith, common_steps)

bad_class : (b : ℕ) → is_bad_byte b ≡ true → class_of b ≡ Bad
bad_class b e = grind (arith, common_steps)

before_of : (bs : List ℕ) (i : ℕ) → word_before false bs i ≡ false → (k : ℕ) → k + 1 ≡ i → word_byte_at bs k ≡ false
before_of bs zero e k h = absurd (omega arith)
before_of bs (suc i) e k h = let q : k ≡ i = omega arith in rw q e

of_before : (bs : List ℕ) (i : ℕ) → ((k : ℕ) → k + 1 ≡ i → word_byte_at bs k ≡ false) → word_before false bs i ≡ false
of_before bs zero h = refl
of_before bs (suc i) h = h i (omega arith)

pub one_byte : (bs : List ℕ) (i b : ℕ) → i < length bs → get_or bs i 32 ≡ b → IsByte bs (span i 1) b
one_byte bs i b l e = (refl, slice_get-get_or bs i 32 l ∙ ap Some e)

word_among : (bs : List ℕ) (i : ℕ) → i < length bs → word_byte_at bs i ≡ true → word_before false bs i ≡ false
    → IsAmong bs (word (lower (take_while is_word_byte (drop i bs))) (span i (prefix_len is_word_byte (drop i bs))))
word_among bs i l e f =
    let n : i + prefix_len is_word_byte (drop i bs) - i ≡ prefix_len is_word_byte (drop i bs) = omega arith in
    (run_from bs i l e (before_of bs i f), rw n refl)

-- what begins at a byte stands there
stands : (bs : List ℕ) (i : ℕ) (c : Class) (f : Bool) (q : Piece) → i < length bs → class_of (get_or bs i 32) ≡ c → word_before false bs i ≡ f
    → Contains (beginning c f i (drop i bs)) q → IsAmong bs q
stands bs i Inner true q l e g h = absurd (none_contained q h)
stands bs i Inner false q l e g h =
    subst (IsAmong bs) (only_one (word (lower (take_while is_word_byte (drop i bs))) (span i (prefix_len is_word_byte (drop i bs)))) q h)
    (word_among bs i l (class_inner (get_or bs i 32) e) g)
stands bs i Left f q l e g h = subst (IsAmong bs) (only_one (left (span i 1)) q h) (one_byte bs i 40 l (class_left (get_or bs i 32) e))
stands bs i Right f q l e g h = subst (IsAmong bs) (only_one (right (span i 1)) q h) (one_byte bs i 41 l (class_right (get_or bs i 32) e))
stands bs i Bad f q l e g h =
    subst (IsAmong bs) (only_one (bad (span i 1)) q h) (get_or bs i 32, one_byte bs i (get_or bs i 32) l refl, class_bad (get_or bs i 32) e)
stands bs i Blank f q l e g h = absurd (none_contained q h)
stands bs i Semicolon f q l e g h = absurd (none_contained q h)

among_to : (bs : List ℕ) (q : Piece) → Contains (pieces_from false 0 bs) q → IsAmong bs q
among_to bs q h =
    let w = begins_somewhere bs false 0 q h in
    stands bs w.0 (class_of (get_or bs w.0 32)) (word_before false bs w.0) q w.1 refl refl (rw zero-add at w.2)

pub inside_bytes : (bs : List ℕ) (k : ℕ) → word_byte_at bs k ≡ true → k < length bs
inside_bytes bs k e = elim (cases_lt k (length bs)) [ inl a ↦ a | inr b ↦ absurd (past (get_or_past bs k 32 b) e) ]
  where
    past : get_or bs k 32 ≡ 32 → word_byte_at bs k ≡ true → ⊥
    past a h = let z : is_word_byte 32 ≡ true = rw a at h in cc

run_length : (bs : List ℕ) (s : Span) → IsRun bs s → prefix_len is_word_byte (drop s.start bs) ≡ s.past - s.start
run_length bs s r =
    prefix_len_is is_word_byte (drop s.start bs) (s.past - s.start) 32 (omega (arith, length-drop s.start bs, last)) each behind
  where
    last : s.past - 1 < length bs
    last = inside_bytes bs (s.past - 1) (r.inside (s.past - 1) (omega (arith, r.some)) (omega (arith, r.some)))

    each : (k : ℕ) → k < s.past - s.start → is_word_byte (get_or (drop s.start bs) k 32) ≡ true
    each k a = rw (get_or-drop s.start bs k 32) (r.inside (s.start + k) (omega arith) (omega arith))

    behind : s.past - s.start < length (drop s.start bs) → is_word_byte (get_or (drop s.start bs) (s.past - s.start) 32) ≡ false
    behind a = let q : s.start + (s.past - s.start) ≡ s.past = omega (arith, r.some) in rw (get_or-drop s.start bs (s.past - s.start) 32, q) r.behind

there : (bs : List ℕ) (i : ℕ) (q : Piece) → i < length bs → Contains (beginning (class_of (get_or bs i 32)) (word_before false bs i) i (drop i bs)) q
    → Contains (pieces_from false 0 bs) q
there bs i q l h = begins_there i bs false 0 q l (rw zero-add h)

same_span : (s : Span) (n : ℕ) → s.past ≡ s.start + n → span s.start n ≡ s
same_span s n e = rw (← e) refl

byte_there : (bs : List ℕ) (s : Span) (b : ℕ) (c : Class) (q : Piece) → IsByte bs s b → class_of b ≡ c
    → ((f : Bool) → Contains (beginning c f s.start (drop s.start bs)) q) → Contains (pieces_from false 0 bs) q
byte_there bs s b c q h e k =
    let g : get_or bs s.start 32 ≡ b = get_or_from_slice_get bs s.start b 32 h.1 in
    there bs s.start q (slice_get_within bs s.start b h.1) (rw (g, e) (k (word_before false bs s.start)))

one_piece : (p q : Piece) → p ≡ q → Contains (p ∷ []) q
one_piece p q e = subst (λ z. Contains (z ∷ []) q) (sym e) (it_alone q)

word_is : (bs : List ℕ) (s : Span) (w : List ℕ) → IsRun bs s → w ≡ lower (slice_range bs s.start s.past)
    → word (lower (take_while is_word_byte (drop s.start bs))) (span s.start (prefix_len is_word_byte (drop s.start bs))) ≡ word w s
word_is bs s w r e =
    let n = run_length bs s r in
    let a : lower (take_while is_word_byte (drop s.start bs)) ≡ w = ap (λ z. lower (take z (drop s.start bs))) n ∙ sym e in
    let b = same_span s (prefix_len is_word_byte (drop s.start bs)) (omega (arith, n, r.some)) in
    ap (λ z. word z (span s.start (prefix_len is_word_byte (drop s.start bs)))) a ∙ ap (word w) b

-- what stands among the bytes is found
among_from : (bs : List ℕ) (q : Piece) → IsAmong bs q → Contains (pieces_from false 0 bs) q
among_from bs (word w s) h =
    let r = h.0 in
    let e : word_byte_at bs s.start ≡ true = r.inside s.start (omega arith) r.some in
    let f = of_before bs s.start r.before in
    there bs s.start (word w s) (inside_bytes bs s.start e)
    (rw (inner_class (get_or bs s.start 32) e, f) (one_piece _ (word w s) (word_is bs s w r h.1)))
among_from bs (left s) h = byte_there bs s 40 Left (left s) h refl (λ f. one_piece (left (span s.start 1)) (left s) (ap left (same_span s 1 h.0)))
among_from bs (right s) h = byte_there bs s 41 Right (right s) h refl (λ f. one_piece (right (span s.start 1)) (right s) (ap right (same_span s 1 h.0)))
among_from bs (bad s) h = byte_there bs s h.0 Bad (bad s) h.1 (bad_class h.0 h.2) (λ f. one_piece (bad (span s.start 1)) (bad s) (ap bad (same_span s 1 h.1.0)))

-- the words, parentheses and bad bytes of a text are what stands in it
pub what_stands : (text : List ℕ) (p : Piece) → Contains (pieces text) p ↔ StandsIn text p
what_stands text p = (among_to (uncommented false text) p, among_from (uncommented false text) p)

-- how far the word that a place lies in goes on
abbrev run_of : Bool → List ℕ → ℕ
run_of true bs = prefix_len is_word_byte bs
run_of false bs = 0

sooner : (m n : ℕ) (ps : List Piece) → m ≤ n → IsInOrder n ps → IsInOrder m ps
sooner m n [] l h = tt
sooner m n (p ∷ ps) l h = (omega (arith, h.0), h.1, h.2)

no_run : (after : Bool) (b : ℕ) (bs : List ℕ) → is_word_byte b ≡ false → run_of after (b ∷ bs) ≡ 0
no_run true b bs e = rw e refl
no_run false b bs e = refl

no_word : (b : ℕ) (c : Class) → class_of b ≡ c → (c ≡ Inner → ⊥) → is_word_byte b ≡ false
no_word b c e h = no_word_by (is_word_byte b) refl
  where
    no_word_by : (w : Bool) → is_word_byte b ≡ w → is_word_byte b ≡ false
    no_word_by true f = absurd (h (sym e ∙ inner_class b f))
    no_word_by false f = f

order_at : (b : ℕ) (bs : List ℕ) (after : Bool) (p : ℕ) (c : Class) → class_of b ≡ c
    → IsInOrder (p + 1 + run_of (is_word_byte b) bs) (pieces_from (is_word_byte b) (p + 1) bs)
    → IsInOrder (p + run_of after (b ∷ bs)) (beginning c after p (b ∷ bs) ++ pieces_from (is_word_byte b) (p + 1) bs)
order_at b bs true p Inner e h =
    let w = class_inner b e in
    let n : run_of true (b ∷ bs) ≡ 1 + run_of (is_word_byte b) bs = rw (w) refl in
    sooner (p + run_of true (b ∷ bs)) (p + 1 + run_of (is_word_byte b) bs) _ (omega (arith, n)) h
order_at b bs false p Inner e h =
    let w = class_inner b e in
    let n : prefix_len is_word_byte (b ∷ bs) ≡ 1 + run_of (is_word_byte b) bs = rw (w) refl in
    (omega arith, omega (arith, n), sooner (p + prefix_len is_word_byte (b ∷ bs)) (p + 1 + run_of (is_word_byte b) bs) _ (omega (arith, n)) h)
order_at b bs after p Left e h =
    let n = no_run after b bs (no_word b Left e (λ x. cc)) in (omega (arith, n), omega arith, sooner (p + 1) (p + 1 + run_of (is_word_byte b) bs) _ (omega arith) h)
order_at b bs after p Right e h =
    let n = no_run after b bs (no_word b Right e (λ x. cc)) in (omega (arith, n), omega arith, sooner (p + 1) (p + 1 + run_of (is_word_byte b) bs) _ (omega arith) h)
order_at b bs after p Bad e h =
    let n = no_run after b bs (no_word b Bad e (λ x. cc)) in (omega (arith, n), omega arith, sooner (p + 1) (p + 1 + run_of (is_word_byte b) bs) _ (omega arith) h)
order_at b bs after p Blank e h =
    let n = no_run after b bs (no_word b Blank e (λ x. cc)) in sooner (p + run_of after (b ∷ bs)) (p + 1 + run_of (is_word_byte b) bs) _ (omega (arith, n)) h
order_at b bs after p Semicolon e h =
    let n = no_run after b bs (no_word b Semicolon e (λ x. cc)) in sooner (p + run_of after (b ∷ bs)) (p + 1 + run_of (is_word_byte b) bs) _ (omega (arith, n)) h

order_from : (bs : List ℕ) (after : Bool) (p : ℕ) → IsInOrder (p + run_of after bs) (pieces_from after p bs)
order_from [] after p = tt
order_from (b ∷ bs) after p = order_at b bs after p (class_of b) refl (order_from bs (is_word_byte b) (p + 1))

-- they stand in order, and apart
pub in_order : (text : List ℕ) → IsInOrder 0 (pieces text)
in_order text = sooner 0 (0 + 0) (pieces text) (omega arith) (order_from (uncommented false text) false 0)
