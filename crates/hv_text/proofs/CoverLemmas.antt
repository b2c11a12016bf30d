-- Each byte that is neither white space nor in a comment is in exactly one piece.
use Rattle.std.proofs.Common.{◌≡◌, ◌+◌, ◌<◌, ◌≤◌, inl, inr, ℕ, zero, suc, Bool, true, false, List, [], ◌∷◌, Some, length, drop, get_or, refl, ap, ◌∙◌, arith}
use Rattle.std.specs.Prelude.{slice_get}
use Rattle.std.specs.List.{prefix_len}
use Rattle.std.proofs.lemmas.Option.{same_Some, slice_get-get_or, get_or_from_slice_get, slice_get_within}
use Rattle.std.proofs.lemmas.Bool.{cases_lt}
use Rattle.std.proofs.lemmas.Grind.{common_steps}
use Rattle.hv_text.specs.Bytes.{is_blank, is_word_byte}
use Rattle.hv_text.specs.Words.{Piece, word, left, right, bad, span, class_of, uncommented, pieces}
use Rattle.hv_text.specs.Bytes.{lower}
use Rattle.hv_text.specs.Runs.{IsInComment, word_byte_at, IsRun, IsAmong, span_of, IsInOrder, Holds, IsHeldOnce}
use Rattle.hv_text.specs.declared.span.Span.{Span}
use Rattle.hv_text.specs.declared.words.Class.{Class}
use Rattle.hv_text.specs.declared.words.Class.TheVariants.{Blank, Semicolon, Left, Right, Inner, Bad}
use Rattle.hv_text.proofs.RunLemmas.{run_from, inside_bytes, one_byte, class_inner, class_left, class_right, class_bad, what_stands, in_order}
use Rattle.hv_text.proofs.CommentLemmas.{same_there}
use Rattle.std.specs.Prelude.{slice_range}

run_begins : (bs : List ℕ) (k : ℕ) → word_byte_at bs k ≡ true → ((j : ℕ) → j + 1 ≡ k → word_byte_at bs j ≡ false)
    → (s : Span) × IsRun bs s × Holds s k
run_begins bs k e before =
    let r = run_from bs k (inside_bytes bs k e) e before in
    (span k (prefix_len is_word_byte (drop k bs)), r, (omega arith, r.some))

run_goes_on : (k : ℕ) (bs : List ℕ) (f : Bool) → word_byte_at bs (suc k) ≡ true → word_byte_at bs k ≡ f
    → (word_byte_at bs k ≡ true → (s : Span) × IsRun bs s × Holds s k) → (s : Span) × IsRun bs s × Holds s (suc k)
run_goes_on k bs false e g again = run_begins bs (suc k) e (λ j h. only_before j h)
  where
    only_before : (j : ℕ) → j + 1 ≡ suc k → word_byte_at bs j ≡ false
    only_before j h = let q : j ≡ k = omega arith in rw q g
run_goes_on k bs true e g again =
    (w.0, w.1, (omega (arith, w.2.0), further))
  where
    w : (s : Span) × IsRun bs s × Holds s k
    w = again g

    not_past : suc k ≡ w.0.past → ⊥
    not_past h = let z : word_byte_at bs (suc k) ≡ false = rw h (w.1.behind) in cc

    further : suc k < w.0.past
    further = elim (cases_lt (suc k) w.0.past) [ inl a ↦ a | inr b ↦ absurd (not_past (omega (arith, b, w.2.1))) ]

-- a byte of a word is in a run
run_holding : (k : ℕ) (bs : List ℕ) → word_byte_at bs k ≡ true → (s : Span) × IsRun bs s × Holds s k
run_holding zero bs e = run_begins bs zero e (λ j h. absurd (omega arith))
run_holding (suc k) bs e = run_goes_on k bs (word_byte_at bs k) e refl (run_holding k bs)

-- a byte that is neither white space nor a semicolon is in something
held : (bs : List ℕ) (k : ℕ) (c : Class) → k < length bs → class_of (get_or bs k 32) ≡ c → (c ≡ Blank → ⊥) → (c ≡ Semicolon → ⊥)
    → (q : Piece) × IsAmong bs q × Holds (span_of q) k
held bs k Blank l e h g = absurd (h refl)
held bs k Semicolon l e h g = absurd (g refl)
held bs k Left l e h g = (left (span k 1), one_byte bs k 40 l (class_left (get_or bs k 32) e), (omega arith, omega arith))
held bs k Right l e h g = (right (span k 1), one_byte bs k 41 l (class_right (get_or bs k 32) e), (omega arith, omega arith))
held bs k Bad l e h g =
    (bad (span k 1), (get_or bs k 32, one_byte bs k (get_or bs k 32) l refl, class_bad (get_or bs k 32) e), (omega arith, omega arith))
held bs k Inner l e h g =
    let w = run_holding k bs (class_inner (get_or bs k 32) e) in
    (word (lower (slice_range bs w.0.start w.0.past)) w.0, (w.1, refl), w.2)

starts_behind : (n : ℕ) (ps : List Piece) (j : ℕ) (p : Piece) → IsInOrder n ps → slice_get ps j ≡ Some p → n ≤ (span_of p).start
starts_behind n [] j p o e = cc
starts_behind n (q ∷ ps) zero p o e = let s : q ≡ p = same_Some q p e in let h : (span_of q).start ≡ (span_of p).start = ap (λ z. (span_of z).start) s in omega (arith, o.0, h)
starts_behind n (q ∷ ps) (suc j) p o e = omega (arith, o.0, o.1, starts_behind (span_of q).past ps j p o.2 e)

ends_before : (n : ℕ) (ps : List Piece) (i j : ℕ) (p q : Piece) → IsInOrder n ps → i < j → slice_get ps i ≡ Some p → slice_get ps j ≡ Some q
    → (span_of p).past ≤ (span_of q).start
ends_before n [] i j p q o l e f = cc
ends_before n (r ∷ ps) i zero p q o l e f = absurd (omega arith)
ends_before n (r ∷ ps) zero (suc j) p q o l e f =
    let s : r ≡ p = same_Some r p e in let h : (span_of r).past ≡ (span_of p).past = ap (λ z. (span_of z).past) s in
    omega (arith, h, starts_behind (span_of r).past ps j q o.2 f)
ends_before n (r ∷ ps) (suc i) (suc j) p q o l e f = ends_before (span_of r).past ps i j p q o.2 (omega arith) e f

one_holds : (ps : List Piece) (i j k : ℕ) (p q : Piece) → IsInOrder 0 ps → slice_get ps i ≡ Some p → slice_get ps j ≡ Some q
    → Holds (span_of p) k → Holds (span_of q) k → j ≡ i
one_holds ps i j k p q o e f a b = elim (cases_lt i j) [
  | inl l ↦ absurd (omega (arith, ends_before 0 ps i j p q o l e f, a.1, b.0))
  | inr m ↦ elim (cases_lt j i) [
    | inl l ↦ absurd (omega (arith, ends_before 0 ps j i q p o l f e, b.1, a.0))
    | inr n ↦ omega (arith, m, n)
  ]
]

blank_class : (b : ℕ) → class_of b ≡ Blank → is_blank b ≡ true
blank_class b e = grind (arith, common_steps)

semicolon_class : (b : ℕ) → class_of b ≡ Semicolon → b ≡ 59
semicolon_class b e = grind (arith, common_steps)

itself_comment : (text : List ℕ) (k : ℕ) → slice_get text k ≡ Some 59 → IsInComment text k
itself_comment text k e = record { start = k; before = omega arith; within = slice_get_within text k 59 e; semicolon = e; same_line = line }
  where
    line : (j : ℕ) → k ≤ j → j ≤ k → ¬ (slice_get text j ≡ Some 10)
    line j a b h = let q : j ≡ k = omega arith in let z : slice_get text k ≡ Some 10 = rw q at h in cc

pub held_once : (text : List ℕ) (k b : ℕ) → slice_get text k ≡ Some b → is_blank b ≡ false → ¬ IsInComment text k → IsHeldOnce (pieces text) k
held_once text k b e f h =
    let there : slice_get (uncommented false text) k ≡ Some b = same_there text k h ∙ e in
    let byte : get_or (uncommented false text) k 32 ≡ b = get_or_from_slice_get (uncommented false text) k b 32 there in
    let w = held (uncommented false text) k (class_of b) (slice_get_within (uncommented false text) k b there) (ap class_of byte) not_blank not_semicolon in
    let c = (what_stands text w.0).1 w.1 in
    let at = slice_get-get_or (pieces text) c.0 w.0 c.1 ∙ ap Some c.2 in
    record {
      index = c.0;
      piece = w.0;
      is_there = at;
      holds = w.2;
      only = λ j p g i. one_holds (pieces text) c.0 j k w.0 p (in_order text) at g w.2 i;
    }
  where
    not_blank : class_of b ≡ Blank → ⊥
    not_blank g = let z : is_blank b ≡ true = blank_class b g in cc

    not_semicolon : class_of b ≡ Semicolon → ⊥
    not_semicolon g = h (itself_comment text k (e ∙ ap Some (semicolon_class b g)))
