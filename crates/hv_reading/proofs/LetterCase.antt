-- Two texts with the same lower case have the same words, expressions and faults, at the same places.
use Rattle.std.proofs.Common.{◌≡◌, ◌==◌, ℕ, ◌+◌, ◌≤◌, Bool, true, false, List, [], ◌∷◌, ◌++◌, length, take, zero, suc, refl, sym, ap, ◌∙◌, subst, arith, if◌then◌else◌}
use Rattle.std.specs.List.{take_while, prefix_len}
use Rattle.std.specs.Char.{to_ascii_lowercase}
use Rattle.std.proofs.lemmas.List.{length-map}
use Rattle.std.proofs.lemmas.Str.Ascii.{lowercase-lowercase}
use Rattle.hv_text.specs.Bytes.{is_blank, is_word_byte, lower}
use Rattle.hv_text.specs.Words.{class_of, in_comment, uncommented, beginning, pieces_from, pieces}
use Rattle.hv_text.specs.Trees.{Trees}
use Rattle.hv_text.specs.Sexps.{AreExpressions, IsSound, IsFirstFault, IsUnclosed, open_before, IsTextFault}
use Rattle.hv_text.specs.declared.words.Class.{Class}
use Rattle.hv_text.specs.declared.words.Class.TheVariants.{Blank, Semicolon, Left, Right, Inner, Bad}
use Rattle.hv_text.specs.declared.span.Span.{Span}
use Rattle.hv_text.specs.declared.fault.TextKind.{TextKind}
use Rattle.hv_text.specs.declared.fault.TextKind.TheVariants as texts
use Rattle.hv_reading.specs.declared.fault.SyntaxKind.{SyntaxKind}
use Rattle.hv_reading.specs.declared.fault.SyntaxKind.TheVariants as kinds
use Rattle.hv_reading.specs.Texts.{IsSpelledBy, IsFaultBy}

-- what the case of a letter does not change
same_word_byte : (b : ℕ) → is_word_byte (to_ascii_lowercase b) ≡ is_word_byte b
same_word_byte b = grind arith

same_left : (b : ℕ) → (to_ascii_lowercase b == 40) ≡ (b == 40)
same_left b = grind arith

same_right : (b : ℕ) → (to_ascii_lowercase b == 41) ≡ (b == 41)
same_right b = grind arith

same_semicolon : (b : ℕ) → (to_ascii_lowercase b == 59) ≡ (b == 59)
same_semicolon b = grind arith

same_blank : (b : ℕ) → is_blank (to_ascii_lowercase b) ≡ is_blank b
same_blank b = grind arith

same_class : (b : ℕ) → class_of (to_ascii_lowercase b) ≡ class_of b
same_class b = rw (same_word_byte b, same_blank b, same_left b, same_right b, same_semicolon b) refl

same_comment : (before : Bool) (b : ℕ) → in_comment before (to_ascii_lowercase b) ≡ in_comment before b
same_comment before b = grind arith

lower_lower : (bs : List ℕ) → lower (lower bs) ≡ lower bs
lower_lower [] = refl
lower_lower (b ∷ bs) = rw (lowercase-lowercase b, lower_lower bs) refl

blank_or : (c : Bool) (b : ℕ) → (if c then 32 else to_ascii_lowercase b) ≡ to_ascii_lowercase (if c then 32 else b)
blank_or true b = refl
blank_or false b = refl

same_uncommented : (before : Bool) (bs : List ℕ) → uncommented before (lower bs) ≡ lower (uncommented before bs)
same_uncommented before [] = refl
same_uncommented before (b ∷ bs) = rw (same_comment before b, blank_or (in_comment before b) b, same_uncommented (in_comment before b) bs) refl

length_of : (bs : List ℕ) → prefix_len is_word_byte (lower bs) ≡ prefix_len is_word_byte bs
length_of [] = refl
length_of (b ∷ bs) = rw (same_word_byte b, length_of bs) refl

lower_take : (n : ℕ) (bs : List ℕ) → lower (take n (lower bs)) ≡ lower (take n bs)
lower_take zero bs = refl
lower_take (suc n) [] = refl
lower_take (suc n) (b ∷ bs) = rw (lowercase-lowercase b, lower_take n bs) refl

word_of : (bs : List ℕ) → lower (take_while is_word_byte (lower bs)) ≡ lower (take_while is_word_byte bs)
word_of bs = rw (length_of bs) (lower_take (prefix_len is_word_byte bs) bs)

same_beginning : (k : Class) (after : Bool) (p : ℕ) (bs : List ℕ) → beginning k after p (lower bs) ≡ beginning k after p bs
same_beginning Inner true p bs = refl
same_beginning Inner false p bs = rw (word_of bs, length_of bs) refl
same_beginning Left after p bs = refl
same_beginning Right after p bs = refl
same_beginning Bad after p bs = refl
same_beginning Blank after p bs = refl
same_beginning Semicolon after p bs = refl

same_pieces_from : (after : Bool) (p : ℕ) (bs : List ℕ) → pieces_from after p (lower bs) ≡ pieces_from after p bs
same_pieces_from after p [] = refl
same_pieces_from after p (b ∷ bs) =
    rw (same_class b, same_word_byte b, same_pieces_from (is_word_byte b) (p + 1) bs)
    (ap (λ ps. ps ++ pieces_from (is_word_byte b) (p + 1) bs) (same_beginning (class_of b) after p (b ∷ bs)))

pieces_of_lower : (text : List ℕ) → pieces (lower text) ≡ pieces text
pieces_of_lower text = ap (pieces_from false 0) (same_uncommented false text) ∙ same_pieces_from false 0 (uncommented false text)

module _ (text other : List ℕ) (same : lower text ≡ lower other) where
  same_pieces : pieces text ≡ pieces other
  same_pieces = sym (pieces_of_lower text) ∙ ap pieces same ∙ pieces_of_lower other

  same_length : length text ≡ length other
  same_length = sym (length-map text to_ascii_lowercase) ∙ ap length same ∙ length-map other to_ascii_lowercase

  pub same_expressions : (ts : Trees) → AreExpressions text ts → AreExpressions other ts
  same_expressions ts are =
      record {
        size = rw (← same_length) are.size;
        sound = subst IsSound same_pieces are.sound;
        closed = subst (λ ps. open_before ps (length ps) ≡ 0) same_pieces are.closed;
        spelled = are.spelled ∙ same_pieces;
      }

  same_size : {n : ℕ} → length text ≤ n → length other ≤ n
  same_size h = rw (← same_length) h

  same_text_fault : (kind : TextKind) (s : Span) → IsTextFault text kind s → IsTextFault other kind s
  same_text_fault texts.TooLong s h = (rw (← same_length) h.0, h.1)
  same_text_fault texts.Memory s h = (same_size h.0, h.1)
  same_text_fault texts.BadByte s h = (same_size h.0, subst (λ ps. IsFirstFault ps texts.BadByte s) same_pieces h.1)
  same_text_fault texts.Unopened s h = (same_size h.0, subst (λ ps. IsFirstFault ps texts.Unopened s) same_pieces h.1)
  same_text_fault texts.TooDeep s h = (same_size h.0, subst (λ ps. IsFirstFault ps texts.TooDeep s) same_pieces h.1)
  same_text_fault texts.Unclosed s h = (same_size h.0, subst IsSound same_pieces h.1, subst (λ ps. IsUnclosed ps s) same_pieces h.2)

  pub same_value : {V : Type 0} (Spells : Trees → V → Type 0) (v : V) → IsSpelledBy Spells text v → IsSpelledBy Spells other v
  same_value Spells v (ts, are, h) = (ts, same_expressions ts are, h)

  pub same_fault : (Faulty : Trees → SyntaxKind → Span → Type 0) (kind : SyntaxKind) (s : Span) → IsFaultBy Faulty text kind s → IsFaultBy Faulty other kind s
  same_fault Faulty (kinds.Text kind) s h = same_text_fault kind s h
  same_fault Faulty kinds.NotDefine s (ts, are, h) = (ts, same_expressions ts are, h)
  same_fault Faulty kinds.UnknownSection s (ts, are, h) = (ts, same_expressions ts are, h)
  same_fault Faulty kinds.RepeatedSection s (ts, are, h) = (ts, same_expressions ts are, h)
  same_fault Faulty kinds.MissingSection s (ts, are, h) = (ts, same_expressions ts are, h)
  same_fault Faulty kinds.BadShape s (ts, are, h) = (ts, same_expressions ts are, h)
  same_fault Faulty kinds.Unsupported s (ts, are, h) = (ts, same_expressions ts are, h)
