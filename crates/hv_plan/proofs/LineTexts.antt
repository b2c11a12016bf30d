-- What stands in a printed line: words, each behind a space.
use Rattle.std.proofs.Common.{◌≡◌, ◌==◌, ◌||◌, ◌+◌, ℕ, Bool, true, false, List, [], ◌∷◌, ◌++◌, refl, sym, ap, subst, ◌∙◌, arith}
use Rattle.std.proofs.lemmas.Grind.{common_steps}
use Rattle.std.proofs.lemmas.List.Sums.{take_while-cons}
use Rattle.std.specs.List.{take_while, prefix_len, list_all}
use Rattle.hv_lists.proofs.Bools.{both_true}
use Rattle.hv_text.specs.Bytes.{is_word_byte, is_word, lower}
use Rattle.hv_text.specs.Words.{Piece, word, class_of, in_comment, uncommented, beginning, pieces_from, pieces, span}
use Rattle.hv_text.specs.declared.span.Span.{Span}
use Rattle.hv_text.specs.declared.words.Class.TheVariants.{Inner}
use Rattle.hv_plan.specs.Lines.{lines, with_byte}
use Rattle.hv_plan.specs.Canonical.{words_text}
use Rattle.hv_plan.specs.Spellings.{Each, no_more, one_more}

-- a word as it is printed: word bytes, in lower case
pub record IsTidy (w : List ℕ) : Type 0 where
  pub letters : is_word w ≡ true
  pub low : lower w ≡ w

abbrev pub AreTidy : List (List ℕ) → Type 0
AreTidy [] = Unit {0}
AreTidy (w ∷ ws) = IsTidy w × AreTidy ws

-- a piece that is this word
pub data IsWordAt : Piece → List ℕ → Type 0 where
  a_word : (w : List ℕ) (s : Span) → IsWordAt (word w s) w

inner_of_word_byte : (b : ℕ) → is_word_byte b ≡ true → class_of b ≡ Inner
inner_of_word_byte b e = grind (arith, common_steps)

-- no word goes on here
abbrev Ends : List ℕ → Type 0
Ends [] = Unit {0}
Ends (b ∷ bs) = is_word_byte b ≡ false

other_begins : (p b : ℕ) (bs : List ℕ) → is_word_byte b ≡ false → pieces_from true p (b ∷ bs) ≡ pieces_from false p (b ∷ bs)
other_begins p b bs e = grind (arith, common_steps)

ended : (p : ℕ) (rest : List ℕ) → Ends rest → pieces_from true p rest ≡ pieces_from false p rest
ended p [] e = refl
ended p (b ∷ bs) e = other_begins p b bs e

taken : (w rest : List ℕ) → list_all is_word_byte w ≡ true → Ends rest → take_while is_word_byte (w ++ rest) ≡ w
taken [] [] h e = refl
taken [] (b ∷ bs) h e = rw e refl
taken (x ∷ w) rest h e = let p = both_true (is_word_byte x) (list_all is_word_byte w) h in let q = p.0 in grind (arith, common_steps, take_while-cons is_word_byte, q, taken w rest p.1 e)

-- these are the pieces of the rest, from some place on
record Goes (left : List Piece) (rest : List ℕ) : Type 0 where
  place : ℕ
  is : left ≡ pieces_from false place rest

skip_one : (p x q : ℕ) (xs rest : List ℕ) → class_of x ≡ Inner → is_word_byte x ≡ true → pieces_from true (p + 1) xs ≡ pieces_from false q rest
    → pieces_from true p (x ∷ xs) ≡ pieces_from false q rest
skip_one p x q xs rest i e is = rw (i, e) is

skipped : (p : ℕ) (w rest : List ℕ) → list_all is_word_byte w ≡ true → Ends rest → Goes (pieces_from true p (w ++ rest)) rest
skipped p [] rest h e = record { place = p; is = ended p rest e }
skipped p (x ∷ w) rest h e =
    let q = both_true (is_word_byte x) (list_all is_word_byte w) h in
    let r = skipped (p + 1) w rest q.1 e in
    record { place = r.place; is = skip_one p x r.place (w ++ rest) rest (inner_of_word_byte x q.0) q.0 r.is }

-- a word stands first, and then the pieces of the rest
record First (left : List Piece) (w rest : List ℕ) : Type 0 where
  at : Span
  place : ℕ
  is : left ≡ word w at ∷ pieces_from false place rest

first_one : (p x q : ℕ) (xs w rest : List ℕ) → class_of x ≡ Inner → is_word_byte x ≡ true → lower (take_while is_word_byte (x ∷ xs)) ≡ w
    → pieces_from true (p + 1) xs ≡ pieces_from false q rest
    → pieces_from false p (x ∷ xs) ≡ word w (span p (prefix_len is_word_byte (x ∷ xs))) ∷ pieces_from false q rest
first_one p x q xs w rest i e same is =
    let begins : beginning (class_of x) false p (x ∷ xs) ≡ word w (span p (prefix_len is_word_byte (x ∷ xs))) ∷ [] =
    ap (λ c. beginning c false p (x ∷ xs)) i ∙ ap (λ v. word v (span p (prefix_len is_word_byte (x ∷ xs))) ∷ []) same in
    ap (λ ps. ps ++ pieces_from (is_word_byte x) (p + 1) xs) begins
    ∙ ap (λ b. word w (span p (prefix_len is_word_byte (x ∷ xs))) ∷ pieces_from b (p + 1) xs) e
    ∙ ap (λ ps. word w (span p (prefix_len is_word_byte (x ∷ xs))) ∷ ps) is

word_first : (p : ℕ) (w rest : List ℕ) → IsTidy w → Ends rest → First (pieces_from false p (w ++ rest)) w rest
word_first p [] rest t e = absurd (let clash : false ≡ true = t.letters in cc)
word_first p (x ∷ w) rest t e =
    let q = both_true (is_word_byte x) (list_all is_word_byte w) t.letters in
    let k : lower (take_while is_word_byte (x ∷ (w ++ rest))) ≡ x ∷ w = ap lower (taken (x ∷ w) rest t.letters e) ∙ t.low in
    let r = skipped (p + 1) w rest q.1 e in
    record {
      at = span p (prefix_len is_word_byte (x ∷ (w ++ rest)));
      place = r.place;
      is = first_one p x r.place (w ++ rest) (x ∷ w) rest (inner_of_word_byte x q.0) q.0 k r.is;
    }

ends_words : (ws : List (List ℕ)) → Ends (words_text ws)
ends_words [] = tt
ends_words (w ∷ ws) = refl

words_stand : (p : ℕ) (ws : List (List ℕ)) → AreTidy ws → Each IsWordAt (pieces_from false p (words_text ws)) ws
words_stand p [] t = no_more
words_stand p (w ∷ ws) t =
    let f = word_first (p + 1) w (words_text ws) t.0 (ends_words ws) in
    subst (λ xs. Each IsWordAt xs (w ∷ ws)) (sym f.is) (one_more (word w f.at) (pieces_from false f.place (words_text ws)) w ws (a_word w f.at) (words_stand f.place ws t.1))

line_stands : (w : List ℕ) (ws : List (List ℕ)) → IsTidy w → AreTidy ws → Each IsWordAt (pieces_from false 0 (w ++ words_text ws)) (w ∷ ws)
line_stands w ws h t =
    let f = word_first 0 w (words_text ws) h (ends_words ws) in
    subst (λ xs. Each IsWordAt xs (w ∷ ws)) (sym f.is) (one_more (word w f.at) (pieces_from false f.place (words_text ws)) w ws (a_word w f.at) (words_stand f.place ws t))

-- bytes of words and spaces
abbrev pub is_clear : ℕ → Bool
is_clear b = is_word_byte b || b == 32

clear_word : (b : ℕ) → is_word_byte b ≡ true → is_clear b ≡ true
clear_word b e = rw e refl

not_ten : (b : ℕ) → is_clear b ≡ true → (b == 10) ≡ false
not_ten b e = grind (arith, common_steps)

not_comment : (b : ℕ) → is_clear b ≡ true → in_comment false b ≡ false
not_comment b e = grind (arith, common_steps)

uncommented_clear : (bs : List ℕ) → list_all is_clear bs ≡ true → uncommented false bs ≡ bs
uncommented_clear [] h = refl
uncommented_clear (b ∷ bs) h =
    let q = both_true (is_clear b) (list_all is_clear bs) h in
    rw (not_comment b q.0) (ap (λ xs. b ∷ xs) (uncommented_clear bs q.1))

letters_clear : (w : List ℕ) → list_all is_word_byte w ≡ true → list_all is_clear w ≡ true
letters_clear [] h = refl
letters_clear (b ∷ w) h =
    let q = both_true (is_word_byte b) (list_all is_word_byte w) h in
    rw (q.0) (letters_clear w q.1)

word_clear : (w : List ℕ) → is_word w ≡ true → list_all is_clear w ≡ true
word_clear [] h = refl
word_clear (b ∷ w) h = letters_clear (b ∷ w) h

clear_append : (a b : List ℕ) → list_all is_clear a ≡ true → list_all is_clear b ≡ true → list_all is_clear (a ++ b) ≡ true
clear_append [] b h k = k
clear_append (x ∷ a) b h k =
    let q = both_true (is_clear x) (list_all is_clear a) h in
    let e = q.0 in
    rw e (clear_append a b q.1 k)

words_clear : (ws : List (List ℕ)) → AreTidy ws → list_all is_clear (words_text ws) ≡ true
words_clear [] t = refl
words_clear (w ∷ ws) t = clear_append w (words_text ws) (word_clear w t.0.letters) (words_clear ws t.1)

-- a line of words: its bytes, and what stands in it
pub line_clear : (w : List ℕ) (ws : List (List ℕ)) → IsTidy w → AreTidy ws → list_all is_clear (w ++ words_text ws) ≡ true
line_clear w ws h t = clear_append w (words_text ws) (word_clear w h.letters) (words_clear ws t)

pub line_pieces : (w : List ℕ) (ws : List (List ℕ)) → IsTidy w → AreTidy ws → Each IsWordAt (pieces (w ++ words_text ws)) (w ∷ ws)
line_pieces w ws h t =
    let plain : uncommented false (w ++ words_text ws) ≡ w ++ words_text ws = uncommented_clear (w ++ words_text ws) (line_clear w ws h t) in
    subst (λ bs. Each IsWordAt (pieces_from false 0 bs) (w ∷ ws)) (sym plain) (line_stands w ws h t)

-- the first line of a text
pub one_line : (l rest : List ℕ) → list_all is_clear l ≡ true → lines (l ++ 10 ∷ rest) ≡ l ∷ lines rest
one_line [] rest h = refl
one_line (b ∷ l) rest h =
    let q = both_true (is_clear b) (list_all is_clear l) h in
    rw (not_ten b q.0) (ap (with_byte b) (one_line l rest q.1))
