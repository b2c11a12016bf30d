-- What stands in the text of an expression is what the expression spells, places aside.
use Rattle.std.proofs.Common.{◌≡◌, ◌==◌, ◌&&◌, ◌+◌, ◌-◌, ℕ, Bool, true, false, not, List, [], ◌∷◌, ◌++◌, map, refl, sym, ap, ◌∙◌, codes, arith}
use Rattle.std.proofs.lemmas.Grind.{common_steps}
use Rattle.std.proofs.lemmas.List.{append-nil, append_assoc, map-append}
use Rattle.std.proofs.lemmas.List.Sums.{take_while-cons}
use Rattle.std.specs.List.{take_while, list_all}
use Rattle.hv_lists.proofs.Bools.{both_true}
use Rattle.hv_text.specs.Bytes.{is_word_byte, is_word, lower}
use Rattle.hv_text.specs.Trees.{Tree, word, list, Trees, none, more, trees_of}
use Rattle.hv_text.specs.Words as found
use Rattle.hv_text.specs.Words.{Piece, left, right, nowhere, class_of, in_comment, uncommented, beginning, pieces_from, pieces}
use Rattle.hv_text.specs.Sexps.{spelled, spelled_all}
use Rattle.hv_text.specs.declared.words.Class.{Class}
use Rattle.hv_text.specs.declared.words.Class.TheVariants.{Blank, Semicolon, Left, Right, Inner, Bad}
use Rattle.hv_syntax.specs.Values.{WordAt}
use Rattle.hv_reading.specs.Canonical.{text, joined, spaced}
use Rattle.hv_reading.specs.CanonicalSections.{title, definition, lines, definition_text}
use Rattle.hv_text.specs.Shapes.{bare_piece, IsTidy, AreTidy}

-- what stands in bytes without comments, places aside
abbrev begins : Bool → ℕ → List ℕ → List Piece
begins after b bs = map bare_piece (beginning (class_of b) after 0 (b ∷ bs))

abbrev shown_in : Bool → List ℕ → List Piece
shown_in after [] = []
shown_in after (b ∷ bs) = begins after b bs ++ shown_in (is_word_byte b) bs

beginning_bare : (c : Class) (a : Bool) (p : ℕ) (bs : List ℕ) → map bare_piece (beginning c a p bs) ≡ map bare_piece (beginning c a 0 bs)
beginning_bare Inner true p bs = refl
beginning_bare Inner false p bs = refl
beginning_bare Left a p bs = refl
beginning_bare Right a p bs = refl
beginning_bare Bad a p bs = refl
beginning_bare Blank a p bs = refl
beginning_bare Semicolon a p bs = refl

shown_is : (a : Bool) (p : ℕ) (bs : List ℕ) → map bare_piece (pieces_from a p bs) ≡ shown_in a bs
shown_is a p [] = refl
shown_is a p (b ∷ bs) =
    map-append bare_piece (beginning (class_of b) a p (b ∷ bs)) (pieces_from (is_word_byte b) (p + 1) bs)
    ∙ ap (λ x. x ++ map bare_piece (pieces_from (is_word_byte b) (p + 1) bs)) (beginning_bare (class_of b) a p (b ∷ bs))
    ∙ ap (λ x. begins a b bs ++ x) (shown_is (is_word_byte b) (p + 1) bs)

-- what an expression spells, places aside
abbrev mutual
  shown : Tree → List Piece
  shown (word w s) = found.word w nowhere ∷ []
  shown (list ts s) = left nowhere ∷ shown_all ts ++ right nowhere ∷ []

  shown_all : Trees → List Piece
  shown_all none = []
  shown_all (more t ts) = shown t ++ shown_all ts

mutual
  spelled_shown : (t : Tree) → map bare_piece (spelled t) ≡ shown t
  spelled_shown (word w s) = refl
  spelled_shown (list ts s) =
      ap (λ xs. left nowhere ∷ xs) (map-append bare_piece (spelled_all ts) (right (record { start = s.past - 1; past = s.past }) ∷ []) ∙ ap (λ xs. xs ++ right nowhere ∷ []) (all_shown ts))

  all_shown : (ts : Trees) → map bare_piece (spelled_all ts) ≡ shown_all ts
  all_shown none = refl
  all_shown (more t ts) = map-append bare_piece (spelled t) (spelled_all ts) ∙ ap (λ x. x ++ map bare_piece (spelled_all ts)) (spelled_shown t) ∙ ap (λ x. shown t ++ x) (all_shown ts)

inner_of_word_byte : (b : ℕ) → is_word_byte b ≡ true → class_of b ≡ Inner
inner_of_word_byte b e = grind (arith, common_steps)

-- no word goes on here
abbrev Ends : List ℕ → Type 0
Ends [] = Unit {0}
Ends (b ∷ bs) = is_word_byte b ≡ false

other_begins : (b : ℕ) (bs : List ℕ) → is_word_byte b ≡ false → pieces_from true 0 (b ∷ bs) ≡ pieces_from false 0 (b ∷ bs)
other_begins b bs e = grind (arith, common_steps)

-- behind a word, what begins elsewhere
ended : (rest : List ℕ) → Ends rest → shown_in true rest ≡ shown_in false rest
ended [] e = refl
ended (b ∷ bs) e = sym (shown_is true 0 (b ∷ bs)) ∙ ap (map bare_piece) (other_begins b bs e) ∙ shown_is false 0 (b ∷ bs)

taken : (w rest : List ℕ) → list_all is_word_byte w ≡ true → Ends rest → take_while is_word_byte (w ++ rest) ≡ w
taken [] [] h e = refl
taken [] (b ∷ bs) h e = rw e refl
taken (x ∷ w) rest h e = let p = both_true (is_word_byte x) (list_all is_word_byte w) h in let q = p.0 in grind (arith, common_steps, take_while-cons is_word_byte, q, taken w rest p.1 e)

skipped : (w rest : List ℕ) → list_all is_word_byte w ≡ true → Ends rest → shown_in true (w ++ rest) ≡ shown_in false rest
skipped [] rest h e = ended rest e
skipped (x ∷ w) rest h e =
    let p = both_true (is_word_byte x) (list_all is_word_byte w) h in
    let i = inner_of_word_byte x p.0 in
    rw (i, p.0) (skipped w rest p.1 e)

word_shown : (w rest : List ℕ) → is_word w ≡ true → lower w ≡ w → Ends rest → shown_in false (w ++ rest) ≡ found.word w nowhere ∷ shown_in false rest
word_shown [] rest h l e = absurd cc
word_shown (x ∷ w) rest h low e =
    let p = both_true (is_word_byte x) (list_all is_word_byte w) h in
    let i = inner_of_word_byte x p.0 in
    let t : take_while is_word_byte (x ∷ (w ++ rest)) ≡ x ∷ w = taken (x ∷ w) rest h e in
    rw (i, t, p.0, low) (ap (λ xs. found.word (x ∷ w) nowhere ∷ xs) (skipped w rest p.1 e))

mutual
  text_shown : (t : Tree) (rest : List ℕ) → IsTidy t → Ends rest → shown_in false (text t ++ rest) ≡ shown t ++ shown_in false rest
  text_shown (word w s) rest h e = word_shown w rest h.0 h.1 e
  text_shown (list ts s) rest h e =
      let grouped : text (list ts s) ++ rest ≡ 40 ∷ (joined ts ++ (41 ∷ rest)) = ap (λ xs. 40 ∷ xs) (append_assoc (joined ts) (41 ∷ []) rest) in
      ap (shown_in false) grouped ∙ ap (λ xs. left nowhere ∷ xs) (joined_shown ts rest h) ∙ ap (λ xs. left nowhere ∷ xs) (sym (append_assoc (shown_all ts) (right nowhere ∷ []) (shown_in false rest)))

  joined_shown : (ts : Trees) (rest : List ℕ) → AreTidy ts → shown_in false (joined ts ++ (41 ∷ rest)) ≡ shown_all ts ++ (right nowhere ∷ shown_in false rest)
  joined_shown none rest h = refl
  joined_shown (more t ts) rest h =
      ap (shown_in false) (append_assoc (text t) (spaced ts) (41 ∷ rest)) ∙ text_shown t (spaced ts ++ (41 ∷ rest)) h.0 (ends_spaced ts rest)
      ∙ ap (λ xs. shown t ++ xs) (spaced_shown ts rest h.1) ∙ sym (append_assoc (shown t) (shown_all ts) (right nowhere ∷ shown_in false rest))

  spaced_shown : (ts : Trees) (rest : List ℕ) → AreTidy ts → shown_in false (spaced ts ++ (41 ∷ rest)) ≡ shown_all ts ++ (right nowhere ∷ shown_in false rest)
  spaced_shown none rest h = refl
  spaced_shown (more t ts) rest h =
      ap (λ xs. shown_in false (32 ∷ xs)) (append_assoc (text t) (spaced ts) (41 ∷ rest)) ∙ text_shown t (spaced ts ++ (41 ∷ rest)) h.0 (ends_spaced ts rest)
      ∙ ap (λ xs. shown t ++ xs) (spaced_shown ts rest h.1) ∙ sym (append_assoc (shown t) (shown_all ts) (right nowhere ∷ shown_in false rest))

  ends_spaced : (ts : Trees) (rest : List ℕ) → Ends (spaced ts ++ (41 ∷ rest))
  ends_spaced none rest = refl
  ends_spaced (more t ts) rest = refl

lines_shown : (ts : List Tree) (rest : List ℕ) → AreTidy (trees_of ts) → shown_in false (lines ts ++ (41 ∷ rest)) ≡ shown_all (trees_of ts) ++ (right nowhere ∷ shown_in false rest)
lines_shown [] rest h = refl
lines_shown (t ∷ ts) rest h =
    ap (shown_in false) (append_assoc (text t) (10 ∷ lines ts) (41 ∷ rest)) ∙ text_shown t (10 ∷ (lines ts ++ (41 ∷ rest))) h.0 refl
    ∙ ap (λ xs. shown t ++ xs) (lines_shown ts rest h.1) ∙ sym (append_assoc (shown t) (shown_all (trees_of ts)) (right nowhere ∷ shown_in false rest))

definition_shown : (kind : List ℕ) (n : WordAt) (ts : List Tree) → IsTidy (definition kind n ts) → shown_in false (definition_text kind n ts) ≡ shown (definition kind n ts)
definition_shown kind n ts h =
    let name : Tree = title kind n in
    let rest : List ℕ = lines ts ++ (41 ∷ 10 ∷ []) in
    let grouped : definition_text kind n ts ≡ codes "(define " ++ (text name ++ (10 ∷ rest)) =
    append_assoc (codes "(define " ++ text name) (10 ∷ lines ts) (41 ∷ 10 ∷ []) ∙ append_assoc (codes "(define ") (text name) (10 ∷ rest) in
    ap (shown_in false) grouped
    ∙ ap (λ xs. left nowhere ∷ xs) (word_shown (codes "define") (32 ∷ (text name ++ (10 ∷ rest))) refl refl refl)
    ∙ ap (λ xs. left nowhere ∷ found.word (codes "define") nowhere ∷ xs) (text_shown name (10 ∷ rest) h.1.0 refl)
    ∙ ap (λ xs. left nowhere ∷ found.word (codes "define") nowhere ∷ (shown name ++ xs)) (lines_shown ts (10 ∷ []) h.1.1)
    ∙ ap (λ xs. left nowhere ∷ found.word (codes "define") nowhere ∷ xs) (sym (append_assoc (shown name) (shown_all (trees_of ts)) (right nowhere ∷ [])))

-- no semicolon stands in it
abbrev IsClear : List ℕ → Type 0
IsClear [] = Unit {0}
IsClear (b ∷ bs) = ((b == 59) ≡ false) × IsClear bs

clear_both : (xs ys : List ℕ) → IsClear xs → IsClear ys → IsClear (xs ++ ys)
clear_both [] ys h k = k
clear_both (x ∷ xs) ys h k = (h.0, clear_both xs ys h.1 k)

no_semicolon : (b : ℕ) → is_word_byte b ≡ true → (b == 59) ≡ false
no_semicolon b e = grind (arith, common_steps)

bytes_clear : (w : List ℕ) → list_all is_word_byte w ≡ true → IsClear w
bytes_clear [] h = tt
bytes_clear (x ∷ w) h = let p = both_true (is_word_byte x) (list_all is_word_byte w) h in (no_semicolon x p.0, bytes_clear w p.1)

word_clear : (w : List ℕ) → is_word w ≡ true → IsClear w
word_clear [] h = tt
word_clear (x ∷ w) h = bytes_clear (x ∷ w) h

mutual
  text_clear : (t : Tree) → IsTidy t → IsClear (text t)
  text_clear (word w s) h = word_clear w h.0
  text_clear (list ts s) h = (refl, clear_both (joined ts) (41 ∷ []) (joined_clear ts h) (refl, tt))

  joined_clear : (ts : Trees) → AreTidy ts → IsClear (joined ts)
  joined_clear none h = tt
  joined_clear (more t ts) h = clear_both (text t) (spaced ts) (text_clear t h.0) (spaced_clear ts h.1)

  spaced_clear : (ts : Trees) → AreTidy ts → IsClear (spaced ts)
  spaced_clear none h = tt
  spaced_clear (more t ts) h = (refl, clear_both (text t) (spaced ts) (text_clear t h.0) (spaced_clear ts h.1))

lines_clear : (ts : List Tree) → AreTidy (trees_of ts) → IsClear (lines ts)
lines_clear [] h = tt
lines_clear (t ∷ ts) h = clear_both (text t) (10 ∷ lines ts) (text_clear t h.0) (refl, lines_clear ts h.1)

definition_clear : (kind : List ℕ) (n : WordAt) (ts : List Tree) → IsTidy (definition kind n ts) → IsClear (definition_text kind n ts)
definition_clear kind n ts h =
    clear_both (codes "(define " ++ text (title kind n) ++ 10 ∷ lines ts) (41 ∷ 10 ∷ [])
    (clear_both (codes "(define " ++ text (title kind n)) (10 ∷ lines ts)
    (clear_both (codes "(define ") (text (title kind n)) (refl, (refl, (refl, (refl, (refl, (refl, (refl, (refl, tt)))))))) (text_clear (title kind n) h.1.0))
    (refl, lines_clear ts h.1.1))
    (refl, (refl, tt))

and_false : (b : Bool) → b && false ≡ false
and_false true = refl
and_false false = refl

stays : (b : ℕ) → (b == 59) ≡ false → in_comment false b ≡ false
stays b h = rw h (and_false (not (b == 10)))

uncommented_is : (bs : List ℕ) → IsClear bs → uncommented false bs ≡ bs
uncommented_is [] h = refl
uncommented_is (b ∷ bs) h = let s = stays b h.0 in rw (s, uncommented_is bs h.1) refl

pieces_shown : (bs : List ℕ) → IsClear bs → map bare_piece (pieces bs) ≡ shown_in false bs
pieces_shown bs h = ap (λ xs. map bare_piece (pieces_from false 0 xs)) (uncommented_is bs h) ∙ shown_is false 0 bs

-- what stands in the text of an expression
pub text_pieces : (t : Tree) → IsTidy t → map bare_piece (pieces (text t)) ≡ map bare_piece (spelled t)
text_pieces t h =
    pieces_shown (text t) (text_clear t h) ∙ ap (shown_in false) (sym (append-nil (text t))) ∙ text_shown t [] h tt ∙ append-nil (shown t) ∙ sym (spelled_shown t)

-- what stands in the text of a definition
pub definition_pieces : (kind : List ℕ) (n : WordAt) (ts : List Tree) → IsTidy (definition kind n ts) → map bare_piece (pieces (definition_text kind n ts)) ≡ map bare_piece (spelled_all (more (definition kind n ts) none))
definition_pieces kind n ts h =
    let t : Tree = definition kind n ts in
    pieces_shown (definition_text kind n ts) (definition_clear kind n ts h) ∙ definition_shown kind n ts h ∙ sym (append-nil (shown t)) ∙ sym (all_shown (more t none))
