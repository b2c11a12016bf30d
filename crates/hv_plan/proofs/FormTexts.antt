-- The line that is printed of what a line says, and what is read of it.
use Rattle.std.proofs.Common.{◌≡◌, ◌+◌, ◌-◌, ◌*◌, ◌/◌, ◌%◌, ◌^◌, ◌<◌, ◌≤◌, ℕ, Bool, true, false, List, [], ◌∷◌, ◌++◌, map, None, refl, sym, ap, subst, ◌∙◌, codes, arith}
use Rattle.std.specs.Prelude.{decimal}
use Rattle.std.specs.List.{list_all}
use Rattle.std.specs.Char.{is_ascii_digit}
use Rattle.std.specs.Str.{bytes_eq}
use Rattle.std.proofs.lemmas.Fmt.{decimal_by_steps}
use Rattle.std.proofs.lemmas.Grind.{common_steps}
use Rattle.std.proofs.lemmas.Bool.Decides.{leb_tells}
use Rattle.std.proofs.lemmas.Slice.Eq.{bytes_eq-Decides}
use Rattle.hv_lists.proofs.Bools.{both_true}
use Rattle.hv_text.specs.Bytes.{is_word_byte, is_word}
use Rattle.hv_text.specs.Words.{Piece, word, pieces, first_bad}
use Rattle.hv_text.specs.declared.span.Span.{Span}
use Rattle.hv_plan.specs.Values.{Decomposition}
use Rattle.hv_plan.specs.Lines.{is_only, is_end}
use Rattle.hv_plan.specs.Forms.{Form, blank, action, decomposition, root, is_digits, value_from, is_id, fits}
use Rattle.hv_plan.specs.Spellings.{Each, no_more, one_more, SpellsId, an_id, SpellsName, a_name, SpellsArrow, an_arrow, bare, SpellsForm, an_action, a_decomposition, a_root, Says}
use Rattle.hv_plan.specs.Canonical.{words_text}
use Rattle.hv_plan.proofs.Lemmas.{are_digits, digits_same}
use Rattle.hv_plan.proofs.LineTexts.{IsTidy, AreTidy, IsWordAt, a_word, line_pieces}

-- the words of the line of what is said
abbrev pub head_of : Form → List ℕ
head_of blank = []
head_of (action a) = decimal a.id
head_of (decomposition d) = decimal d.id
head_of (root r) = codes "root"

abbrev pub rest_of : Form → List (List ℕ)
rest_of blank = []
rest_of (action a) = a.name ∷ a.arguments
rest_of (decomposition d) = (d.name ∷ d.arguments) ++ (codes "->" ∷ d.method ∷ map decimal d.children)
rest_of (root r) = map decimal r.ids

abbrev pub line_of : Form → List ℕ
line_of f = head_of f ++ words_text (rest_of f)

-- a name as it is printed
pub record IsName (w : List ℕ) : Type 0 where
  pub tidy : IsTidy w
  pub other : bytes_eq w (codes "->") ≡ false

abbrev pub AreNames : List (List ℕ) → Type 0
AreNames [] = Unit {0}
AreNames (w ∷ ws) = IsName w × AreNames ws

-- what is said can be printed: its names are names, and its ids are not too large
abbrev pub IsSound : Form → Type 0
IsSound blank = ⊥
IsSound (action a) = (is_id a.id ≡ true) × IsName a.name × AreNames a.arguments
IsSound (decomposition d) = (is_id d.id ≡ true) × IsName d.name × AreNames d.arguments × IsName d.method × (list_all is_id d.children ≡ true)
IsSound (root r) = list_all is_id r.ids ≡ true

-- decimal digits are read as their number
record IsRead (i : ℕ) (ds : List ℕ) : Type 0 where
  digits : is_digits ds ≡ true
  value : value_from 0 ds ≡ i

value_append : (v : ℕ) (ds : List ℕ) (d : ℕ) → value_from v (ds ++ d ∷ []) ≡ value_from v ds * 10 + (d - 48)
value_append v [] d = refl
value_append v (x ∷ ds) d = value_append (v * 10 + (x - 48)) ds d

all_digits_append : (ds : List ℕ) (d : ℕ) → list_all is_ascii_digit ds ≡ true → is_ascii_digit d ≡ true → list_all is_ascii_digit (ds ++ d ∷ []) ≡ true
all_digits_append [] d h e = rw e refl
all_digits_append (x ∷ ds) d h e = let q = both_true (is_ascii_digit x) (list_all is_ascii_digit ds) h in let f = q.0 in rw f (all_digits_append ds d q.1 e)

digits_append : (ds : List ℕ) (d : ℕ) → is_digits ds ≡ true → is_ascii_digit d ≡ true → is_digits (ds ++ d ∷ []) ≡ true
digits_append [] d h e = absurd (let clash : false ≡ true = h in cc)
digits_append (x ∷ ds) d h e = all_digits_append (x ∷ ds) d h e

digit_byte : (d : ℕ) → d < 10 → is_ascii_digit (48 + d) ≡ true
digit_byte d h = grind (arith, common_steps, leb_tells)

one_digit : (n : ℕ) → n < 10 → IsRead n ((48 + n) ∷ [])
one_digit n h = let d = digit_byte n h in record { digits = rw d refl; value = omega arith }

more_digits : (n : ℕ) (ds : List ℕ) → 10 ≤ n → IsRead (n / 10) ds → IsRead n (ds ++ ((48 + n % 10) ∷ []))
more_digits n ds h r =
    let small : n % 10 < 10 = omega arith in
    let back : (n / 10) * 10 + ((48 + n % 10) - 48) ≡ n = omega arith in
    record {
      digits = digits_append ds (48 + n % 10) r.digits (digit_byte (n % 10) small);
      value = value_append 0 ds (48 + n % 10) ∙ ap (λ v. v * 10 + ((48 + n % 10) - 48)) r.value ∙ back;
    }

id_small : (i : ℕ) → is_id i ≡ true → i < 2 ^ 64
id_small i h = let t = leb_tells i 18446744073709551615 in grind (arith, common_steps, leb_tells)

decimal_read : (i : ℕ) → is_id i ≡ true → IsRead i (decimal i)
decimal_read i h = decimal_by_steps IsRead one_digit more_digits i (id_small i h)

-- the words of a line are tidy
digit_letter : (b : ℕ) → is_ascii_digit b ≡ true → is_word_byte b ≡ true
digit_letter b e = grind (arith, common_steps)

digits_letters : (ds : List ℕ) → list_all is_ascii_digit ds ≡ true → list_all is_word_byte ds ≡ true
digits_letters [] h = refl
digits_letters (b ∷ ds) h =
    let q = both_true (is_ascii_digit b) (list_all is_ascii_digit ds) h in
    let e = digit_letter b q.0 in
    rw e (digits_letters ds q.1)

digits_word : (ds : List ℕ) → is_digits ds ≡ true → is_word ds ≡ true
digits_word [] h = absurd (let clash : false ≡ true = h in cc)
digits_word (b ∷ ds) h = digits_letters (b ∷ ds) h

decimal_tidy : (i : ℕ) → is_id i ≡ true → IsTidy (decimal i)
decimal_tidy i h =
    let r = decimal_read i h in
    record { letters = digits_word (decimal i) r.digits; low = digits_same (decimal i) (are_digits (decimal i) r.digits) }

decimals_tidy : (is : List ℕ) → list_all is_id is ≡ true → AreTidy (map decimal is)
decimals_tidy [] h = tt
decimals_tidy (i ∷ is) h = let q = both_true (is_id i) (list_all is_id is) h in (decimal_tidy i q.0, decimals_tidy is q.1)

names_tidy : (ws : List (List ℕ)) → AreNames ws → AreTidy ws
names_tidy [] h = tt
names_tidy (w ∷ ws) h = (h.0.tidy, names_tidy ws h.1)

tidy_append : (a b : List (List ℕ)) → AreTidy a → AreTidy b → AreTidy (a ++ b)
tidy_append [] b h k = k
tidy_append (w ∷ a) b h k = (h.0, tidy_append a b h.1 k)

pub tidy_head : (f : Form) → IsSound f → IsTidy (head_of f)
tidy_head blank h = absurd h
tidy_head (action a) h = decimal_tidy a.id h.0
tidy_head (decomposition d) h = decimal_tidy d.id h.0
tidy_head (root r) h = record { letters = refl; low = refl }

pub tidy_rest : (f : Form) → IsSound f → AreTidy (rest_of f)
tidy_rest blank h = tt
tidy_rest (action a) h = (h.1.tidy, names_tidy a.arguments h.2)
tidy_rest (decomposition d) h =
    tidy_append (d.name ∷ d.arguments) (codes "->" ∷ d.method ∷ map decimal d.children) (h.1.tidy, names_tidy d.arguments h.2)
    (record { letters = refl; low = refl }, (h.3.tidy, decimals_tidy d.children h.4))
tidy_rest (root r) h = decimals_tidy r.ids h

-- a piece is this word
record Stands (p : Piece) (w : List ℕ) : Type 0 where
  at : Span
  is : p ≡ word w at

abbrev Stand : List Piece → List (List ℕ) → Type 0
Stand [] [] = Unit {0}
Stand [] (w ∷ ws) = ⊥
Stand (p ∷ ps) [] = ⊥
Stand (p ∷ ps) (w ∷ ws) = Stands p w × Stand ps ws

stands : (p : Piece) (w : List ℕ) → IsWordAt p w → Stands p w
stands _ _ (a_word w s) = record { at = s; is = refl }

stand : (ps : List Piece) (ws : List (List ℕ)) → Each IsWordAt ps ws → Stand ps ws
stand _ _ no_more = tt
stand _ _ (one_more p ps w ws h k) = (stands p w h, stand ps ws k)

-- words in two parts
record Cut (ps : List Piece) (xs ys : List (List ℕ)) : Type 0 where
  front : List Piece
  back : List Piece
  whole : ps ≡ front ++ back
  first : Stand front xs
  last : Stand back ys

cut : (ps : List Piece) (xs ys : List (List ℕ)) → Stand ps (xs ++ ys) → Cut ps xs ys
cut ps [] ys h = record { front = []; back = ps; whole = refl; first = tt; last = h }
cut [] (x ∷ xs) ys h = absurd h
cut (p ∷ ps) (x ∷ xs) ys h =
    let c = cut ps xs ys h.1 in
    record { front = p ∷ c.front; back = c.back; whole = ap (λ qs. p ∷ qs) c.whole; first = (h.0, c.first); last = c.last }

-- what the words spell
id_spells : (p : Piece) (i : ℕ) → is_id i ≡ true → Stands p (decimal i) → SpellsId p i
id_spells p i e h =
    let r = decimal_read i e in
    subst (λ q. SpellsId q i) (sym h.is) (subst (λ v. SpellsId (word (decimal i) h.at) v) r.value (an_id (decimal i) h.at r.digits))

ids_spell : (ps : List Piece) (is : List ℕ) → list_all is_id is ≡ true → Stand ps (map decimal is) → Each SpellsId ps is
ids_spell [] [] e h = no_more
ids_spell [] (i ∷ is) e h = absurd h
ids_spell (p ∷ ps) [] e h = absurd h
ids_spell (p ∷ ps) (i ∷ is) e h =
    let q = both_true (is_id i) (list_all is_id is) e in
    one_more p ps i is (id_spells p i q.0 h.0) (ids_spell ps is q.1 h.1)

name_spells : (p : Piece) (w : List ℕ) → IsName w → Stands p w → SpellsName p w
name_spells p w n h = subst (λ q. SpellsName q w) (sym h.is) (a_name w h.at n.other)

names_spell : (ps : List Piece) (ws : List (List ℕ)) → AreNames ws → Stand ps ws → Each SpellsName ps ws
names_spell [] [] n h = no_more
names_spell [] (w ∷ ws) n h = absurd h
names_spell (p ∷ ps) [] n h = absurd h
names_spell (p ∷ ps) (w ∷ ws) n h = one_more p ps w ws (name_spells p w n.0 h.0) (names_spell ps ws n.1 h.1)

-- what is said, as line n
abbrev pub placed : ℕ → Form → Form
placed n blank = blank
placed n (action a) = action (record { id = a.id; name = a.name; arguments = a.arguments; line = n })
placed n (decomposition d) =
    decomposition (record { id = d.id; name = d.name; arguments = d.arguments; method = d.method; children = d.children; line = n })
placed n (root r) = root (record { ids = r.ids; line = n })

decomposed : (n : ℕ) (d : Decomposition) (p : Piece) (front back : List Piece) → IsSound (decomposition d) → Stands p (decimal d.id)
    → Stand front (d.name ∷ d.arguments) → Stand back (codes "->" ∷ d.method ∷ map decimal d.children)
    → SpellsForm n (p ∷ front ++ back) (placed n (decomposition d))
decomposed n d p front [] s h k l = absurd l
decomposed n d p front (a ∷ []) s h k l = absurd l.1
decomposed n d p front (a ∷ m ∷ qs) s h k l =
    let arrow : SpellsArrow a = subst SpellsArrow (sym l.0.is) (an_arrow (codes "->") l.0.at refl) in
    a_decomposition p a m front qs d.id d.name d.arguments d.method d.children (id_spells p d.id s.0 h)
    (bare front (d.name ∷ d.arguments) (names_spell front (d.name ∷ d.arguments) (s.1, s.2) k)) arrow (name_spells m d.method s.3 l.1.0) (ids_spell qs d.children s.4 l.1.1)

form_spells : (n : ℕ) (f : Form) (ps : List Piece) → IsSound f → Stand ps (head_of f ∷ rest_of f) → SpellsForm n ps (placed n f)
form_spells n blank ps s h = absurd s
form_spells n (action a) [] s h = absurd h
form_spells n (action a) (p ∷ ps) s h =
    an_action p ps a.id a.name a.arguments (id_spells p a.id s.0 h.0) (bare ps (a.name ∷ a.arguments) (names_spell ps (a.name ∷ a.arguments) (s.1, s.2) h.1))
form_spells n (decomposition d) [] s h = absurd h
form_spells n (decomposition d) (p ∷ ps) s h =
    let c = cut ps (d.name ∷ d.arguments) (codes "->" ∷ d.method ∷ map decimal d.children) h.1 in
    subst (λ qs. SpellsForm n (p ∷ qs) (placed n (decomposition d))) (sym c.whole) (decomposed n d p c.front c.back s h.0 c.first c.last)
form_spells n (root r) [] s h = absurd h
form_spells n (root r) (p ∷ ps) s h =
    subst (λ q. SpellsForm n (q ∷ ps) (placed n (root r))) (sym h.0.is) (a_root (codes "root") h.0.at ps r.ids refl (ids_spell ps r.ids s h.1))

words_clean : (ps : List Piece) (ws : List (List ℕ)) → Stand ps ws → first_bad ps ≡ None
words_clean [] ws h = refl
words_clean (p ∷ ps) [] h = absurd h
words_clean (p ∷ ps) (w ∷ ws) h = subst (λ q. first_bad (q ∷ ps) ≡ None) (sym h.0.is) (words_clean ps ws h.1)

form_fits : (n : ℕ) (f : Form) → IsSound f → fits (placed n f) ≡ true
form_fits n blank h = refl
form_fits n (action a) h = h.0
form_fits n (decomposition d) h = let i = h.0 in let c = h.4 in rw (i, c) refl
form_fits n (root r) h = h

form_stands : (f : Form) → IsSound f → Stand (pieces (line_of f)) (head_of f ∷ rest_of f)
form_stands f h = stand (pieces (line_of f)) (head_of f ∷ rest_of f) (line_pieces (head_of f) (rest_of f) (tidy_head f h) (tidy_rest f h))

-- the line of what is said says it
pub line_says : (n : ℕ) (f : Form) → IsSound f → Says (record { number = n; bytes = line_of f }) (placed n f)
line_says n f h = record {
  clean = words_clean (pieces (line_of f)) (head_of f ∷ rest_of f) (form_stands f h);
  spelled = form_spells n f (pieces (line_of f)) h (form_stands f h);
  small = form_fits n f h;
}

-- and it is no end marker
other_only : (ps : List Piece) (w : List ℕ) (ws : List (List ℕ)) → Stand ps (w ∷ ws) → bytes_eq w (codes "<==") ≡ false → is_only (codes "<==") ps ≡ false
other_only [] w ws h e = refl
other_only (p ∷ []) w ws h e = subst (λ q. is_only (codes "<==") (q ∷ []) ≡ false) (sym h.0.is) e
other_only (p ∷ q ∷ ps) w ws h e = subst (λ o. is_only (codes "<==") (o ∷ q ∷ ps) ≡ false) (sym h.0.is) refl

not_marker : (w : List ℕ) → is_digits w ≡ true → (b : Bool) → bytes_eq w (codes "<==") ≡ b → b ≡ false
not_marker w e true h =
    let same : w ≡ codes "<==" = (bytes_eq-Decides w (codes "<==")).0 h in
    absurd (let clash : false ≡ true = subst (λ v. is_digits v ≡ true) same e in cc)
not_marker w e false h = refl

decimal_other : (i : ℕ) → is_id i ≡ true → bytes_eq (decimal i) (codes "<==") ≡ false
decimal_other i h = not_marker (decimal i) (decimal_read i h).digits (bytes_eq (decimal i) (codes "<==")) refl

head_other : (f : Form) → IsSound f → bytes_eq (head_of f) (codes "<==") ≡ false
head_other blank h = absurd h
head_other (action a) h = decimal_other a.id h.0
head_other (decomposition d) h = decimal_other d.id h.0
head_other (root r) h = refl

pub line_is_inner : (n : ℕ) (f : Form) → IsSound f → is_end (record { number = n; bytes = line_of f }) ≡ false
line_is_inner n f h = other_only (pieces (line_of f)) (head_of f) (rest_of f) (form_stands f h) (head_other f h)
