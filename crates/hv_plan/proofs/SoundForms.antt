-- What is read of a text can be printed: its names are words in lower case, and its ids are not too large.
use Rattle.std.proofs.Common.{◌≡◌, ◌+◌, ℕ, Bool, true, false, List, [], ◌∷◌, ◌++◌, map, refl, sym, subst, arith}
use Rattle.std.specs.List.{take_while, list_all}
use Rattle.std.specs.Char.{to_ascii_lowercase}
use Rattle.std.proofs.lemmas.Grind.{common_steps}
use Rattle.std.proofs.lemmas.List.Sums.{take_while-cons}
use Rattle.std.proofs.lemmas.Str.Ascii.{lowercase-lowercase}
use Rattle.hv_lists.proofs.Bools.{both_true}
use Rattle.hv_text.specs.Bytes.{is_word_byte, is_word, lower}
use Rattle.hv_text.specs.Words.{Piece, word, left, right, bad, class_of, uncommented, beginning, pieces_from, pieces}
use Rattle.hv_text.specs.declared.words.Class.{Class}
use Rattle.hv_text.specs.declared.words.Class.TheVariants.{Blank, Semicolon, Left, Right, Inner, Bad}
use Rattle.hv_plan.specs.Values.{Plan}
use Rattle.hv_plan.specs.Lines.{NumberedLine}
use Rattle.hv_plan.specs.Forms.{Form, blank, action, decomposition, root, is_id, fits}
use Rattle.hv_plan.specs.Spellings.{Each, no_more, one_more, SpellsName, a_name, SpellsTask, bare, in_parentheses, SpellsForm, no_words, an_action, a_decomposition, a_root, Says, SayPlan, actions_among, decompositions_among, roots_among}
use Rattle.hv_plan.proofs.LineTexts.{IsTidy}
use Rattle.hv_plan.proofs.FormTexts.{IsName, AreNames, IsSound}

-- the words among pieces are tidy
abbrev IsTidyPiece : Piece → Type 0
IsTidyPiece (word w s) = IsTidy w
IsTidyPiece (left s) = Unit {0}
IsTidyPiece (right s) = Unit {0}
IsTidyPiece (bad s) = Unit {0}

abbrev AreTidyPieces : List Piece → Type 0
AreTidyPieces [] = Unit {0}
AreTidyPieces (p ∷ ps) = IsTidyPiece p × AreTidyPieces ps

pieces_append : (ps qs : List Piece) → AreTidyPieces ps → AreTidyPieces qs → AreTidyPieces (ps ++ qs)
pieces_append [] qs h k = k
pieces_append (p ∷ ps) qs h k = (h.0, pieces_append ps qs h.1 k)

pieces_front : (ps qs : List Piece) → AreTidyPieces (ps ++ qs) → AreTidyPieces ps
pieces_front [] qs h = tt
pieces_front (p ∷ ps) qs h = (h.0, pieces_front ps qs h.1)

pieces_back : (ps qs : List Piece) → AreTidyPieces (ps ++ qs) → AreTidyPieces qs
pieces_back [] qs h = h
pieces_back (p ∷ ps) qs h = pieces_back ps qs h.1

lower_lower : (bs : List ℕ) → lower (lower bs) ≡ lower bs
lower_lower [] = refl
lower_lower (b ∷ bs) = rw (lowercase-lowercase b, lower_lower bs) refl

letter_lower : (b : ℕ) → is_word_byte b ≡ true → is_word_byte (to_ascii_lowercase b) ≡ true
letter_lower b e = grind (arith, common_steps)

inner_letter : (b : ℕ) → class_of b ≡ Inner → is_word_byte b ≡ true
inner_letter b e = grind (arith, common_steps)

taken_more : (b : ℕ) (bs : List ℕ) → is_word_byte b ≡ true → take_while is_word_byte (b ∷ bs) ≡ b ∷ take_while is_word_byte bs
taken_more b bs e = grind (arith, common_steps, take_while-cons is_word_byte)

taken_none : (b : ℕ) (bs : List ℕ) → is_word_byte b ≡ false → take_while is_word_byte (b ∷ bs) ≡ []
taken_none b bs e = grind (arith, common_steps, take_while-cons is_word_byte)

taken_letters : (bs : List ℕ) → list_all is_word_byte (lower (take_while is_word_byte bs)) ≡ true
taken_letters [] = refl
taken_letters (b ∷ bs) = go (is_word_byte b) refl (taken_letters bs)
  where
    go : (t : Bool) → is_word_byte b ≡ t → list_all is_word_byte (lower (take_while is_word_byte bs)) ≡ true → list_all is_word_byte (lower (take_while is_word_byte (b ∷ bs))) ≡ true
    go true e h =
        let l = letter_lower b e in
        subst (λ x. list_all is_word_byte (lower x) ≡ true) (sym (taken_more b bs e)) (rw l h)
    go false e h = subst (λ x. list_all is_word_byte (lower x) ≡ true) (sym (taken_none b bs e)) refl

word_tidy : (b : ℕ) (bs : List ℕ) → is_word_byte b ≡ true → IsTidy (lower (take_while is_word_byte (b ∷ bs)))
word_tidy b bs e =
    let l = letter_lower b e in
    let some : is_word (lower (b ∷ take_while is_word_byte bs)) ≡ true = rw l (taken_letters bs) in
    record {
      letters = subst (λ x. is_word (lower x) ≡ true) (sym (taken_more b bs e)) some;
      low = lower_lower (take_while is_word_byte (b ∷ bs));
    }

beginning_tidy : (c : Class) (after : Bool) (p b : ℕ) (bs : List ℕ) → class_of b ≡ c → AreTidyPieces (beginning c after p (b ∷ bs))
beginning_tidy Inner true p b bs e = tt
beginning_tidy Inner false p b bs e = (word_tidy b bs (inner_letter b e), tt)
beginning_tidy Left after p b bs e = (tt, tt)
beginning_tidy Right after p b bs e = (tt, tt)
beginning_tidy Bad after p b bs e = (tt, tt)
beginning_tidy Blank after p b bs e = tt
beginning_tidy Semicolon after p b bs e = tt

tidy_from : (after : Bool) (p : ℕ) (bs : List ℕ) → AreTidyPieces (pieces_from after p bs)
tidy_from after p [] = tt
tidy_from after p (b ∷ bs) =
    pieces_append (beginning (class_of b) after p (b ∷ bs)) (pieces_from (is_word_byte b) (p + 1) bs) (beginning_tidy (class_of b) after p b bs refl) (tidy_from (is_word_byte b) (p + 1) bs)

pieces_tidy : (text : List ℕ) → AreTidyPieces (pieces text)
pieces_tidy text = tidy_from false 0 (uncommented false text)

-- names
name_sound : (p : Piece) (w : List ℕ) → SpellsName p w → IsTidyPiece p → IsName w
name_sound _ _ (a_name w s e) t = record { tidy = t; other = e }

names_sound : (ps : List Piece) (ws : List (List ℕ)) → Each SpellsName ps ws → AreTidyPieces ps → AreNames ws
names_sound _ _ no_more t = tt
names_sound _ _ (one_more p ps w ws h k) t = (name_sound p w h t.0, names_sound ps ws k t.1)

task_sound : (ps : List Piece) (ws : List (List ℕ)) → SpellsTask ps ws → AreTidyPieces ps → AreNames ws
task_sound _ _ (bare ps ws h) t = names_sound ps ws h t
task_sound _ _ (in_parentheses s r ps ws h) t = names_sound ps ws h (pieces_front ps (right r ∷ []) t.1)

-- what a line says
abbrev IsSoundOrBlank : Form → Type 0
IsSoundOrBlank blank = Unit {0}
IsSoundOrBlank (action a) = IsSound (action a)
IsSoundOrBlank (decomposition d) = IsSound (decomposition d)
IsSoundOrBlank (root r) = IsSound (root r)

form_sound : (n : ℕ) (ps : List Piece) (f : Form) → SpellsForm n ps f → AreTidyPieces ps → fits f ≡ true → IsSoundOrBlank f
form_sound n _ _ no_words t e = tt
form_sound n _ _ (an_action p ps i w ws h k) t e = let names = task_sound ps (w ∷ ws) k t.1 in (e, names.0, names.1)
form_sound n _ _ (a_decomposition p a m ps qs i w ws v is h k arrow name each) t e =
    let b = both_true (is_id i) (list_all is_id is) e in
    let names = task_sound ps (w ∷ ws) k (pieces_front ps (a ∷ m ∷ qs) t.1) in
    let back : AreTidyPieces (a ∷ m ∷ qs) = pieces_back ps (a ∷ m ∷ qs) t.1 in
    (b.0, names.0, names.1, name_sound m v name back.1.0, b.1)
form_sound n _ _ (a_root w s ps is h k) t e = e

said_sound : (l : NumberedLine) (f : Form) → Says l f → IsSoundOrBlank f
said_sound l f h = form_sound l.number (pieces l.bytes) f h.spelled (pieces_tidy l.bytes) h.small

-- what lines say
abbrev pub AreSound : List Form → Type 0
AreSound [] = Unit {0}
AreSound (f ∷ fs) = IsSound f × AreSound fs

sound_append : (fs gs : List Form) → AreSound fs → AreSound gs → AreSound (fs ++ gs)
sound_append [] gs h k = k
sound_append (f ∷ fs) gs h k = (h.0, sound_append fs gs h.1 k)

actions_sound : (ls : List NumberedLine) (fs : List Form) → Each Says ls fs → AreSound (map action (actions_among fs))
actions_sound _ _ no_more = tt
actions_sound _ _ (one_more l ls blank fs h k) = actions_sound ls fs k
actions_sound _ _ (one_more l ls (action a) fs h k) = (said_sound l (action a) h, actions_sound ls fs k)
actions_sound _ _ (one_more l ls (decomposition d) fs h k) = actions_sound ls fs k
actions_sound _ _ (one_more l ls (root r) fs h k) = actions_sound ls fs k

decompositions_sound : (ls : List NumberedLine) (fs : List Form) → Each Says ls fs → AreSound (map decomposition (decompositions_among fs))
decompositions_sound _ _ no_more = tt
decompositions_sound _ _ (one_more l ls blank fs h k) = decompositions_sound ls fs k
decompositions_sound _ _ (one_more l ls (action a) fs h k) = decompositions_sound ls fs k
decompositions_sound _ _ (one_more l ls (decomposition d) fs h k) = (said_sound l (decomposition d) h, decompositions_sound ls fs k)
decompositions_sound _ _ (one_more l ls (root r) fs h k) = decompositions_sound ls fs k

roots_sound : (ls : List NumberedLine) (fs : List Form) → Each Says ls fs → AreSound (map root (roots_among fs))
roots_sound _ _ no_more = tt
roots_sound _ _ (one_more l ls blank fs h k) = roots_sound ls fs k
roots_sound _ _ (one_more l ls (action a) fs h k) = roots_sound ls fs k
roots_sound _ _ (one_more l ls (decomposition d) fs h k) = roots_sound ls fs k
roots_sound _ _ (one_more l ls (root r) fs h k) = (said_sound l (root r) h, roots_sound ls fs k)

-- what a plan says, in the order in which it is printed
abbrev pub forms_of : Plan → List Form
forms_of p = map action p.actions ++ root p.root ∷ map decomposition p.decompositions

pub plan_sound : (ls : List NumberedLine) (p : Plan) → SayPlan ls p → AreSound (forms_of p)
plan_sound ls p h =
    let actions : AreSound (map action p.actions) = subst (λ xs. AreSound (map action xs)) (sym h.actions) (actions_sound ls h.forms h.each) in
    let decompositions : AreSound (map decomposition p.decompositions) = subst (λ xs. AreSound (map decomposition xs)) (sym h.decompositions) (decompositions_sound ls h.forms h.each) in
    let roots : AreSound (map root (p.root ∷ [])) = subst (λ xs. AreSound (map root xs)) h.root (roots_sound ls h.forms h.each) in
    sound_append (map action p.actions) (root p.root ∷ map decomposition p.decompositions) actions (roots.0, decompositions)
