-- Words that stand in a text at their places.
use Rattle.std.proofs.Common.{◌≡◌, ◌∙◌, ◌&&◌, ℕ, zero, suc, Bool, true, List, [], ◌∷◌, ◌++◌, map, Some, slice_get, Result, Ok, Err, refl, sym, ap, ap₂, subst}
use Rattle.std.proofs.lemmas.Simd.{map-map}
use Rattle.std.specs.List.{list_all}
use Rattle.std.specs.Prelude.{OnOk, OnErr}
use Rattle.std.proofs.lemmas.List.Folds.{list_all-append}
use Rattle.std.specs.Cmp.Lexicographic.{bytes_decides}
use Rattle.hv_lists.proofs.Bools.{both_true}
use Rattle.hv_text.specs.Bytes.{is_word, bytes_at, lower}
use Rattle.hv_text.specs.Names.{bytes_of}
use Rattle.hv_text.specs.declared.span.Span.{Span}
use Rattle.hv_syntax.specs.declared.word.Placed.{Placed}
use Rattle.hv_syntax.specs.Values.{constant, WordAt, word_at}
use Rattle.hv_syntax.specs.Views.{word_view, word_in, constant_view}
use Rattle.hv_syntax.specs.inside.Places.{has_word, stands_in}

-- what all of a list have, one at a place of it has
pub all_at : {X : Type 0} (p : X → Bool) (xs : List X) (i : ℕ) (x : X) → list_all p xs ≡ true → slice_get xs i ≡ Some x → p x ≡ true
all_at p [] i x all is = absurd (cc)
all_at p (y ∷ xs) zero x all is =
    let same : y ≡ x = cc in
    subst (λ z. p z ≡ true) same (both_true (p y) (list_all p xs) all).0
all_at p (y ∷ xs) (suc i) x all is = all_at p xs i x (both_true (p y) (list_all p xs) all).1 is

same_bytes : (text : List ℕ) (w : Placed) → stands_in text w ≡ true → bytes_of w.name ≡ bytes_at text w.span
same_bytes text w h = (bytes_decides (bytes_of w.name) (bytes_at text w.span)).0 h

-- a text has a word at the place of one that stands there
pub word_there : (text : List ℕ) (w : Placed) → stands_in text w ≡ true → has_word text w.span ≡ true
word_there text w h = sym (ap is_word (same_bytes text w h)) ∙ w.name.is_word

-- which is the same word
pub same_word : (text : List ℕ) (w : Placed) → stands_in text w ≡ true → word_in text w.span ≡ word_view w
same_word text w h = ap (λ bs. word_at (lower bs) w.span) (sym (same_bytes text w h))

pub words_there : (text : List ℕ) (ws : List Placed) → list_all (stands_in text) ws ≡ true → list_all (has_word text) (map (λ w. w.span) ws) ≡ true
words_there text [] h = refl
words_there text (w ∷ ws) h =
    let both = both_true (stands_in text w) (list_all (stands_in text) ws) h in
    ap₂ (λ a b. a && b) (word_there text w both.0) (words_there text ws both.1)

pub same_words : (text : List ℕ) (ws : List Placed) → list_all (stands_in text) ws ≡ true → map (λ s. constant (word_in text s)) (map (λ w. w.span) ws) ≡ map constant_view ws
same_words text [] h = refl
same_words text (w ∷ ws) h =
    let both = both_true (stands_in text w) (list_all (stands_in text) ws) h in
    ap₂ (λ (x : WordAt) xs. constant x ∷ xs) (same_word text w both.0) (same_words text ws both.1)

-- the words at places, as terms
pub words_as_terms : (text : List ℕ) (ss : List Span) (ws : List Placed) → map word_view ws ≡ map (word_in text) ss → map constant_view ws ≡ map (λ s. constant (word_in text s)) ss
words_as_terms text ss ws h =
    sym (map-map constant word_view ws) ∙ ap (map constant) h ∙ map-map constant (word_in text) ss

-- what all of a list have, all have with one more that has it, or without it
pub all_pushed : {X E : Type 0} (p : X → Bool) (r : Result (Unit {0}) E) (old new : List X) (x : X) → OnOk r (new ≡ old ++ x ∷ []) → OnErr r (new ≡ old)
    → list_all p old ≡ true → p x ≡ true → list_all p new ≡ true
all_pushed p (Ok u) old new x put same all one = ap (list_all p) put ∙ list_all-append p old (x ∷ []) ∙ ap₂ (λ a b. a && (b && true)) all one
all_pushed p (Err e) old new x put same all one = ap (list_all p) same ∙ all
