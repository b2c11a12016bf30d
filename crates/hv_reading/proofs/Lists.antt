-- A list of parts, read one after another.
use Rattle.std.proofs.Common.{◌≡◌, ℕ, ◌+◌, ◌-◌, ◌<◌, ◌≤◌, List, [], ◌∷◌, ◌++◌, length, map, take, take_all, drop, get_or, Option, Some, None, refl, sym, ap, ◌∙◌, arith, rules}
use Rattle.std.proofs.lemmas.List.{append-nil, append_assoc, drop_more, drop_all, map-append}
use Rattle.hv_text.specs.Names.{text_of}
use Rattle.std.specs.Global.{Vec}
use Rattle.hv_text.specs.Trees.{Tree, word, list, none, more, tree, trees}
use Rattle.hv_text.specs.declared.name.Name.{Name}
use Rattle.hv_text.specs.declared.span.Span.{Span}
use Rattle.hv_text.specs.declared.sexp.Sexp.{Sexp, Word, List as ListOf, the_lemmas}
use Rattle.hv_reading.specs.inside.Reading.{both, every, behind}

-- what a word of the code is
pub tree-Word : (n : Name) (s : Span) → tree (Word n s) ≡ word (text_of n) s
tree-Word n s = search (rules, the_lemmas)

pub tree-List : (v : Vec Sexp) (s : Span) → tree (ListOf v s) ≡ list (trees v.items) s
tree-List v s = search (rules, the_lemmas)

-- a list that begins with a word, and the members behind it
others_of : (x : Sexp) (es : List Sexp) → take (length (x ∷ es) - 1) (drop 1 (x ∷ es)) ≡ es
others_of x es = take_all (length (x ∷ es) - 1) es (omega arith)

pub headed_list : (e head : Sexp) (v : Vec Sexp) (es : List Sexp) (s p : Span) (n : Name) → e ≡ ListOf v s → es ≡ v.items → 1 ≤ length es → head ≡ get_or es 0 head → head ≡ Word n p
    → tree e ≡ list (more (word (text_of n) p) (trees (take (length es - 1) (drop 1 es)))) s
headed_list e head v [] s p n is items some at word_is = absurd (omega arith)
headed_list e head v (x ∷ xs) s p n is items some at word_is =
    ap tree is ∙ tree-List v s ∙ ap (λ ys. list (trees ys) s) (sym items) ∙ ap (λ y. list (more (tree y) (trees xs)) s) (sym at ∙ word_is)
    ∙ ap (λ t. list (more t (trees xs)) s) (tree-Word n p) ∙ ap (λ ys. list (more (word (text_of n) p) (trees ys)) s) (sym (others_of x xs))

-- from place i on, the place's member comes first
pub member_at : (es : List Sexp) (i : ℕ) (e : Sexp) → i < length es → e ≡ get_or es i e → trees (drop i es) ≡ more (tree e) (trees (drop (i + 1) es))
member_at es i e lt is = ap trees (drop_more es i e lt ∙ ap (λ x. x ∷ drop (i + 1) es) (sym is))

pub no_member_at : (es : List Sexp) (i : ℕ) → length es ≤ i → trees (drop i es) ≡ none
no_member_at es i le = ap trees (drop_all i es le)

module _ {A X : Type 0} (f : Tree → Option A) (view : X → A) where
  pub behind_both : (front : List A) (a : A) (r : Option (List A)) → behind front (both ◌∷◌ (Some a) r) ≡ behind (front ++ a ∷ []) r
  behind_both front a None = refl
  behind_both front a (Some xs) = ap Some (sym (append_assoc front (a ∷ []) xs))

  pub read_one_more : (es : List Sexp) (i : ℕ) (e : Sexp) (front : List A) (a : A) (all : Option (List A)) → i < length es → e ≡ get_or es i e → f (tree e) ≡ Some a
      → behind front (every f (trees (drop i es))) ≡ all
      → behind (front ++ a ∷ []) (every f (trees (drop (i + 1) es))) ≡ all
  read_one_more es i e front a all lt is read so_far =
      let here : behind front (every f (trees (drop i es))) ≡ behind front (both ◌∷◌ (Some a) (every f (trees (drop (i + 1) es)))) =
      rw (member_at es i e lt is, read) refl in
      sym (behind_both front a _) ∙ sym here ∙ so_far

  pub read_more : (es : List Sexp) (i : ℕ) (e : Sexp) (front : List X) (x : X) (all : Option (List A)) → i < length es → e ≡ get_or es i e → f (tree e) ≡ Some (view x)
      → behind (map view front) (every f (trees (drop i es))) ≡ all
      → behind (map view (front ++ x ∷ [])) (every f (trees (drop (i + 1) es))) ≡ all
  read_more es i e front x all lt is read so_far =
      ap (λ xs. behind xs (every f (trees (drop (i + 1) es)))) (map-append view front (x ∷ []))
      ∙ read_one_more es i e (map view front) (view x) all lt is read so_far

  pub read_none : (es : List Sexp) (i : ℕ) (e : Sexp) (front : List A) (all : Option (List A)) → i < length es → e ≡ get_or es i e → f (tree e) ≡ None
      → behind front (every f (trees (drop i es))) ≡ all → all ≡ None
  read_none es i e front all lt is read so_far =
      let here : behind front (every f (trees (drop i es))) ≡ None = rw (member_at es i e lt is, read) refl in
      sym so_far ∙ here

  pub read_all : (es : List Sexp) (i : ℕ) (front : List A) (all : Option (List A)) → length es ≤ i
      → behind front (every f (trees (drop i es))) ≡ all → all ≡ Some front
  read_all es i front all le so_far =
      let here : behind front (every f (trees (drop i es))) ≡ Some front = rw (no_member_at es i le) (ap Some (append-nil front)) in
      sym so_far ∙ here

-- exactly one member
pub one_member : (es : List Sexp) (e : Sexp) → 1 ≤ length es → length es < 2 → e ≡ get_or es 0 e → trees es ≡ more (tree e) none
one_member [] e h k is = absurd (omega arith)
one_member (x ∷ []) e h k is = ap (λ y. more (tree y) none) (sym is)
one_member (x ∷ y ∷ es) e h k is = absurd (omega arith)

pub one_indexed : (es : List Sexp) (e : Sexp) → length es ≡ 1 → e ≡ get_or es 0 e → trees es ≡ more (tree e) none
one_indexed es e n is = one_member es e (omega arith) (omega arith) is

-- exactly two
pub two_members : (es : List Sexp) (e f : Sexp) → 2 ≤ length es → length es < 3 → e ≡ get_or es 0 e → f ≡ get_or es 1 f → trees es ≡ more (tree e) (more (tree f) none)
two_members [] e f h k is js = absurd (omega arith)
two_members (x ∷ []) e f h k is js = absurd (omega arith)
two_members (x ∷ y ∷ []) e f h k is js = ap (λ a. more (tree a) (more (tree y) none)) (sym is) ∙ ap (λ b. more (tree e) (more (tree b) none)) (sym js)
two_members (x ∷ y ∷ z ∷ es) e f h k is js = absurd (omega arith)

pub two_indexed : (es : List Sexp) (e f : Sexp) → length es ≡ 2 → e ≡ get_or es 0 e → f ≡ get_or es 1 f → trees es ≡ more (tree e) (more (tree f) none)
two_indexed es e f n is js = two_members es e f (omega arith) (omega arith) is js

-- the second of two
pub second_of : (es : List Sexp) → length es ≡ 2 → (f : Sexp) × (f ≡ get_or es 1 f)
second_of [] n = absurd (omega arith)
second_of (x ∷ []) n = absurd (omega arith)
second_of (x ∷ y ∷ es) n = (y, refl)
