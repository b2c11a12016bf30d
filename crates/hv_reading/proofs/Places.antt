-- What is read of formulas and networks does not look at places.
use Rattle.std.proofs.Common.{◌≡◌, ◌&&◌, ℕ, Bool, true, false, not, List, [], ◌∷◌, ◌++◌, length, map, nat_le, Option, Some, None, option_map, refl, sym, ap, ◌∙◌, codes, if◌then◌else◌}
use Rattle.std.proofs.lemmas.List.{length-map, map-append}
use Rattle.std.specs.Prelude.{option_and_then}
use Rattle.std.specs.Option.{is_some}
use Rattle.hv_text.specs.Trees.{Tree, word, list, Trees, none, more}
use Rattle.hv_text.specs.Words.{nowhere}
use Rattle.hv_text.specs.declared.span.Span.{Span}
use Rattle.hv_reading.specs.declared.word.Sort.{Sort}
use Rattle.hv_reading.specs.declared.word.Sort.TheVariants as sorts
use Rattle.hv_reading.specs.declared.word.Head.{Head}
use Rattle.hv_reading.specs.declared.word.Head.TheVariants as heads
use Rattle.hv_reading.specs.declared.field.Slot.{Slot}
use Rattle.hv_reading.specs.declared.field.Slot.TheVariants as slots
use Rattle.hv_syntax.specs.Values as v
use Rattle.hv_syntax.specs.Values.{WordAt, word_at, Term, constant, variable, Atom, atom_with, TypeOf, no_type, of_type, TypedBy, Typed, typed, Variable, Formula, formulas_of, holds, and, or, imply, forall, exists, equal, Literal, literal, Subtask, subtask, Pair, pair, Constraint, constraint}
use Rattle.hv_reading.specs.Words.{is, sort_of, is_sort, head_of, is_the_word}
use Rattle.hv_reading.specs.inside.Words.{sorted_word_of, symbol_by, symbol_of}
use Rattle.hv_reading.specs.inside.Reading.{both, every, all_some, only, tuple, two}
use Rattle.hv_reading.specs.inside.Terms.{term_by, term_of, atom_of}
use Rattle.hv_reading.specs.TypedLists.{with_type}
use Rattle.hv_reading.specs.inside.TypedLists.{is_empty, with_rest, typed_by, type_name_of, typed_list_of, some_names, either_among, type_of, typed_variables_of}
use Rattle.hv_reading.specs.Lists.{behind_and, conjuncts}
use Rattle.hv_reading.specs.inside.Lists.{behind_not, negated, single, listed_by, listed}
use Rattle.hv_reading.specs.inside.Formulas.{few, variables_of, and_all, or_all, negation, implication, quantified, equality, formula_by, formula_of, formula_among, each_formula}
use Rattle.hv_reading.specs.Literals.{is_constant, are_constants}
use Rattle.hv_reading.specs.inside.Literals.{literal_by, literal_of, if_ground, ground_literal_of}
use Rattle.hv_reading.specs.Fields.{slot_of, same_slot, is_in, field, is_field_list}
use Rattle.hv_reading.specs.inside.Networks.{with_list, labelled, with_label, subtask_by, subtask_of, sides_by, sides, pair_by, pair_of, equation_by, equation_of, constraint_by, constraint_of, listed_at, subtasks_by, network_with, network_of}
use Rattle.hv_reading.specs.Bare.{bare_word, bare_term, bare_atom, bare_by, bare_type_name, bare_typed, bare_type, bare_variable, bare_formula, bare_formulas, bare_literal, bare_subtask, bare_pair, bare_constraint, bare_network}
use Rattle.hv_text.specs.Shapes.{bare_tree, bare_trees}

-- both are nothing, or the same with their places aside
abbrev pub Same : {A : Type 0} → (A → A) → Option A → Option A → Type 0
Same bare o r = option_map bare o ≡ option_map bare r

-- f and g do alike but for places
pub same_map : {A B : Type 0} (f g : A → B) (a : A → A) (b : B → B) → ((x y : A) → a x ≡ a y → b (f x) ≡ b (g y)) → (o r : Option A) → Same a o r → Same b (option_map f o) (option_map g r)
same_map f g a b h None None e = refl
same_map f g a b h None (Some y) e = absurd cc
same_map f g a b h (Some x) None e = absurd cc
same_map f g a b h (Some x) (Some y) e = let same : a x ≡ a y = cc in ap Some (h x y same)

pub same_both : {A B C : Type 0} (f g : A → B → C) (a : A → A) (b : B → B) (c : C → C) → ((x y : A) (z w : B) → a x ≡ a y → b z ≡ b w → c (f x z) ≡ c (g y w))
    → (o r : Option A) (p q : Option B) → Same a o r → Same b p q → Same c (both f o p) (both g r q)
same_both f g a b c h None None p q e k = refl
same_both f g a b c h None (Some y) p q e k = absurd cc
same_both f g a b c h (Some x) None p q e k = absurd cc
same_both f g a b c h (Some x) (Some y) None None e k = refl
same_both f g a b c h (Some x) (Some y) None (Some w) e k = absurd cc
same_both f g a b c h (Some x) (Some y) (Some z) None e k = absurd cc
same_both f g a b c h (Some x) (Some y) (Some z) (Some w) e k = let s : a x ≡ a y = cc in let t : b z ≡ b w = cc in ap Some (h x y z w s t)

pub same_if : {A : Type 0} (a : A → A) (k : Bool) (o r p q : Option A) → Same a o r → Same a p q → Same a (if k then o else p) (if k then r else q)
same_if a true o r p q e f = e
same_if a false o r p q e f = f

pub same_then : {A B : Type 0} (f g : A → Option B) (a : A → A) (b : B → B) → ((x y : A) → a x ≡ a y → Same b (f x) (g y)) → (o r : Option A) → Same a o r → Same b (option_and_then f o) (option_and_then g r)
same_then f g a b h None None e = refl
same_then f g a b h None (Some y) e = absurd cc
same_then f g a b h (Some x) None e = absurd cc
same_then f g a b h (Some x) (Some y) e = let same : a x ≡ a y = cc in h x y same

more_same : {A : Type 0} (a : A → A) (x y : A) (xs ys : List A) → a x ≡ a y → map a xs ≡ map a ys → map a (x ∷ xs) ≡ map a (y ∷ ys)
more_same a x y xs ys e f = ap (λ z. z ∷ map a xs) e ∙ ap (λ zs. a y ∷ zs) f

pub every_same : {A : Type 0} (read : Tree → Option A) (a : A → A) → ((t : Tree) → Same a (read (bare_tree t)) (read t)) → (ts : Trees) → Same (map a) (every read (bare_trees ts)) (every read ts)
every_same read a h none = refl
every_same read a h (more t ts) =
    same_both ◌∷◌ ◌∷◌ a (map a) (map a) (more_same a) (read (bare_tree t)) (read t) (every read (bare_trees ts)) (every read ts) (h t) (every_same read a h ts)

-- words
word_if : (k : Bool) (w : List ℕ) (s : Span) → Same bare_word (if k then Some (word_at w nowhere) else None) (if k then Some (word_at w s) else None)
word_if true w s = refl
word_if false w s = refl

pub sorted_same : (sort : Sort) (t : Tree) → Same bare_word (sorted_word_of sort (bare_tree t)) (sorted_word_of sort t)
sorted_same sort (word w s) = word_if (is_sort sort w) w s
sorted_same sort (list ts s) = refl

symbol_by_same : (h : Head) (w : List ℕ) (s : Span) → Same bare_word (symbol_by h (word_at w nowhere)) (symbol_by h (word_at w s))
symbol_by_same heads.Symbol w s = refl
symbol_by_same heads.And w s = refl
symbol_by_same heads.Or w s = refl
symbol_by_same heads.Not w s = refl
symbol_by_same heads.Imply w s = refl
symbol_by_same heads.Forall w s = refl
symbol_by_same heads.Exists w s = refl
symbol_by_same heads.When w s = refl
symbol_by_same heads.Equal w s = refl
symbol_by_same heads.Other w s = refl

pub symbol_same : (t : Tree) → Same bare_word (symbol_of (bare_tree t)) (symbol_of t)
symbol_same (word w s) = symbol_by_same (head_of w) w s
symbol_same (list ts s) = refl

pub word_is_same : (v : List ℕ) (t : Tree) → is_the_word v (bare_tree t) ≡ is_the_word v t
word_is_same v (word w s) = refl
word_is_same v (list ts s) = refl

term_by_same : (k : Sort) (w : List ℕ) (s : Span) → Same bare_term (term_by k (word_at w nowhere)) (term_by k (word_at w s))
term_by_same sorts.Name w s = refl
term_by_same sorts.Variable w s = refl
term_by_same sorts.Keyword w s = refl
term_by_same sorts.Mark w s = refl

term_same : (t : Tree) → Same bare_term (term_of (bare_tree t)) (term_of t)
term_same (word w s) = term_by_same (sort_of w) w s
term_same (list ts s) = refl

terms_same : (ts : Trees) → Same (map bare_term) (every term_of (bare_trees ts)) (every term_of ts)
terms_same ts = every_same term_of bare_term term_same ts

atom_alike : (w u : WordAt) (xs ys : List Term) → bare_word w ≡ bare_word u → map bare_term xs ≡ map bare_term ys → bare_atom (atom_with w xs) ≡ bare_atom (atom_with u ys)
atom_alike w u xs ys e f = ap (λ z. atom_with z (map bare_term xs)) e ∙ ap (atom_with (bare_word u)) f

pub atom_same : (t : Tree) → Same bare_atom (atom_of (bare_tree t)) (atom_of t)
atom_same (word w s) = refl
atom_same (list none s) = refl
atom_same (list (more t ts) s) =
    same_both atom_with atom_with bare_word (map bare_term) bare_atom atom_alike (symbol_of (bare_tree t)) (symbol_of t) (every term_of (bare_trees ts)) (every term_of ts) (symbol_same t) (terms_same ts)

-- typed lists
empty_same : (ws : List WordAt) → is_empty (map bare_word ws) ≡ is_empty ws
empty_same [] = refl
empty_same (w ∷ ws) = refl

module _ {T : Type 0} (read : Tree → Option T) (bare : T → T) (not_written : T) (sort : Sort) (type_same : (t : Tree) → Same bare (read (bare_tree t)) (read t)) where
  abbrev bare_list : List (TypedBy T) → List (TypedBy T)
  bare_list vs = map (bare_by bare) vs

  with_type_same : (t u : T) (ws : List WordAt) → bare t ≡ bare u → bare_list (with_type t (map bare_word ws)) ≡ bare_list (with_type u ws)
  with_type_same t u [] e = refl
  with_type_same t u (w ∷ ws) e =
      ap (λ n. typed n (bare_word w) ∷ bare_list (with_type t (map bare_word ws))) e ∙ ap (λ vs. bare_by bare (typed u w) ∷ vs) (with_type_same t u ws e)

  rest_same : (ws : List WordAt) (t u : T) (xs ys : List (TypedBy T)) → bare t ≡ bare u → bare_list xs ≡ bare_list ys → bare_list (with_rest (map bare_word ws) t xs) ≡ bare_list (with_rest ws u ys)
  rest_same ws t u xs ys e k =
      map-append (bare_by bare) (with_type t (map bare_word ws)) xs ∙ ap (λ z. z ++ bare_list xs) (with_type_same t u ws e)
      ∙ ap (λ z. bare_list (with_type u ws) ++ z) k ∙ sym (map-append (bare_by bare) (with_type u ws) ys)

  if_empty : (k : Bool) (o r : Option (List (TypedBy T))) → Same bare_list o r → Same bare_list (if k then None else o) (if k then None else r)
  if_empty true o r e = refl
  if_empty false o r e = e

  typed_same : (ts : Trees) (b : Bool) (ws : List WordAt) → Same bare_list (typed_by read not_written sort b (map bare_word ws) (bare_trees ts)) (typed_by read not_written sort b ws ts)
  typed_same none false ws = ap Some (with_type_same not_written not_written ws refl)
  typed_same none true ws = refl
  typed_same (more t ts) true ws =
      same_both (with_rest (map bare_word ws)) (with_rest ws) bare bare_list bare_list (rest_same ws) (read (bare_tree t)) (read t)
      (typed_by read not_written sort false [] (bare_trees ts)) (typed_by read not_written sort false [] ts) (type_same t) (typed_same ts false [])
  typed_same (more (list us p) ts) false ws = refl
  typed_same (more (word w s) ts) false ws =
      let next : Option (List (TypedBy T)) = typed_by read not_written sort false (map bare_word ws ++ word_at w nowhere ∷ []) (bare_trees ts) in
      let moved : next ≡ typed_by read not_written sort false (map bare_word (ws ++ word_at w s ∷ [])) (bare_trees ts) = ap (λ x. typed_by read not_written sort false x (bare_trees ts)) (sym (map-append bare_word ws (word_at w s ∷ []))) in
      let again : Same bare_list next (typed_by read not_written sort false (ws ++ word_at w s ∷ []) ts) = ap (option_map bare_list) moved ∙ typed_same ts false (ws ++ word_at w s ∷ []) in
      let typed_on : Same bare_list (if is_empty (map bare_word ws) then None else typed_by read not_written sort true (map bare_word ws) (bare_trees ts)) (if is_empty ws then None else typed_by read not_written sort true ws ts) =
      ap (λ k. option_map bare_list (if k then None else typed_by read not_written sort true (map bare_word ws) (bare_trees ts))) (empty_same ws)
      ∙ if_empty (is_empty ws) (typed_by read not_written sort true (map bare_word ws) (bare_trees ts)) (typed_by read not_written sort true ws ts) (typed_same ts true ws) in
      same_if bare_list (is w (codes "-"))
      (if is_empty (map bare_word ws) then None else typed_by read not_written sort true (map bare_word ws) (bare_trees ts)) (if is_empty ws then None else typed_by read not_written sort true ws ts)
      (if is_sort sort w then next else None) (if is_sort sort w then typed_by read not_written sort false (ws ++ word_at w s ∷ []) ts else None)
      typed_on
      (same_if bare_list (is_sort sort w) next (typed_by read not_written sort false (ws ++ word_at w s ∷ []) ts) None None again refl)

type_name_same : (t : Tree) → Same bare_type_name (type_name_of (bare_tree t)) (type_name_of t)
type_name_same t = same_map of_type of_type bare_word bare_type_name (λ x y e. ap of_type e) (sorted_word_of sorts.Name (bare_tree t)) (sorted_word_of sorts.Name t) (sorted_same sorts.Name t)

pub typed_list_same : (ts : Trees) → Same (map bare_typed) (typed_list_of (bare_trees ts)) (typed_list_of ts)
typed_list_same ts = typed_same type_name_of bare_type_name no_type sorts.Name type_name_same ts false []

types_alike : (ns ms : List WordAt) → map bare_word ns ≡ map bare_word ms → bare_type ns ≡ bare_type ms
types_alike [] [] e = refl
types_alike [] (m ∷ ms) e = absurd cc
types_alike (n ∷ ns) [] e = absurd cc
types_alike (n ∷ ns) (m ∷ ms) e = e

named_same : (o r : Option (List WordAt)) → Same (map bare_word) o r → Same bare_type o r
named_same None None e = refl
named_same None (Some ms) e = absurd cc
named_same (Some ns) None e = absurd cc
named_same (Some ns) (Some ms) e = let same : map bare_word ns ≡ map bare_word ms = cc in ap Some (types_alike ns ms same)

some_names_same : (ts : Trees) → Same bare_type (some_names (bare_trees ts)) (some_names ts)
some_names_same none = refl
some_names_same (more t ts) =
    named_same (every (sorted_word_of sorts.Name) (bare_trees (more t ts))) (every (sorted_word_of sorts.Name) (more t ts)) (every_same (sorted_word_of sorts.Name) bare_word (sorted_same sorts.Name) (more t ts))

either_names_same : (ts : Trees) → Same bare_type (either_among (bare_trees ts)) (either_among ts)
either_names_same none = refl
either_names_same (more t ts) =
    ap (λ k. option_map bare_type (if k then some_names (bare_trees ts) else None)) (word_is_same (codes "either") t)
    ∙ same_if bare_type (is_the_word (codes "either") t) (some_names (bare_trees ts)) (some_names ts) None None (some_names_same ts) refl

type_same : (t : Tree) → Same bare_type (type_of (bare_tree t)) (type_of t)
type_same (word w s) =
    same_map single single bare_word bare_type (λ x y e. ap single e) (sorted_word_of sorts.Name (word w nowhere)) (sorted_word_of sorts.Name (word w s)) (sorted_same sorts.Name (word w s))
type_same (list ts s) = either_names_same ts

pub typed_variables_same : (ts : Trees) → Same (map bare_variable) (typed_variables_of (bare_trees ts)) (typed_variables_of ts)
typed_variables_same ts = typed_same type_of bare_type [] sorts.Variable type_same ts false []

-- shapes of lists
only_same : (ts : Trees) → only (bare_trees ts) ≡ option_map bare_tree (only ts)
only_same none = refl
only_same (more t none) = refl
only_same (more t (more u ts)) = refl

pub only_bare : (ts : Trees) → only (bare_trees ts) ≡ option_map bare_tree (only ts)
only_bare = only_same

abbrev bare_two : Tree × Tree → Tree × Tree
bare_two (t, u) = (bare_tree t, bare_tree u)

two_same : (ts : Trees) → two (bare_trees ts) ≡ option_map bare_two (two ts)
two_same none = refl
two_same (more t none) = refl
two_same (more t (more u none)) = refl
two_same (more t (more u (more x ts))) = refl

behind_and_same : (h : Head) (ts : Trees) → behind_and h (bare_trees ts) ≡ option_map bare_trees (behind_and h ts)
behind_and_same heads.And ts = refl
behind_and_same heads.Symbol ts = refl
behind_and_same heads.Or ts = refl
behind_and_same heads.Not ts = refl
behind_and_same heads.Imply ts = refl
behind_and_same heads.Forall ts = refl
behind_and_same heads.Exists ts = refl
behind_and_same heads.When ts = refl
behind_and_same heads.Equal ts = refl
behind_and_same heads.Other ts = refl

pub conjuncts_same : (t : Tree) → conjuncts (bare_tree t) ≡ option_map bare_trees (conjuncts t)
conjuncts_same (word w s) = refl
conjuncts_same (list none s) = refl
conjuncts_same (list (more (word w p) ts) s) = behind_and_same (head_of w) ts
conjuncts_same (list (more (list us p) ts) s) = refl

behind_not_same : (h : Head) (ts : Trees) → behind_not h (bare_trees ts) ≡ option_map bare_tree (behind_not h ts)
behind_not_same heads.Not ts = only_same ts
behind_not_same heads.And ts = refl
behind_not_same heads.Symbol ts = refl
behind_not_same heads.Or ts = refl
behind_not_same heads.Imply ts = refl
behind_not_same heads.Forall ts = refl
behind_not_same heads.Exists ts = refl
behind_not_same heads.When ts = refl
behind_not_same heads.Equal ts = refl
behind_not_same heads.Other ts = refl

negated_same : (t : Tree) → negated (bare_tree t) ≡ option_map bare_tree (negated t)
negated_same (word w s) = refl
negated_same (list none s) = refl
negated_same (list (more (word w p) ts) s) = behind_not_same (head_of w) ts
negated_same (list (more (list us p) ts) s) = refl

module _ {A : Type 0} (read : Tree → Option A) (a : A → A) (h : (t : Tree) → Same a (read (bare_tree t)) (read t)) where
  listed_by_same : (o : Option Trees) (t : Tree) → Same (map a) (listed_by read (option_map bare_trees o) (bare_tree t)) (listed_by read o t)
  listed_by_same (Some ts) t = every_same read a h ts
  listed_by_same None t = same_map single single a (map a) (λ x y e. ap single e) (read (bare_tree t)) (read t) (h t)

  pub listed_same : (t : Tree) → Same (map a) (listed read (bare_tree t)) (listed read t)
  listed_same t = ap (λ o. option_map (map a) (listed_by read o (bare_tree t))) (conjuncts_same t) ∙ listed_by_same (conjuncts t) t

-- what members spell
abbrev pub EachSame : {A : Type 0} → (A → A) → List (Option A) → List (Option A) → Type 0
EachSame a [] [] = Unit {0}
EachSame a [] (q ∷ qs) = ⊥
EachSame a (p ∷ ps) [] = ⊥
EachSame a (p ∷ ps) (q ∷ qs) = Same a p q × EachSame a ps qs

module _ {A : Type 0} (a : A → A) where
  pub all_same : (ps qs : List (Option A)) → EachSame a ps qs → Same (map a) (all_some ps) (all_some qs)
  all_same [] [] h = refl
  all_same [] (q ∷ qs) h = absurd h
  all_same (p ∷ ps) [] h = absurd h
  all_same (p ∷ ps) (q ∷ qs) h = same_both ◌∷◌ ◌∷◌ a (map a) (map a) (more_same a) p q (all_some ps) (all_some qs) h.0 (all_same ps qs h.1)

-- formulas
bare_all : (fs : List Formula) → bare_formulas (formulas_of fs) ≡ formulas_of (map bare_formula fs)
bare_all [] = refl
bare_all (f ∷ fs) = rw (bare_all fs) refl

and_alike : (fs gs : List Formula) → map bare_formula fs ≡ map bare_formula gs → bare_formula (and_all fs) ≡ bare_formula (and_all gs)
and_alike fs gs e = ap and (bare_all fs ∙ ap formulas_of e ∙ sym (bare_all gs))

or_alike : (fs gs : List Formula) → map bare_formula fs ≡ map bare_formula gs → bare_formula (or_all fs) ≡ bare_formula (or_all gs)
or_alike fs gs e = ap or (bare_all fs ∙ ap formulas_of e ∙ sym (bare_all gs))

few_same : (vs us : List Variable) → map bare_variable vs ≡ map bare_variable us → Same (map bare_variable) (few vs) (few us)
few_same vs us e =
    let lengths : length vs ≡ length us = sym (length-map vs bare_variable) ∙ ap length e ∙ length-map us bare_variable in
    ap (λ n. option_map (map bare_variable) (if nat_le n 16 then Some vs else None)) lengths
    ∙ same_if (map bare_variable) (nat_le (length us) 16) (Some vs) (Some us) None None (ap Some e) refl

pub variables_same : (t : Tree) → Same (map bare_variable) (variables_of (bare_tree t)) (variables_of t)
variables_same (word w s) = refl
variables_same (list ts s) = same_then few few (map bare_variable) (map bare_variable) few_same (typed_variables_of (bare_trees ts)) (typed_variables_of ts) (typed_variables_same ts)

module _ {A : Type 0} (a : A → A) where
  abbrev pub bare_pair_of : List Variable × A → List Variable × A
  bare_pair_of p = (map bare_variable p.0, a p.1)

  tuple_alike : (vs us : List Variable) (f g : A) → map bare_variable vs ≡ map bare_variable us → a f ≡ a g → bare_pair_of (tuple vs f) ≡ bare_pair_of (tuple us g)
  tuple_alike vs us f g e h = ap (λ x. tuple x (a f)) e ∙ ap (tuple (map bare_variable us)) h

  pub quantified_same : (ts : Trees) (ps qs : List (Option A)) → EachSame a ps qs → Same bare_pair_of (quantified (bare_trees ts) ps) (quantified ts qs)
  quantified_same none ps qs h = refl
  quantified_same (more t ts) [] [] h = refl
  quantified_same (more t ts) [] (q ∷ qs) h = absurd h
  quantified_same (more t ts) (p ∷ ps) [] h = absurd h
  quantified_same (more t ts) (p ∷ []) (q ∷ []) h = refl
  quantified_same (more t ts) (p ∷ []) (q ∷ s ∷ qs) h = absurd h.1
  quantified_same (more t ts) (p ∷ r ∷ ps) (q ∷ []) h = absurd h.1
  quantified_same (more t ts) (p ∷ r ∷ []) (q ∷ s ∷ []) h =
      same_both tuple tuple (map bare_variable) a bare_pair_of tuple_alike (variables_of (bare_tree t)) (variables_of t) r s (variables_same t) h.1.0
  quantified_same (more t ts) (p ∷ r ∷ []) (q ∷ s ∷ y ∷ qs) h = absurd h.1.1
  quantified_same (more t ts) (p ∷ r ∷ x ∷ ps) (q ∷ s ∷ []) h = absurd h.1.1
  quantified_same (more t ts) (p ∷ r ∷ x ∷ ps) (q ∷ s ∷ y ∷ qs) h = refl

negation_same : (ps qs : List (Option Formula)) → EachSame bare_formula ps qs → Same bare_formula (negation ps) (negation qs)
negation_same [] [] h = refl
negation_same [] (q ∷ qs) h = absurd h
negation_same (p ∷ ps) [] h = absurd h
negation_same (p ∷ []) (q ∷ []) h = same_map v.not v.not bare_formula bare_formula (λ f g e. ap v.not e) p q h.0
negation_same (p ∷ []) (q ∷ s ∷ qs) h = absurd h.1
negation_same (p ∷ r ∷ ps) (q ∷ []) h = absurd h.1
negation_same (p ∷ r ∷ ps) (q ∷ s ∷ qs) h = refl

implication_same : (ps qs : List (Option Formula)) → EachSame bare_formula ps qs → Same bare_formula (implication ps) (implication qs)
implication_same [] [] h = refl
implication_same [] (q ∷ qs) h = absurd h
implication_same (p ∷ ps) [] h = absurd h
implication_same (p ∷ []) (q ∷ []) h = refl
implication_same (p ∷ []) (q ∷ s ∷ qs) h = absurd h.1
implication_same (p ∷ r ∷ ps) (q ∷ []) h = absurd h.1
implication_same (p ∷ r ∷ []) (q ∷ s ∷ []) h =
    same_both imply imply bare_formula bare_formula bare_formula (λ f g k l e m. ap (λ x. imply x (bare_formula k)) e ∙ ap (imply (bare_formula g)) m) p q r s h.0 h.1.0
implication_same (p ∷ r ∷ []) (q ∷ s ∷ y ∷ qs) h = absurd h.1.1
implication_same (p ∷ r ∷ x ∷ ps) (q ∷ s ∷ []) h = absurd h.1.1
implication_same (p ∷ r ∷ x ∷ ps) (q ∷ s ∷ y ∷ qs) h = refl

equality_same : (ts : Trees) → Same bare_formula (equality (bare_trees ts)) (equality ts)
equality_same none = refl
equality_same (more s none) = refl
equality_same (more s (more t none)) =
    same_both equal equal bare_term bare_term bare_formula (λ x y z w e f. ap (λ u. equal u (bare_term z)) e ∙ ap (equal (bare_term y)) f)
    (term_of (bare_tree s)) (term_of s) (term_of (bare_tree t)) (term_of t) (term_same s) (term_same t)
equality_same (more s (more t (more u ts))) = refl

by_same : (h : Head) (w : List ℕ) (s : Span) (ts : Trees) (ps qs : List (Option Formula)) → EachSame bare_formula ps qs → Same bare_formula (formula_by h (word_at w nowhere) (bare_trees ts) ps) (formula_by h (word_at w s) ts qs)
by_same heads.And w s ts ps qs h = same_map and_all and_all (map bare_formula) bare_formula and_alike (all_some ps) (all_some qs) (all_same bare_formula ps qs h)
by_same heads.Or w s ts ps qs h = same_map or_all or_all (map bare_formula) bare_formula or_alike (all_some ps) (all_some qs) (all_same bare_formula ps qs h)
by_same heads.Not w s ts ps qs h = negation_same ps qs h
by_same heads.Imply w s ts ps qs h = implication_same ps qs h
by_same heads.Forall w s ts ps qs h =
    same_map (λ p. forall p.0 p.1) (λ p. forall p.0 p.1) (bare_pair_of bare_formula) bare_formula (λ x y e. ap (λ p. forall p.0 p.1) e) (quantified (bare_trees ts) ps) (quantified ts qs) (quantified_same bare_formula ts ps qs h)
by_same heads.Exists w s ts ps qs h =
    same_map (λ p. exists p.0 p.1) (λ p. exists p.0 p.1) (bare_pair_of bare_formula) bare_formula (λ x y e. ap (λ p. exists p.0 p.1) e) (quantified (bare_trees ts) ps) (quantified ts qs) (quantified_same bare_formula ts ps qs h)
by_same heads.Equal w s ts ps qs h = equality_same ts
by_same heads.Symbol w s ts ps qs h =
    same_map (λ xs. holds (atom_with (word_at w nowhere) xs)) (λ xs. holds (atom_with (word_at w s) xs)) (map bare_term) bare_formula (λ x y e. ap (λ xs. holds (atom_with (word_at w nowhere) xs)) e)
    (every term_of (bare_trees ts)) (every term_of ts) (terms_same ts)
by_same heads.When w s ts ps qs h = refl
by_same heads.Other w s ts ps qs h = refl

mutual
  formula_read : (t : Tree) → Same bare_formula (formula_of (bare_tree t)) (formula_of t)
  formula_read (word w s) = refl
  formula_read (list ts s) = among_read ts

  among_read : (ts : Trees) → Same bare_formula (formula_among (bare_trees ts)) (formula_among ts)
  among_read none = refl
  among_read (more (word w s) ts) = by_same (head_of w) w s ts (each_formula (bare_trees ts)) (each_formula ts) (each_read ts)
  among_read (more (list us s) ts) = refl

  each_read : (ts : Trees) → EachSame bare_formula (each_formula (bare_trees ts)) (each_formula ts)
  each_read none = tt
  each_read (more t ts) = (formula_read t, each_read ts)

pub formula_same : (t : Tree) → Same bare_formula (formula_of (bare_tree t)) (formula_of t)
formula_same t = formula_read t

-- literals
literal_alike : (b : Bool) (x y : Atom) → bare_atom x ≡ bare_atom y → bare_literal (literal b x) ≡ bare_literal (literal b y)
literal_alike b x y e = ap (literal b) e

literal_by_same : (o : Option Tree) (t : Tree) → Same bare_literal (literal_by (option_map bare_tree o) (bare_tree t)) (literal_by o t)
literal_by_same (Some u) t = same_map (literal false) (literal false) bare_atom bare_literal (literal_alike false) (atom_of (bare_tree u)) (atom_of u) (atom_same u)
literal_by_same None t = same_map (literal true) (literal true) bare_atom bare_literal (literal_alike true) (atom_of (bare_tree t)) (atom_of t) (atom_same t)

pub literal_same : (t : Tree) → Same bare_literal (literal_of (bare_tree t)) (literal_of t)
literal_same t = ap (λ o. option_map bare_literal (literal_by o (bare_tree t))) (negated_same t) ∙ literal_by_same (negated t) t

constant_same : (x : Term) → is_constant (bare_term x) ≡ is_constant x
constant_same (constant w) = refl
constant_same (variable w) = refl

constants_same : (xs : List Term) → are_constants (map bare_term xs) ≡ are_constants xs
constants_same [] = refl
constants_same (x ∷ xs) = rw (constant_same x, constants_same xs) refl

ground_same : (x y : Literal) → bare_literal x ≡ bare_literal y → Same bare_literal (if_ground x) (if_ground y)
ground_same x y e =
    let constants : are_constants x.atom.terms ≡ are_constants y.atom.terms = sym (constants_same x.atom.terms) ∙ ap (λ l. are_constants l.atom.terms) e ∙ constants_same y.atom.terms in
    ap (λ k. option_map bare_literal (if k then Some x else None)) constants ∙ same_if bare_literal (are_constants y.atom.terms) (Some x) (Some y) None None (ap Some e) refl

pub ground_literal_same : (t : Tree) → Same bare_literal (ground_literal_of (bare_tree t)) (ground_literal_of t)
ground_literal_same t = same_then if_ground if_ground bare_literal bare_literal ground_same (literal_of (bare_tree t)) (literal_of t) (literal_same t)

-- fields
if_field : (k : Bool) (e : Tree) (o r : Option Tree) → o ≡ option_map bare_tree r → (if k then Some (bare_tree e) else o) ≡ option_map bare_tree (if k then Some e else r)
if_field true e o r h = refl
if_field false e o r h = h

some_same : (o : Option Tree) → is_some (option_map bare_tree o) ≡ is_some o
some_same None = refl
some_same (Some t) = refl

pub field_same : (s : Slot) (ts : Trees) → field s (bare_trees ts) ≡ option_map bare_tree (field s ts)
field_same s none = refl
field_same s (more (list us p) ts) = refl
field_same s (more (word k p) none) = refl
field_same s (more (word k p) (more e ts)) = if_field (same_slot (slot_of k) s) e (field s (bare_trees ts)) (field s ts) (field_same s ts)

pub field_list_same : (slots : List Slot) (ts : Trees) → is_field_list slots (bare_trees ts) ≡ is_field_list slots ts
field_list_same slots none = refl
field_list_same slots (more (list us p) ts) = refl
field_list_same slots (more (word k p) none) = refl
field_list_same slots (more (word k p) (more e ts)) =
    ap (λ o. is_in slots (slot_of k) && not (is_some o) && is_field_list slots (bare_trees ts)) (field_same (slot_of k) ts)
    ∙ ap (λ b. is_in slots (slot_of k) && not b && is_field_list slots (bare_trees ts)) (some_same (field (slot_of k) ts))
    ∙ ap (λ b. is_in slots (slot_of k) && not (is_some (field (slot_of k) ts)) && b) (field_list_same slots ts)

-- networks
labelled_by_same : (o : Option (Tree × Tree)) → with_list (option_map bare_two o) ≡ option_map bare_two (with_list o)
labelled_by_same None = refl
labelled_by_same (Some (l, word w s)) = refl
labelled_by_same (Some (l, list ts s)) = refl

labelled_same : (t : Tree) → labelled (bare_tree t) ≡ option_map bare_two (labelled t)
labelled_same (word w s) = refl
labelled_same (list ts s) = ap with_list (two_same ts) ∙ labelled_by_same (two ts)

with_label_alike : (l m : WordAt) (a b : Atom) → bare_word l ≡ bare_word m → bare_atom a ≡ bare_atom b → bare_subtask (with_label l a) ≡ bare_subtask (with_label m b)
with_label_alike l m a b e f = ap (λ x. with_label x (bare_atom a)) e ∙ ap (with_label (bare_word m)) f

subtask_by_same : (o : Option (Tree × Tree)) (t : Tree) → Same bare_subtask (subtask_by (option_map bare_two o) (bare_tree t)) (subtask_by o t)
subtask_by_same (Some (l, u)) t =
    same_both with_label with_label bare_word bare_atom bare_subtask with_label_alike (symbol_of (bare_tree l)) (symbol_of l) (atom_of (bare_tree u)) (atom_of u) (symbol_same l) (atom_same u)
subtask_by_same None t = same_map (subtask None) (subtask None) bare_atom bare_subtask (λ x y e. ap (subtask None) e) (atom_of (bare_tree t)) (atom_of t) (atom_same t)

subtask_same : (t : Tree) → Same bare_subtask (subtask_of (bare_tree t)) (subtask_of t)
subtask_same t = ap (λ o. option_map bare_subtask (subtask_by o (bare_tree t))) (labelled_same t) ∙ subtask_by_same (labelled t) t

pair_alike : (l m x y : WordAt) → bare_word l ≡ bare_word m → bare_word x ≡ bare_word y → bare_pair (pair l x) ≡ bare_pair (pair m y)
pair_alike l m x y e f = ap (λ z. pair z (bare_word x)) e ∙ ap (pair (bare_word m)) f

either_same : (b c : Bool) (x y z : Tree) → (if b then Some (bare_two (y, z)) else if c then Some (bare_two (x, z)) else None) ≡ option_map bare_two (if b then Some (y, z) else if c then Some (x, z) else None)
either_same true c x y z = refl
either_same false true x y z = refl
either_same false false x y z = refl

sides_by_same : (x : Tree) (o : Option (Tree × Tree)) → sides_by (bare_tree x) (option_map bare_two o) ≡ option_map bare_two (sides_by x o)
sides_by_same x None = refl
sides_by_same x (Some (y, z)) =
    ap (λ k. if k then Some (bare_two (y, z)) else if is_the_word (codes "<") (bare_tree y) then Some (bare_two (x, z)) else None) (word_is_same (codes "<") x)
    ∙ ap (λ k. if is_the_word (codes "<") x then Some (bare_two (y, z)) else if k then Some (bare_two (x, z)) else None) (word_is_same (codes "<") y)
    ∙ either_same (is_the_word (codes "<") x) (is_the_word (codes "<") y) x y z

sides_same : (t : Tree) → sides (bare_tree t) ≡ option_map bare_two (sides t)
sides_same (word w s) = refl
sides_same (list none s) = refl
sides_same (list (more x ts) s) = ap (sides_by (bare_tree x)) (two_same ts) ∙ sides_by_same x (two ts)

pair_by_same : (o : Option (Tree × Tree)) → Same bare_pair (pair_by (option_map bare_two o)) (pair_by o)
pair_by_same None = refl
pair_by_same (Some (x, y)) =
    same_both pair pair bare_word bare_word bare_pair pair_alike (symbol_of (bare_tree x)) (symbol_of x) (symbol_of (bare_tree y)) (symbol_of y) (symbol_same x) (symbol_same y)

pair_same : (t : Tree) → Same bare_pair (pair_of (bare_tree t)) (pair_of t)
pair_same t = ap (λ o. option_map bare_pair (pair_by o)) (sides_same t) ∙ pair_by_same (sides t)

abbrev bare_terms : Term × Term → Term × Term
bare_terms p = (bare_term p.0, bare_term p.1)

equation_by_same : (x : Tree) (o : Option (Tree × Tree)) → Same bare_terms (equation_by (bare_tree x) (option_map bare_two o)) (equation_by x o)
equation_by_same x None = refl
equation_by_same x (Some (y, z)) =
    ap (λ k. option_map bare_terms (if k then both tuple (term_of (bare_tree y)) (term_of (bare_tree z)) else None)) (word_is_same (codes "=") x)
    ∙ same_if bare_terms (is_the_word (codes "=") x) (both tuple (term_of (bare_tree y)) (term_of (bare_tree z))) (both tuple (term_of y) (term_of z)) None None
    (same_both tuple tuple bare_term bare_term bare_terms (λ a b c d e f. ap (λ u. tuple u (bare_term c)) e ∙ ap (tuple (bare_term b)) f)
    (term_of (bare_tree y)) (term_of y) (term_of (bare_tree z)) (term_of z) (term_same y) (term_same z)) refl

equation_same : (t : Tree) → Same bare_terms (equation_of (bare_tree t)) (equation_of t)
equation_same (word w s) = refl
equation_same (list none s) = refl
equation_same (list (more x ts) s) = ap (λ o. option_map bare_terms (equation_by (bare_tree x) o)) (two_same ts) ∙ equation_by_same x (two ts)

constraint_alike : (b : Bool) (x y : Term × Term) → bare_terms x ≡ bare_terms y → bare_constraint (constraint b x) ≡ bare_constraint (constraint b y)
constraint_alike b (x, z) (y, w) e = ap (constraint b) e

constraint_by_same : (o : Option Tree) (t : Tree) → Same bare_constraint (constraint_by (option_map bare_tree o) (bare_tree t)) (constraint_by o t)
constraint_by_same (Some u) t = same_map (constraint false) (constraint false) bare_terms bare_constraint (constraint_alike false) (equation_of (bare_tree u)) (equation_of u) (equation_same u)
constraint_by_same None t = same_map (constraint true) (constraint true) bare_terms bare_constraint (constraint_alike true) (equation_of (bare_tree t)) (equation_of t) (equation_same t)

constraint_same : (t : Tree) → Same bare_constraint (constraint_of (bare_tree t)) (constraint_of t)
constraint_same t = ap (λ o. option_map bare_constraint (constraint_by o (bare_tree t))) (negated_same t) ∙ constraint_by_same (negated t) t

listed_at_same : {A : Type 0} (read : Tree → Option A) (a : A → A) → ((t : Tree) → Same a (read (bare_tree t)) (read t)) → (o : Option Tree) → Same (map a) (listed_at read (option_map bare_tree o)) (listed_at read o)
listed_at_same read a h None = refl
listed_at_same read a h (Some t) = listed_same read a h t

abbrev bare_form : Bool × List Subtask → Bool × List Subtask
bare_form p = (p.0, map bare_subtask p.1)

form_same : (o r : Option Tree) → Same bare_form (subtasks_by (option_map bare_tree o) (option_map bare_tree r)) (subtasks_by o r)
form_same None None = refl
form_same (Some e) None =
    same_map (tuple false) (tuple false) (map bare_subtask) bare_form (λ x y k. ap (tuple false) k) (listed subtask_of (bare_tree e)) (listed subtask_of e) (listed_same subtask_of bare_subtask subtask_same e)
form_same None (Some e) =
    same_map (tuple true) (tuple true) (map bare_subtask) bare_form (λ x y k. ap (tuple true) k) (listed subtask_of (bare_tree e)) (listed subtask_of e) (listed_same subtask_of bare_subtask subtask_same e)
form_same (Some e) (Some f) = refl

abbrev bare_lists : List Pair × List Constraint → List Pair × List Constraint
bare_lists p = (map bare_pair p.0, map bare_constraint p.1)

network_alike : (p q : List Pair × List Constraint) (x y : Bool × List Subtask) → bare_lists p ≡ bare_lists q → bare_form x ≡ bare_form y → bare_network (network_with p x) ≡ bare_network (network_with q y)
network_alike (p, c) (q, d) (b, x) (k, y) e f = ap (λ z. network_with z (bare_form (b, x))) e ∙ ap (network_with (bare_lists (q, d))) f

pub network_same : (ts : Trees) → Same bare_network (network_of (bare_trees ts)) (network_of ts)
network_same ts =
    let o : Option Tree = field slots.Ordering ts in
    let c : Option Tree = field slots.Constraints ts in
    let u : Option Tree = field slots.Subtasks ts in
    let d : Option Tree = field slots.OrderedSubtasks ts in
    ap (λ x. option_map bare_network (both network_with (both tuple (listed_at pair_of x) (listed_at constraint_of (field slots.Constraints (bare_trees ts)))) (subtasks_by (field slots.Subtasks (bare_trees ts)) (field slots.OrderedSubtasks (bare_trees ts))))) (field_same slots.Ordering ts)
    ∙ ap (λ x. option_map bare_network (both network_with (both tuple (listed_at pair_of (option_map bare_tree o)) (listed_at constraint_of x)) (subtasks_by (field slots.Subtasks (bare_trees ts)) (field slots.OrderedSubtasks (bare_trees ts))))) (field_same slots.Constraints ts)
    ∙ ap (λ x. option_map bare_network (both network_with (both tuple (listed_at pair_of (option_map bare_tree o)) (listed_at constraint_of (option_map bare_tree c))) (subtasks_by x (field slots.OrderedSubtasks (bare_trees ts))))) (field_same slots.Subtasks ts)
    ∙ ap (λ x. option_map bare_network (both network_with (both tuple (listed_at pair_of (option_map bare_tree o)) (listed_at constraint_of (option_map bare_tree c))) (subtasks_by (option_map bare_tree u) x))) (field_same slots.OrderedSubtasks ts)
    ∙ same_both network_with network_with bare_lists bare_form bare_network network_alike
    (both tuple (listed_at pair_of (option_map bare_tree o)) (listed_at constraint_of (option_map bare_tree c))) (both tuple (listed_at pair_of o) (listed_at constraint_of c))
    (subtasks_by (option_map bare_tree u) (option_map bare_tree d)) (subtasks_by u d)
    (same_both tuple tuple (map bare_pair) (map bare_constraint) bare_lists (λ x y z w e f. ap (λ k. tuple k (map bare_constraint z)) e ∙ ap (tuple (map bare_pair y)) f)
    (listed_at pair_of (option_map bare_tree o)) (listed_at pair_of o) (listed_at constraint_of (option_map bare_tree c)) (listed_at constraint_of c)
    (listed_at_same pair_of bare_pair pair_same o) (listed_at_same constraint_of bare_constraint constraint_same c))
    (form_same u d)
