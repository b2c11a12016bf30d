-- The canonical expressions of words, terms, atoms and lists are read as what they are of, places aside.
use Rattle.std.proofs.Common.{◌≡◌, ◌==◌, ℕ, Bool, true, false, List, [], ◌∷◌, ◌++◌, map, Option, Some, None, option_map, refl, ap, codes, arith, if◌then◌else◌}
use Rattle.std.proofs.lemmas.Grind.{common_steps}
use Rattle.std.specs.Prelude.{IfSome}
use Rattle.hv_text.specs.Trees.{Tree, word, list, Trees, none, more}
use Rattle.hv_text.specs.declared.span.Span.{Span}
use Rattle.hv_reading.specs.declared.word.Sort.{Sort}
use Rattle.hv_reading.specs.declared.word.Sort.TheVariants as sorts
use Rattle.hv_reading.specs.declared.word.Head.{Head}
use Rattle.hv_reading.specs.declared.word.Head.TheVariants as heads
use Rattle.hv_syntax.specs.Values.{WordAt, word_at, Term, atom_with, no_type, of_type, TypedBy, Typed, Variable}
use Rattle.hv_reading.specs.Words.{is, sort_of, is_sort, same_sort, head_of}
use Rattle.hv_reading.specs.inside.Words.{symbol_by, symbol_of, sorted_word_of}
use Rattle.hv_reading.specs.inside.Reading.{both, every}
use Rattle.hv_reading.specs.inside.Terms.{term_by, term_of, atom_of}
use Rattle.hv_reading.specs.TypedLists.{with_type}
use Rattle.hv_reading.specs.inside.TypedLists.{is_empty, with_rest, typed_by, type_name_of, typed_list_of, some_names, type_of, typed_variables_of}
use Rattle.hv_reading.specs.Lists.{conjuncts}
use Rattle.hv_reading.specs.inside.Lists.{single, listed_by, listed}
use Rattle.hv_reading.specs.Canonical.{each, conjunction, word_expression, term_expression, atom_expression, type_name_expression, type_expression, members_by, typed_members, variable_members}
use Rattle.hv_reading.specs.Bare.{bare_word, bare_term, bare_atom, bare_by, bare_type_name, bare_typed, bare_type, bare_variable}

-- what holds of the parts holds of the whole
pub if_map : {A B : Type 0} (f : A → B) (P : A → Type 0) (Q : B → Type 0) → ((a : A) → P a → Q (f a)) → (o : Option A) → IfSome o P → IfSome (option_map f o) Q
if_map f P Q h None p = tt
if_map f P Q h (Some a) p = h a p

pub if_both : {A B C : Type 0} (f : A → B → C) (P : A → Type 0) (Q : B → Type 0) (R : C → Type 0) → ((a : A) (b : B) → P a → Q b → R (f a b))
    → (o : Option A) (r : Option B) → IfSome o P → IfSome r Q → IfSome (both f o r) R
if_both f P Q R h None r p q = tt
if_both f P Q R h (Some a) None p q = tt
if_both f P Q R h (Some a) (Some b) p q = h a b p q

pub if_some : {A : Type 0} (P Q : A → Type 0) → ((a : A) → P a → Q a) → (o : Option A) → IfSome o P → IfSome o Q
if_some P Q h None p = tt
if_some P Q h (Some a) p = h a p

-- the expression of x is read as x, places aside
abbrev pub IsReadAgain : {A : Type 0} → (Tree → Option A) → (A → Tree) → (A → A) → A → Type 0
IsReadAgain read write bare x = read (write x) ≡ Some (bare x)

abbrev pub AreReadAgain : {A : Type 0} → (Tree → Option A) → (A → Tree) → (A → A) → List A → Type 0
AreReadAgain read write bare xs = every read (each write xs) ≡ Some (map bare xs)

module _ {A : Type 0} (read : Tree → Option A) (write : A → Tree) (bare : A → A) where
  pub more_again : (x : A) (xs : List A) → IsReadAgain read write bare x → AreReadAgain read write bare xs → AreReadAgain read write bare (x ∷ xs)
  more_again x xs h k = rw (h, k) refl

  pub every_again : ((t : Tree) → IfSome (read t) (IsReadAgain read write bare)) → (ts : Trees) → IfSome (every read ts) (AreReadAgain read write bare)
  every_again h none = refl
  every_again h (more t ts) = if_both ◌∷◌ (IsReadAgain read write bare) (AreReadAgain read write bare) (AreReadAgain read write bare) more_again (read t) (every read ts) (h t) (every_again h ts)

  -- a list behind `and`, or `()`
  pub conjunction_again : (xs : List A) → AreReadAgain read write bare xs → listed read (conjunction (each write xs)) ≡ Some (map bare xs)
  conjunction_again [] h = refl
  conjunction_again (x ∷ xs) h = h

  listed_by_again : ((t : Tree) → IfSome (read t) (IsReadAgain read write bare)) → (o : Option Trees) (e : Tree) → IfSome (listed_by read o e) (AreReadAgain read write bare)
  listed_by_again h (Some ts) e = every_again h ts
  listed_by_again h None e = if_map single (IsReadAgain read write bare) (AreReadAgain read write bare) (λ x k. more_again x [] k refl) (read e) (h e)

  pub listed_again : ((t : Tree) → IfSome (read t) (IsReadAgain read write bare)) → (e : Tree)
      → IfSome (listed read e) (λ xs. listed read (conjunction (each write xs)) ≡ Some (map bare xs))
  listed_again h e =
      if_some (AreReadAgain read write bare) (λ xs. listed read (conjunction (each write xs)) ≡ Some (map bare xs)) conjunction_again (listed read e) (listed_by_again h (conjuncts e) e)

symbol_by_again : (h : Head) (w : List ℕ) (s : Span) → head_of w ≡ h → IfSome (symbol_by h (word_at w s)) (IsReadAgain symbol_of word_expression bare_word)
symbol_by_again heads.Symbol w s e = rw e refl
symbol_by_again heads.And w s e = tt
symbol_by_again heads.Or w s e = tt
symbol_by_again heads.Not w s e = tt
symbol_by_again heads.Imply w s e = tt
symbol_by_again heads.Forall w s e = tt
symbol_by_again heads.Exists w s e = tt
symbol_by_again heads.When w s e = tt
symbol_by_again heads.Equal w s e = tt
symbol_by_again heads.Other w s e = tt

pub symbol_again : (t : Tree) → IfSome (symbol_of t) (IsReadAgain symbol_of word_expression bare_word)
symbol_again (word w s) = symbol_by_again (head_of w) w s refl
symbol_again (list ts s) = tt

sorted_by_again : (sort : Sort) (w : List ℕ) (s : Span) (b : Bool) → is_sort sort w ≡ b → IfSome (if b then Some (word_at w s) else None) (IsReadAgain (sorted_word_of sort) word_expression bare_word)
sorted_by_again sort w s true e = rw e refl
sorted_by_again sort w s false e = tt

-- a word of some sort
pub sorted_again : (sort : Sort) (t : Tree) → IfSome (sorted_word_of sort t) (IsReadAgain (sorted_word_of sort) word_expression bare_word)
sorted_again sort (word w s) = sorted_by_again sort w s (is_sort sort w) refl
sorted_again sort (list ts s) = tt

term_by_again : (k : Sort) (w : List ℕ) (s : Span) → sort_of w ≡ k → IfSome (term_by k (word_at w s)) (IsReadAgain term_of term_expression bare_term)
term_by_again sorts.Name w s e = rw e refl
term_by_again sorts.Variable w s e = rw e refl
term_by_again sorts.Keyword w s e = tt
term_by_again sorts.Mark w s e = tt

pub term_again : (t : Tree) → IfSome (term_of t) (IsReadAgain term_of term_expression bare_term)
term_again (word w s) = term_by_again (sort_of w) w s refl
term_again (list ts s) = tt

pub terms_again : (ts : Trees) → IfSome (every term_of ts) (AreReadAgain term_of term_expression bare_term)
terms_again ts = every_again term_of term_expression bare_term term_again ts

atom_from : (w : WordAt) (xs : List Term) → IsReadAgain symbol_of word_expression bare_word w → AreReadAgain term_of term_expression bare_term xs → IsReadAgain atom_of atom_expression bare_atom (atom_with w xs)
atom_from w xs h k = rw (h, k) refl

pub atom_again : (t : Tree) → IfSome (atom_of t) (IsReadAgain atom_of atom_expression bare_atom)
atom_again (word w s) = tt
atom_again (list none s) = tt
atom_again (list (more t ts) s) =
    if_both atom_with (IsReadAgain symbol_of word_expression bare_word) (AreReadAgain term_of term_expression bare_term) (IsReadAgain atom_of atom_expression bare_atom) atom_from
    (symbol_of t) (every term_of ts) (symbol_again t) (terms_again ts)

not_the_dash : (sort : Sort) (d : Bool) (b : ℕ) → same_sort (sort_of (b ∷ [])) sort ≡ true → (b == 45) ≡ d → is (b ∷ []) (codes "-") ≡ false
not_the_dash sort true b h e = grind (arith, common_steps, h, e)
not_the_dash sort false b h e = grind (arith, common_steps, e)

-- no word of a sort is a dash
not_dash : (sort : Sort) (w : List ℕ) → same_sort (sort_of w) sort ≡ true → is w (codes "-") ≡ false
not_dash sort [] h = refl
not_dash sort (b ∷ []) h = not_the_dash sort (b == 45) b h refl
not_dash sort (b ∷ c ∷ bs) h = grind (arith, common_steps)

-- typed lists
abbrev Wait : Sort → List WordAt → Type 0
Wait sort [] = Unit {0}
Wait sort (w ∷ ws) = (is_sort sort w.text ≡ true) × Wait sort ws

wait_more : (sort : Sort) (ws : List WordAt) (w : WordAt) → Wait sort ws → is_sort sort w.text ≡ true → Wait sort (ws ++ w ∷ [])
wait_more sort [] w h e = (e, tt)
wait_more sort (v ∷ ws) w h e = (h.0, wait_more sort ws w h.1 e)

module _ {T : Type 0} (read : Tree → Option T) (write : T → Tree) (bare : T → T) (not_written : T) (sort : Sort) where
  -- the words are of their sort, and the types are read again
  abbrev AreTyped : List (TypedBy T) → Type 0
  AreTyped [] = Unit {0}
  AreTyped (v ∷ vs) = (is_sort sort v.name.text ≡ true) × IsReadAgain read write bare v.of × AreTyped vs

  with_type_good : (t : T) (ws : List WordAt) → IsReadAgain read write bare t → Wait sort ws → AreTyped (with_type t ws)
  with_type_good t [] e h = tt
  with_type_good t (w ∷ ws) e h = (h.0, e, with_type_good t ws e h.1)

  typed_append : (xs ys : List (TypedBy T)) → AreTyped xs → AreTyped ys → AreTyped (xs ++ ys)
  typed_append [] ys h k = k
  typed_append (x ∷ xs) ys h k = (h.0, h.1, typed_append xs ys h.2 k)

  at_name : (d m b : Bool) (r q : Option (List (TypedBy T))) → IfSome r AreTyped → (b ≡ true → IfSome q AreTyped)
      → IfSome (if d then (if m then None else r) else if b then q else None) AreTyped
  at_name true true b r q k l = tt
  at_name true false b r q k l = k
  at_name false m true r q k l = l refl
  at_name false m false r q k l = tt

  module _ (type_again : (t : Tree) → IfSome (read t) (IsReadAgain read write bare)) (not_written_again : IsReadAgain read write bare not_written) where
    typed_good : (ts : Trees) (b : Bool) (ws : List WordAt) → Wait sort ws → IfSome (typed_by read not_written sort b ws ts) AreTyped
    typed_good none false ws h = with_type_good not_written ws not_written_again h
    typed_good none true ws h = tt
    typed_good (more t ts) true ws h =
        if_both (with_rest ws) (IsReadAgain read write bare) AreTyped AreTyped (λ n xs k l. typed_append (with_type n ws) xs (with_type_good n ws k h) l)
        (read t) (typed_by read not_written sort false [] ts) (type_again t) (typed_good ts false [] tt)
    typed_good (more (list us p) ts) false ws h = tt
    typed_good (more (word w s) ts) false ws h =
        at_name (is w (codes "-")) (is_empty ws) (is_sort sort w) (typed_by read not_written sort true ws ts) (typed_by read not_written sort false (ws ++ word_at w s ∷ []) ts) (typed_good ts true ws h)
        (λ e. typed_good ts false (ws ++ word_at w s ∷ []) (wait_more sort ws (word_at w s) h e))

    members_again : (vs : List (TypedBy T)) → AreTyped vs → typed_by read not_written sort false [] (members_by write vs) ≡ Some (map (bare_by bare) vs)
    members_again [] h = refl
    members_again (v ∷ vs) h = rw (not_dash sort v.name.text h.0, h.0, h.1, members_again vs h.2) refl

    pub list_again : (ts : Trees) → IfSome (typed_by read not_written sort false [] ts) (λ vs. typed_by read not_written sort false [] (members_by write vs) ≡ Some (map (bare_by bare) vs))
    list_again ts =
        if_some AreTyped (λ vs. typed_by read not_written sort false [] (members_by write vs) ≡ Some (map (bare_by bare) vs)) members_again
        (typed_by read not_written sort false [] ts) (typed_good ts false [] tt)

-- the expression of a typed list of names is read as it, places aside
abbrev pub AreTypedAgain : List Typed → Type 0
AreTypedAgain vs = typed_list_of (typed_members vs) ≡ Some (map bare_typed vs)

type_name_again : (t : Tree) → IfSome (type_name_of t) (IsReadAgain type_name_of type_name_expression bare_type_name)
type_name_again t =
    if_map of_type (IsReadAgain (sorted_word_of sorts.Name) word_expression bare_word) (IsReadAgain type_name_of type_name_expression bare_type_name) (λ n h. ap (option_map of_type) h)
    (sorted_word_of sorts.Name t) (sorted_again sorts.Name t)

pub typed_list_again : (ts : Trees) → IfSome (typed_list_of ts) AreTypedAgain
typed_list_again = list_again type_name_of type_name_expression bare_type_name no_type sorts.Name type_name_again refl

-- the expression of a typed list of variables is read as it, places aside
abbrev pub AreVariablesAgain : List Variable → Type 0
AreVariablesAgain vs = typed_variables_of (variable_members vs) ≡ Some (map bare_variable vs)

abbrev IsTypeAgain : List WordAt → Type 0
IsTypeAgain ns = IsReadAgain type_of type_expression bare_type ns

abbrev AreNamesAgain : List WordAt → Type 0
AreNamesAgain ns = AreReadAgain (sorted_word_of sorts.Name) word_expression bare_word ns

alone : (o : Option WordAt) (ns : List WordAt) → both ◌∷◌ o (Some []) ≡ Some ns → option_map single o ≡ Some ns
alone None ns h = h
alone (Some n) ns h = h

names_from : (ns : List WordAt) → AreNamesAgain ns → IsTypeAgain ns
names_from [] h = refl
names_from (n ∷ []) h = alone (sorted_word_of sorts.Name (word_expression n)) (bare_word n ∷ []) h
names_from (n ∷ m ∷ ns) h = h

either_again : (b : Bool) (ts : Trees) → IfSome (if b then some_names ts else None) IsTypeAgain
either_again true none = tt
either_again true (more t ts) =
    if_some AreNamesAgain IsTypeAgain names_from (every (sorted_word_of sorts.Name) (more t ts)) (every_again (sorted_word_of sorts.Name) word_expression bare_word (sorted_again sorts.Name) (more t ts))
either_again false ts = tt

type_again : (t : Tree) → IfSome (type_of t) IsTypeAgain
type_again (word w s) =
    if_map single (IsReadAgain (sorted_word_of sorts.Name) word_expression bare_word) IsTypeAgain (λ n h. ap (option_map single) h) (sorted_word_of sorts.Name (word w s)) (sorted_again sorts.Name (word w s))
type_again (list none s) = tt
type_again (list (more (word w p) ts) s) = either_again (is w (codes "either")) ts
type_again (list (more (list us p) ts) s) = tt

pub typed_variables_again : (ts : Trees) → IfSome (typed_variables_of ts) AreVariablesAgain
typed_variables_again = list_again type_of type_expression bare_type [] sorts.Variable type_again refl
