-- What the table spells is what is read.
use Rattle.std.proofs.Common.{◌≡◌, ◌<◌, arith, ℕ, nat_le, Bool, true, false, List, [], ◌∷◌, ◌++◌, length, Option, Some, None, ◌↔◌, option_map, refl, sym, ap, ◌∙◌, subst, codes, if◌then◌else◌}
use Rattle.std.specs.Prelude.{IfSome, option_and_then}
use Rattle.std.proofs.lemmas.Bool.{le-leb, leb-true}
use Rattle.std.proofs.lemmas.List.{append-nil, append_assoc}
use Rattle.std.proofs.lemmas.Slice.Eq.{bytes_eq-Decides}
use Rattle.hv_text.specs.Trees.{Tree, word, list, Trees, none, more}
use Rattle.hv_text.specs.declared.span.Span.{Span}
use Rattle.hv_reading.specs.declared.word.Sort.{Sort}
use Rattle.hv_reading.specs.declared.word.Sort.TheVariants as sorts
use Rattle.hv_reading.specs.declared.word.Head.{Head}
use Rattle.hv_reading.specs.declared.word.Head.TheVariants as heads
use Rattle.hv_reading.specs.Words.{is, sort_of, is_sort, head_of}
use Rattle.hv_reading.specs.inside.Words.{sorted_word_of, symbol_by, symbol_of}
use Rattle.hv_reading.specs.inside.Reading.{both, every, all_some, tuple}
use Rattle.hv_reading.specs.inside.Lists.{single}
use Rattle.hv_syntax.specs.Values.{WordAt, word_at, Term, Atom, atom_with, TypeOf, no_type, of_type, TypedBy, Typed, Variable, Formula, Formulas, holds, and, or, not, imply, forall, exists, equal, no_formulas, more_formulas, formulas_of}
use Rattle.hv_reading.specs.inside.Terms.{term_by, term_of, atom_of}
use Rattle.hv_reading.specs.TypedLists.{with_type}
use Rattle.hv_reading.specs.inside.TypedLists.{is_empty, with_rest, typed_by, type_name_of, typed_list_of, some_names, type_of, typed_variables_of}
use Rattle.hv_reading.specs.inside.Formulas.{few, variables_of, and_all, or_all, formula_by, formula_of, formula_among, each_formula}
use Rattle.hv_reading.specs.Spellings.{SpellsWord, a_word, SpellsSymbol, a_symbol, SpellsTerm, a_name, a_variable, SpellEach, no_more, one_more, SpellsAtom, an_atom, join, SpellsTypeName, a_type_name, SpellsType, one_type, either_type, SpellsTypedBy, without_type, a_group, SpellsTyped, SpellsTypedVariables, SpellsVariables, variables, SpellsFormula, nothing, a_fact, a_conjunction, a_disjunction, a_negation, an_implication, for_all, for_some, an_equality, SpellFormulas, no_members, more_members}

-- the same word
pub same_word : (w v : List ℕ) → is w v ≡ true → w ≡ v
same_word w v = (bytes_eq-Decides w v).0

-- values that may be there
pub if_map : {A B : Type 0} (f : A → B) (P : A → Type 0) (Q : B → Type 0) → ((a : A) → P a → Q (f a)) → (o : Option A) → IfSome o P → IfSome (option_map f o) Q
if_map f P Q h None p = tt
if_map f P Q h (Some a) p = h a p

pub if_both : {A B C : Type 0} (f : A → B → C) (P : A → Type 0) (Q : B → Type 0) (R : C → Type 0) → ((a : A) (b : B) → P a → Q b → R (f a b))
    → (o : Option A) (r : Option B) → IfSome o P → IfSome r Q → IfSome (both f o r) R
if_both f P Q R h None r p q = tt
if_both f P Q R h (Some a) None p q = tt
if_both f P Q R h (Some a) (Some b) p q = h a b p q

pub if_then : {A B : Type 0} (f : A → Option B) (P : A → Type 0) (Q : B → Type 0) → ((a : A) → P a → IfSome (f a) Q) → (o : Option A) → IfSome o P → IfSome (option_and_then f o) Q
if_then f P Q h None p = tt
if_then f P Q h (Some a) p = h a p

pub if_weaker : {A : Type 0} (P Q : A → Type 0) → ((a : A) → P a → Q a) → (o : Option A) → IfSome o P → IfSome o Q
if_weaker P Q h None p = tt
if_weaker P Q h (Some a) p = h a p

-- from a reading whose value is spelled, and from the spelled to the read, to both
pub agree : {A B : Type 0} (f : A → Option B) (Spells : A → B → Type 0) → ((t : A) (b : B) → Spells t b → f t ≡ Some b) → ((t : A) → IfSome (f t) (Spells t))
    → (t : A) (b : B) → Spells t b ↔ (f t ≡ Some b)
agree f Spells read spelled t b = (read t b, λ e. subst (λ o. IfSome o (Spells t)) e (spelled t))

-- words
pub word_read : (sort : Sort) (t : Tree) (w : WordAt) → SpellsWord sort t w → sorted_word_of sort t ≡ Some w
word_read sort _ _ (a_word w s e) = rw e refl

word_if : (sort : Sort) (w : List ℕ) (s : Span) (b : Bool) → is_sort sort w ≡ b → IfSome (if b then Some (word_at w s) else None) (SpellsWord sort (word w s))
word_if sort w s true e = a_word w s e
word_if sort w s false e = tt

pub word_spelled : (sort : Sort) (t : Tree) → IfSome (sorted_word_of sort t) (SpellsWord sort t)
word_spelled sort (word w s) = word_if sort w s (is_sort sort w) refl
word_spelled sort (list ts s) = tt

pub symbol_read : (t : Tree) (w : WordAt) → SpellsSymbol t w → symbol_of t ≡ Some w
symbol_read _ _ (a_symbol w s e) = rw e refl

symbol_if : (h : Head) (w : List ℕ) (s : Span) → head_of w ≡ h → IfSome (symbol_by h (word_at w s)) (SpellsSymbol (word w s))
symbol_if heads.Symbol w s e = a_symbol w s e
symbol_if _ w s e = tt

pub symbol_spelled : (t : Tree) → IfSome (symbol_of t) (SpellsSymbol t)
symbol_spelled (word w s) = symbol_if (head_of w) w s refl
symbol_spelled (list ts s) = tt

-- lists of parts
module _ {A : Type 0} (f : Tree → Option A) (Spells : Tree → A → Type 0) (read : (t : Tree) (a : A) → Spells t a → f t ≡ Some a) (spelled : (t : Tree) → IfSome (f t) (Spells t)) where
  pub each_read : (ts : Trees) (as' : List A) → SpellEach Spells ts as' → every f ts ≡ Some as'
  each_read _ _ no_more = refl
  each_read _ _ (one_more t ts a as' h k) = rw (read t a h, each_read ts as' k) refl

  pub each_spelled : (ts : Trees) → IfSome (every f ts) (SpellEach Spells ts)
  each_spelled none = no_more
  each_spelled (more t ts) =
      if_both ◌∷◌ (Spells t) (SpellEach Spells ts) (SpellEach Spells (more t ts)) (λ a as' p q. one_more t ts a as' p q) (f t) (every f ts) (spelled t) (each_spelled ts)

-- terms and atoms
pub term_read : (t : Tree) (x : Term) → SpellsTerm t x → term_of t ≡ Some x
term_read _ _ (a_name w s e) = rw e refl
term_read _ _ (a_variable w s e) = rw e refl

term_if : (k : Sort) (w : List ℕ) (s : Span) → sort_of w ≡ k → IfSome (term_by k (word_at w s)) (SpellsTerm (word w s))
term_if sorts.Name w s e = a_name w s e
term_if sorts.Variable w s e = a_variable w s e
term_if sorts.Keyword w s e = tt
term_if sorts.Mark w s e = tt

pub term_spelled : (t : Tree) → IfSome (term_of t) (SpellsTerm t)
term_spelled (word w s) = term_if (sort_of w) w s refl
term_spelled (list ts s) = tt

pub term_table : (t : Tree) (x : Term) → SpellsTerm t x ↔ (term_of t ≡ Some x)
term_table = agree term_of SpellsTerm term_read term_spelled

terms_read : (ts : Trees) (xs : List Term) → SpellEach SpellsTerm ts xs → every term_of ts ≡ Some xs
terms_read = each_read term_of SpellsTerm term_read term_spelled

terms_spelled : (ts : Trees) → IfSome (every term_of ts) (SpellEach SpellsTerm ts)
terms_spelled = each_spelled term_of SpellsTerm term_read term_spelled

pub atom_read : (t : Tree) (a : Atom) → SpellsAtom t a → atom_of t ≡ Some a
atom_read _ _ (an_atom w p s ts xs e h) = rw (e, terms_read ts xs h) refl

headed_atom : (t : Tree) (ts : Trees) (s : Span) (w : WordAt) (xs : List Term) → SpellsSymbol t w → SpellEach SpellsTerm ts xs → SpellsAtom (list (more t ts) s) (atom_with w xs)
headed_atom _ ts s _ xs (a_symbol w p e) h = an_atom w p s ts xs e h

pub atom_spelled : (t : Tree) → IfSome (atom_of t) (SpellsAtom t)
atom_spelled (word w s) = tt
atom_spelled (list none s) = tt
atom_spelled (list (more t ts) s) =
    if_both atom_with (SpellsSymbol t) (SpellEach SpellsTerm ts) (SpellsAtom (list (more t ts) s)) (λ w xs p q. headed_atom t ts s w xs p q)
    (symbol_of t) (every term_of ts) (symbol_spelled t) (terms_spelled ts)

pub atom_table : (t : Tree) (a : Atom) → SpellsAtom t a ↔ (atom_of t ≡ Some a)
atom_table = agree atom_of SpellsAtom atom_read atom_spelled

-- typed lists: a dash is no word of a sort
dash_sort : (sort : Sort) (w : List ℕ) → is w (codes "-") ≡ true → is_sort sort w ≡ false
dash_sort sort w e = rw (same_word w (codes "-") e) (no_mark sort)
  where
    no_mark : (sort : Sort) → is_sort sort (codes "-") ≡ false
    no_mark sorts.Name = refl
    no_mark sorts.Variable = refl
    no_mark sorts.Keyword = refl
    no_mark sorts.Mark = refl

no_dash : (sort : Sort) (w : List ℕ) (b : Bool) → is w (codes "-") ≡ b → is_sort sort w ≡ true → is w (codes "-") ≡ false
no_dash sort w false e h = e
no_dash sort w true e h = let clash : is_sort sort w ≡ false = dash_sort sort w e in cc

join-none : (ts : Trees) → join ts none ≡ ts
join-none none = refl
join-none (more t ts) = ap (more t) (join-none ts)

join_assoc : (ts us vs : Trees) → join (join ts us) vs ≡ join ts (join us vs)
join_assoc none us vs = refl
join_assoc (more t ts) us vs = ap (more t) (join_assoc ts us vs)

-- a word more behind those that wait
one_behind : (sort : Sort) (ts : Trees) (ws : List WordAt) (w : List ℕ) (s : Span) → SpellEach (SpellsWord sort) ts ws → is_sort sort w ≡ true
    → SpellEach (SpellsWord sort) (join ts (more (word w s) none)) (ws ++ word_at w s ∷ [])
one_behind sort _ _ w s no_more e = one_more (word w s) none (word_at w s) [] (a_word w s e) no_more
one_behind sort _ _ w s (one_more t ts v ws h k) e = one_more t (join ts (more (word w s) none)) v (ws ++ word_at w s ∷ []) h (one_behind sort ts ws w s k e)

module _ {T : Type 0} (read : Tree → Option T) (Spells : Tree → T → Type 0) (not_written : T) (sort : Sort)
    (type_read : (t : Tree) (n : T) → Spells t n → read t ≡ Some n) (type_spelled : (t : Tree) → IfSome (read t) (Spells t)) where
  abbrev Typings : Trees → List (TypedBy T) → Type 0
  Typings ts xs = SpellsTypedBy Spells not_written sort ts xs

  -- words wait
  waited : (v : List WordAt) (ts us : Trees) (ws : List WordAt) → SpellEach (SpellsWord sort) ts ws → typed_by read not_written sort false v (join ts us) ≡ typed_by read not_written sort false (v ++ ws) us
  waited v _ us _ no_more = ap (λ x. typed_by read not_written sort false x us) (sym (append-nil v))
  waited v _ us _ (one_more _ ts _ ws (a_word w s e) k) =
      let n : is w (codes "-") ≡ false = no_dash sort w (is w (codes "-")) refl e in
      rw (n, e) (waited (v ++ word_at w s ∷ []) ts us ws k ∙ ap (λ x. typed_by read not_written sort false x us) (append_assoc v (word_at w s ∷ []) ws))

  pub list_read : (ts : Trees) (xs : List (TypedBy T)) → SpellsTypedBy Spells not_written sort ts xs → typed_by read not_written sort false [] ts ≡ Some xs
  list_read _ _ (without_type ts ws h) =
      ap (typed_by read not_written sort false []) (sym (join-none ts)) ∙ waited [] ts none ws h
  list_read _ _ (a_group t ts w ws d p u n us xs h k e named rest) =
      let first : typed_by read not_written sort false [] (more t (join ts (more (word d p) (more u us)))) ≡ typed_by read not_written sort false (w ∷ ws) (more (word d p) (more u us)) =
      waited [] (more t ts) (more (word d p) (more u us)) (w ∷ ws) (one_more t ts w ws h k) in
      let second : typed_by read not_written sort false (w ∷ ws) (more (word d p) (more u us)) ≡ Some (with_type n (w ∷ ws) ++ xs) =
      rw (e, type_read u n named, list_read us xs rest) refl in
      first ∙ second

  group_of : (ts us : Trees) (ws : List WordAt) (d : List ℕ) (p : Span) (u : Tree) (n : T) (xs : List (TypedBy T)) → SpellEach (SpellsWord sort) ts ws → is_empty ws ≡ false
      → is d (codes "-") ≡ true → Spells u n → Typings us xs
      → Typings (join ts (more (word d p) (more u us))) (with_type n ws ++ xs)
  group_of _ us _ d p u n xs no_more some e named rest = let clash : true ≡ false = some in cc
  group_of _ us _ d p u n xs (one_more t ts w ws h k) some e named rest = a_group t ts w ws d p u n us xs h k e named rest

  -- a word, where the rest behind it is spelled
  word_next : (us : Trees) (ws : List WordAt) → SpellEach (SpellsWord sort) us ws → (w : List ℕ) (s : Span) (ts : Trees) (dash named alone : Bool)
      → is w (codes "-") ≡ dash → is_sort sort w ≡ named → is_empty ws ≡ alone
      → ((vs : Trees) (xs : List WordAt) → SpellEach (SpellsWord sort) vs xs → IfSome (typed_by read not_written sort false xs ts) (Typings (join vs ts)))
      → (is w (codes "-") ≡ true → is_empty ws ≡ false → IfSome (typed_by read not_written sort true ws ts) (Typings (join us (more (word w s) ts))))
      → IfSome (if dash then (if alone then None else typed_by read not_written sort true ws ts) else if named then typed_by read not_written sort false (ws ++ word_at w s ∷ []) ts else None)
      (Typings (join us (more (word w s) ts)))
  word_next us ws h w s ts true named true d n a rest after = tt
  word_next us ws h w s ts true named false d n a rest after = after d a
  word_next us ws h w s ts false true alone d n a rest after =
      subst (λ vs. IfSome (typed_by read not_written sort false (ws ++ word_at w s ∷ []) ts) (Typings vs)) (join_assoc us (more (word w s) none) ts)
      (rest (join us (more (word w s) none)) (ws ++ word_at w s ∷ []) (one_behind sort us ws w s h n))
  word_next us ws h w s ts false false alone d n a rest after = tt

  mutual
    typed_spelled : (ts us : Trees) (ws : List WordAt) → SpellEach (SpellsWord sort) us ws → IfSome (typed_by read not_written sort false ws ts) (Typings (join us ts))
    typed_spelled none us ws h = subst (λ vs. Typings vs (with_type not_written ws)) (sym (join-none us)) (without_type us ws h)
    typed_spelled (more (list vs s) ts) us ws h = tt
    typed_spelled (more (word w s) ts) us ws h =
        word_next us ws h w s ts (is w (codes "-")) (is_sort sort w) (is_empty ws) refl refl refl (λ vs xs k. typed_spelled ts vs xs k) (λ d a. type_next ts us ws h w s d a)

    -- the type behind a dash
    type_next : (ts us : Trees) (ws : List WordAt) → SpellEach (SpellsWord sort) us ws → (w : List ℕ) (s : Span) → is w (codes "-") ≡ true → is_empty ws ≡ false
        → IfSome (typed_by read not_written sort true ws ts) (Typings (join us (more (word w s) ts)))
    type_next none us ws h w s d a = tt
    type_next (more u ts) us ws h w s d a =
        if_both (with_rest ws) (Spells u) (Typings ts) (Typings (join us (more (word w s) (more u ts)))) (λ n xs k l. group_of us ts ws w s u n xs h a d k l)
        (read u) (typed_by read not_written sort false [] ts) (type_spelled u) (typed_spelled ts none [] no_more)

  pub list_spelled : (ts : Trees) → IfSome (typed_by read not_written sort false [] ts) (SpellsTypedBy Spells not_written sort ts)
  list_spelled ts = typed_spelled ts none [] no_more

-- typed lists of names
type_name_read : (t : Tree) (n : TypeOf) → SpellsTypeName t n → type_name_of t ≡ Some n
type_name_read _ _ (a_type_name t n h) = ap (option_map of_type) (word_read sorts.Name t n h)

type_name_spelled : (t : Tree) → IfSome (type_name_of t) (SpellsTypeName t)
type_name_spelled t = if_map of_type (SpellsWord sorts.Name t) (SpellsTypeName t) (λ n h. a_type_name t n h) (sorted_word_of sorts.Name t) (word_spelled sorts.Name t)

pub typed_list_read : (ts : Trees) (xs : List Typed) → SpellsTyped ts xs → typed_list_of ts ≡ Some xs
typed_list_read = list_read type_name_of SpellsTypeName no_type sorts.Name type_name_read type_name_spelled

pub typed_list_spelled : (ts : Trees) → IfSome (typed_list_of ts) (SpellsTyped ts)
typed_list_spelled = list_spelled type_name_of SpellsTypeName no_type sorts.Name type_name_read type_name_spelled

pub typed_table : (ts : Trees) (xs : List Typed) → SpellsTyped ts xs ↔ (typed_list_of ts ≡ Some xs)
typed_table = agree typed_list_of SpellsTyped typed_list_read typed_list_spelled

-- typed lists of variables
type_read : (t : Tree) (ns : List WordAt) → SpellsType t ns → type_of t ≡ Some ns
type_read _ _ (one_type _ _ (a_word w s e)) = rw e refl
type_read _ _ (either_type w p s t ts n ns e h k) =
    rw (e, word_read sorts.Name t n h, each_read (sorted_word_of sorts.Name) (SpellsWord sorts.Name) (word_read sorts.Name) (word_spelled sorts.Name) ts ns k) refl

either_if : (w : List ℕ) (p s : Span) (ts : Trees) (b : Bool) → is w (codes "either") ≡ b → IfSome (if b then some_names ts else None) (SpellsType (list (more (word w p) ts) s))
either_if w p s none true e = tt
either_if w p s (more t ts) true e =
    if_both ◌∷◌ (SpellsWord sorts.Name t) (SpellEach (SpellsWord sorts.Name) ts) (SpellsType (list (more (word w p) (more t ts)) s)) (λ n ns h k. either_type w p s t ts n ns e h k)
    (sorted_word_of sorts.Name t) (every (sorted_word_of sorts.Name) ts) (word_spelled sorts.Name t)
    (each_spelled (sorted_word_of sorts.Name) (SpellsWord sorts.Name) (word_read sorts.Name) (word_spelled sorts.Name) ts)
either_if w p s ts false e = tt

type_spelled : (t : Tree) → IfSome (type_of t) (SpellsType t)
type_spelled (word w s) =
    if_map single (SpellsWord sorts.Name (word w s)) (SpellsType (word w s)) (λ n h. one_type (word w s) n h) (sorted_word_of sorts.Name (word w s)) (word_spelled sorts.Name (word w s))
type_spelled (list none s) = tt
type_spelled (list (more (word w p) ts) s) = either_if w p s ts (is w (codes "either")) refl
type_spelled (list (more (list us p) ts) s) = tt

pub typed_variables_read : (ts : Trees) (xs : List Variable) → SpellsTypedVariables ts xs → typed_variables_of ts ≡ Some xs
typed_variables_read = list_read type_of SpellsType [] sorts.Variable type_read type_spelled

pub typed_variables_spelled : (ts : Trees) → IfSome (typed_variables_of ts) (SpellsTypedVariables ts)
typed_variables_spelled = list_spelled type_of SpellsType [] sorts.Variable type_read type_spelled

pub typed_variables_table : (ts : Trees) (xs : List Variable) → SpellsTypedVariables ts xs ↔ (typed_variables_of ts ≡ Some xs)
typed_variables_table = agree typed_variables_of SpellsTypedVariables typed_variables_read typed_variables_spelled

-- variables of a quantifier
pub variables_read : (t : Tree) (xs : List Variable) → SpellsVariables t xs → variables_of t ≡ Some xs
variables_read _ _ (variables ts s xs h few) = let l : nat_le (length xs) 16 ≡ true = le-leb _ _ few in rw (typed_variables_read ts xs h, l) refl

few_if : (ts : Trees) (s : Span) (xs : List Variable) (b : Bool) → nat_le (length xs) 16 ≡ b → SpellsTypedVariables ts xs → IfSome (if b then Some xs else None) (SpellsVariables (list ts s))
few_if ts s xs true l h = variables ts s xs h (leb-true _ _ l)
few_if ts s xs false l h = tt

pub variables_spelled : (t : Tree) → IfSome (variables_of t) (SpellsVariables t)
variables_spelled (word w s) = tt
variables_spelled (list ts s) =
    if_then few (SpellsTypedVariables ts) (SpellsVariables (list ts s)) (λ xs h. few_if ts s xs (nat_le (length xs) 16) refl h)
    (typed_variables_of ts) (typed_variables_spelled ts)

-- formulas: from the table to the reading
abbrev list_of : Formulas → List Formula
list_of no_formulas = []
list_of (more_formulas f fs) = f ∷ list_of fs

back : (fs : Formulas) → formulas_of (list_of fs) ≡ fs
back no_formulas = refl
back (more_formulas f fs) = ap (more_formulas f) (back fs)

fact_read : (t : Tree) (a : Atom) → SpellsAtom t a → formula_of t ≡ Some (holds a)
fact_read _ _ (an_atom w p s ts xs e h) = rw (e, terms_read ts xs h) refl

mutual
  formula_read : (t : Tree) (f : Formula) → SpellsFormula t f → formula_of t ≡ Some f
  formula_read _ _ (nothing s) = refl
  formula_read _ _ (a_fact t a h) = fact_read t a h
  formula_read _ _ (a_conjunction w p s ts fs e h) = rw (e, formulas_read ts fs h) (ap (λ x. Some (and x)) (back fs))
  formula_read _ _ (a_disjunction w p s ts fs e h) = rw (e, formulas_read ts fs h) (ap (λ x. Some (or x)) (back fs))
  formula_read _ _ (a_negation w p s t f e h) = rw (e, formula_read t f h) refl
  formula_read _ _ (an_implication w p s t u f g e h k) = rw (e, formula_read t f h, formula_read u g k) refl
  formula_read _ _ (for_all w p s t u xs f e h k) = rw (e, variables_read t xs h, formula_read u f k) refl
  formula_read _ _ (for_some w p s t u xs f e h k) = rw (e, variables_read t xs h, formula_read u f k) refl
  formula_read _ _ (an_equality w p s t u x y e h k) = rw (e, term_read t x h, term_read u y k) refl

  formulas_read : (ts : Trees) (fs : Formulas) → SpellFormulas ts fs → all_some (each_formula ts) ≡ Some (list_of fs)
  formulas_read _ _ no_members = refl
  formulas_read _ _ (more_members t ts f fs h k) = rw (formula_read t f h, formulas_read ts fs k) refl

-- formulas: from the reading to the table
abbrev EachSpelled : Trees → Type 0
EachSpelled none = Unit {0}
EachSpelled (more t ts) = IfSome (formula_of t) (SpellsFormula t) × EachSpelled ts

all_spelled : (ts : Trees) → EachSpelled ts → IfSome (all_some (each_formula ts)) (λ fs. SpellFormulas ts (formulas_of fs))
all_spelled none k = no_members
all_spelled (more t ts) k =
    if_both ◌∷◌ (SpellsFormula t) (λ fs. SpellFormulas ts (formulas_of fs)) (λ fs. SpellFormulas (more t ts) (formulas_of fs)) (λ f fs p q. more_members t ts f (formulas_of fs) p q)
    (formula_of t) (all_some (each_formula ts)) k.0 (all_spelled ts k.1)

abbrev IsQuantified : Tree → Tree → List Variable × Formula → Type 0
IsQuantified t u (xs, f) = SpellsVariables t xs × SpellsFormula u f

quantified_spelled : (t u : Tree) → IfSome (formula_of u) (SpellsFormula u) → IfSome (both tuple (variables_of t) (formula_of u)) (IsQuantified t u)
quantified_spelled t u k =
    if_both tuple (SpellsVariables t) (SpellsFormula u) (IsQuantified t u) (λ xs f p q. (p, q)) (variables_of t) (formula_of u) (variables_spelled t) k

spelled_by : (h : Head) (w : List ℕ) (p s : Span) → head_of w ≡ h → (ts : Trees) → EachSpelled ts
    → IfSome (formula_by h (word_at w p) ts (each_formula ts)) (SpellsFormula (list (more (word w p) ts) s))
spelled_by heads.And w p s e ts k =
    if_map and_all (λ fs. SpellFormulas ts (formulas_of fs)) (SpellsFormula (list (more (word w p) ts) s)) (λ fs h. a_conjunction w p s ts (formulas_of fs) e h) (all_some (each_formula ts)) (all_spelled ts k)
spelled_by heads.Or w p s e ts k =
    if_map or_all (λ fs. SpellFormulas ts (formulas_of fs)) (SpellsFormula (list (more (word w p) ts) s)) (λ fs h. a_disjunction w p s ts (formulas_of fs) e h) (all_some (each_formula ts)) (all_spelled ts k)
spelled_by heads.Not w p s e none k = tt
spelled_by heads.Not w p s e (more t none) k =
    if_map not (SpellsFormula t) (SpellsFormula (list (more (word w p) (more t none)) s)) (λ f h. a_negation w p s t f e h) (formula_of t) k.0
spelled_by heads.Not w p s e (more t (more u ts)) k = tt
spelled_by heads.Imply w p s e none k = tt
spelled_by heads.Imply w p s e (more t none) k = tt
spelled_by heads.Imply w p s e (more t (more u none)) k =
    if_both imply (SpellsFormula t) (SpellsFormula u) (SpellsFormula (list (more (word w p) (more t (more u none))) s)) (λ f g h l. an_implication w p s t u f g e h l) (formula_of t) (formula_of u) k.0 k.1.0
spelled_by heads.Imply w p s e (more t (more u (more v ts))) k = tt
spelled_by heads.Forall w p s e none k = tt
spelled_by heads.Forall w p s e (more t none) k = tt
spelled_by heads.Forall w p s e (more t (more u none)) k =
    if_map (λ q. forall q.0 q.1) (IsQuantified t u) (SpellsFormula (list (more (word w p) (more t (more u none))) s)) (λ q h. for_all w p s t u q.0 q.1 e h.0 h.1) (both tuple (variables_of t) (formula_of u))
    (quantified_spelled t u k.1.0)
spelled_by heads.Forall w p s e (more t (more u (more v ts))) k = tt
spelled_by heads.Exists w p s e none k = tt
spelled_by heads.Exists w p s e (more t none) k = tt
spelled_by heads.Exists w p s e (more t (more u none)) k =
    if_map (λ q. exists q.0 q.1) (IsQuantified t u) (SpellsFormula (list (more (word w p) (more t (more u none))) s)) (λ q h. for_some w p s t u q.0 q.1 e h.0 h.1) (both tuple (variables_of t) (formula_of u))
    (quantified_spelled t u k.1.0)
spelled_by heads.Exists w p s e (more t (more u (more v ts))) k = tt
spelled_by heads.Equal w p s e none k = tt
spelled_by heads.Equal w p s e (more t none) k = tt
spelled_by heads.Equal w p s e (more t (more u none)) k =
    if_both equal (SpellsTerm t) (SpellsTerm u) (SpellsFormula (list (more (word w p) (more t (more u none))) s)) (λ x y h l. an_equality w p s t u x y e h l) (term_of t) (term_of u) (term_spelled t) (term_spelled u)
spelled_by heads.Equal w p s e (more t (more u (more v ts))) k = tt
spelled_by heads.Symbol w p s e ts k =
    if_map (λ xs. holds (atom_with (word_at w p) xs)) (SpellEach SpellsTerm ts) (SpellsFormula (list (more (word w p) ts) s))
    (λ xs h. a_fact (list (more (word w p) ts) s) (atom_with (word_at w p) xs) (an_atom w p s ts xs e h)) (every term_of ts) (terms_spelled ts)
spelled_by heads.When w p s e ts k = tt
spelled_by heads.Other w p s e ts k = tt

mutual
  formula_spelled : (t : Tree) → IfSome (formula_of t) (SpellsFormula t)
  formula_spelled (word w s) = tt
  formula_spelled (list ts s) = among_spelled ts s

  among_spelled : (ts : Trees) (s : Span) → IfSome (formula_among ts) (SpellsFormula (list ts s))
  among_spelled none s = nothing s
  among_spelled (more (word w p) ts) s = spelled_by (head_of w) w p s refl ts (members_spelled ts)
  among_spelled (more (list us p) ts) s = tt

  members_spelled : (ts : Trees) → EachSpelled ts
  members_spelled none = tt
  members_spelled (more t ts) = (formula_spelled t, members_spelled ts)

pub formula_is_read : (t : Tree) (f : Formula) → SpellsFormula t f → formula_of t ≡ Some f
formula_is_read = formula_read

pub formula_is_spelled : (t : Tree) → IfSome (formula_of t) (SpellsFormula t)
formula_is_spelled = formula_spelled

pub formula_table : (t : Tree) (f : Formula) → SpellsFormula t f ↔ (formula_of t ≡ Some f)
formula_table = agree formula_of SpellsFormula formula_read formula_spelled

-- a longer word is another
never_true : (b : Bool) → (b ≡ true → ⊥) → b ≡ false
never_true true h = absurd (h refl)
never_true false h = refl

pub longer : (w a : List ℕ) → length a < length w → is w a ≡ false
longer w a lt = never_true (is w a) (λ same. let long : length w ≡ length a = ap length (same_word w a same) in omega (arith, lt, long))
