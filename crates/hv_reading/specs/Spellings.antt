-- The table of the grammar, row by row, as relations between expressions and what they say.
use Rattle.std.specs.Prelude.{◌≡◌, ◌≤◌, ℕ, true, false, length, List, [], ◌∷◌, ◌++◌, Some, None, codes}
use Rattle.hv_text.specs.Trees.{Tree, word, list, Trees, none, more}
use Rattle.hv_text.specs.declared.span.Span.{Span}
use Rattle.hv_reading.specs.declared.word.Sort.{Sort}
use Rattle.hv_reading.specs.declared.word.Sort.TheVariants as sorts
use Rattle.hv_reading.specs.declared.word.Head.TheVariants as heads
use Rattle.hv_reading.specs.Words.{is, sort_of, is_sort, head_of}
use Rattle.hv_syntax.specs.Values.{WordAt, word_at, Term, constant, variable, Atom, atom_with, TypeOf, no_type, of_type, TypedBy, Typed, Variable, Formula, Formulas, holds, and, or, not, imply, forall, exists, equal, no_formulas, more_formulas, Literal, literal, Effect, no_items, more_items, Item, becomes, for_each, Subtask, subtask, Pair, pair, Constraint, constraint}
use Rattle.hv_reading.specs.TypedLists.{with_type}
use Rattle.hv_reading.specs.Literals.{are_constants}

-- a word of this sort: a name, a variable or a keyword
pub data SpellsWord (sort : Sort) : Tree → WordAt → Type 0 where
  a_word : (w : List ℕ) (s : Span) → is_sort sort w ≡ true
      → SpellsWord sort (word w s) (word_at w s)

-- a symbol
pub data SpellsSymbol : Tree → WordAt → Type 0 where
  a_symbol : (w : List ℕ) (s : Span) → head_of w ≡ heads.Symbol
      → SpellsSymbol (word w s) (word_at w s)

-- a term: a name or a variable
pub data SpellsTerm : Tree → Term → Type 0 where
  a_name : (w : List ℕ) (s : Span) → sort_of w ≡ sorts.Name
      → SpellsTerm (word w s) (constant (word_at w s))
  a_variable : (w : List ℕ) (s : Span) → sort_of w ≡ sorts.Variable
      → SpellsTerm (word w s) (variable (word_at w s))

-- all members of a list, one after another
pub data SpellEach {A : Type 0} (Spells : Tree → A → Type 0) : Trees → List A → Type 0 where
  no_more : SpellEach Spells none []
  one_more : (t : Tree) (ts : Trees) (a : A) (as' : List A) → Spells t a → SpellEach Spells ts as'
      → SpellEach Spells (more t ts) (a ∷ as')

-- `()`, one of them, or `(and ..)` of them
pub data SpellsList {A : Type 0} (Spells : Tree → A → Type 0) : Tree → List A → Type 0 where
  none_of_them : (s : Span) → SpellsList Spells (list none s) []
  one_of_them : (t : Tree) (a : A) → Spells t a → SpellsList Spells t (a ∷ [])
  all_of_them : (w : List ℕ) (p s : Span) (ts : Trees) (as' : List A) → head_of w ≡ heads.And
      → SpellEach Spells ts as' → SpellsList Spells (list (more (word w p) ts) s) as'

-- an atom, or a task: `(symbol term*)`
pub data SpellsAtom : Tree → Atom → Type 0 where
  an_atom : (w : List ℕ) (p s : Span) (ts : Trees) (xs : List Term) → head_of w ≡ heads.Symbol
      → SpellEach SpellsTerm ts xs
      → SpellsAtom (list (more (word w p) ts) s) (atom_with (word_at w p) xs)

-- some expressions, and behind them others
abbrev pub join : Trees → Trees → Trees
join none us = us
join (more t ts) us = more t (join ts us)

-- the type of names: a name
pub data SpellsTypeName : Tree → TypeOf → Type 0 where
  a_type_name : (t : Tree) (n : WordAt) → SpellsWord sorts.Name t n → SpellsTypeName t (of_type n)

-- the type of variables: a name, or `(either name+)`
pub data SpellsType : Tree → List WordAt → Type 0 where
  one_type : (t : Tree) (n : WordAt) → SpellsWord sorts.Name t n → SpellsType t (n ∷ [])
  either_type : (w : List ℕ) (p s : Span) (t : Tree) (ts : Trees) (n : WordAt) (ns : List WordAt)
      → is w (codes "either") ≡ true → SpellsWord sorts.Name t n
      → SpellEach (SpellsWord sorts.Name) ts ns
      → SpellsType (list (more (word w p) (more t ts)) s) (n ∷ ns)

-- a typed list of words of this sort: any number of groups `X+ - type`, then `X*`, for which no
-- type is written
pub data SpellsTypedBy {T : Type 0} (Spells : Tree → T → Type 0) (not_written : T)
    (sort : Sort) : Trees → List (TypedBy T) → Type 0 where
  without_type : (ts : Trees) (ws : List WordAt) → SpellEach (SpellsWord sort) ts ws
      → SpellsTypedBy Spells not_written sort ts (with_type not_written ws)
  a_group : (t : Tree) (ts : Trees) (w : WordAt) (ws : List WordAt) (d : List ℕ) (p : Span)
      (u : Tree) (n : T) (us : Trees) (xs : List (TypedBy T))
      → SpellsWord sort t w → SpellEach (SpellsWord sort) ts ws → is d (codes "-") ≡ true
      → Spells u n → SpellsTypedBy Spells not_written sort us xs
      → SpellsTypedBy Spells not_written sort (more t (join ts (more (word d p) (more u us))))
      (with_type n (w ∷ ws) ++ xs)

-- a typed list of names
abbrev pub SpellsTyped : Trees → List Typed → Type 0
SpellsTyped ts xs = SpellsTypedBy SpellsTypeName no_type sorts.Name ts xs

-- a typed list of variables
abbrev pub SpellsTypedVariables : Trees → List Variable → Type 0
SpellsTypedVariables ts xs = SpellsTypedBy SpellsType [] sorts.Variable ts xs

-- the list of a quantifier: `(typed(var))`, at most 16 of them
pub data SpellsVariables : Tree → List Variable → Type 0 where
  variables : (ts : Trees) (s : Span) (xs : List Variable) → SpellsTypedVariables ts xs
      → length xs ≤ 16 → SpellsVariables (list ts s) xs

mutual
  -- a formula
  pub data SpellsFormula : Tree → Formula → Type 0 where
    nothing : (s : Span) → SpellsFormula (list none s) (and no_formulas)
    a_fact : (t : Tree) (a : Atom) → SpellsAtom t a → SpellsFormula t (holds a)
    a_conjunction : (w : List ℕ) (p s : Span) (ts : Trees) (fs : Formulas) → head_of w ≡ heads.And
        → SpellFormulas ts fs
        → SpellsFormula (list (more (word w p) ts) s) (and fs)
    a_disjunction : (w : List ℕ) (p s : Span) (ts : Trees) (fs : Formulas) → head_of w ≡ heads.Or
        → SpellFormulas ts fs
        → SpellsFormula (list (more (word w p) ts) s) (or fs)
    a_negation : (w : List ℕ) (p s : Span) (t : Tree) (f : Formula) → head_of w ≡ heads.Not
        → SpellsFormula t f
        → SpellsFormula (list (more (word w p) (more t none)) s) (not f)
    an_implication : (w : List ℕ) (p s : Span) (t u : Tree) (f g : Formula)
        → head_of w ≡ heads.Imply → SpellsFormula t f → SpellsFormula u g
        → SpellsFormula (list (more (word w p) (more t (more u none))) s) (imply f g)
    for_all : (w : List ℕ) (p s : Span) (t u : Tree) (xs : List Variable) (f : Formula)
        → head_of w ≡ heads.Forall → SpellsVariables t xs → SpellsFormula u f
        → SpellsFormula (list (more (word w p) (more t (more u none))) s) (forall xs f)
    for_some : (w : List ℕ) (p s : Span) (t u : Tree) (xs : List Variable) (f : Formula)
        → head_of w ≡ heads.Exists → SpellsVariables t xs → SpellsFormula u f
        → SpellsFormula (list (more (word w p) (more t (more u none))) s) (exists xs f)
    an_equality : (w : List ℕ) (p s : Span) (t u : Tree) (x y : Term) → head_of w ≡ heads.Equal
        → SpellsTerm t x → SpellsTerm u y
        → SpellsFormula (list (more (word w p) (more t (more u none))) s) (equal x y)

  -- formulas, one after another
  pub data SpellFormulas : Trees → Formulas → Type 0 where
    no_members : SpellFormulas none no_formulas
    more_members : (t : Tree) (ts : Trees) (f : Formula) (fs : Formulas) → SpellsFormula t f
        → SpellFormulas ts fs → SpellFormulas (more t ts) (more_formulas f fs)

-- a literal: an atom, or `(not atom)`
pub data SpellsLiteral : Tree → Literal → Type 0 where
  a_positive : (t : Tree) (a : Atom) → SpellsAtom t a → SpellsLiteral t (literal true a)
  a_negative : (w : List ℕ) (p s : Span) (t : Tree) (a : Atom) → head_of w ≡ heads.Not
      → SpellsAtom t a → SpellsLiteral (list (more (word w p) (more t none)) s) (literal false a)

-- a literal whose terms are names
pub data SpellsGround : Tree → Literal → Type 0 where
  a_ground : (t : Tree) (l : Literal) → SpellsLiteral t l → are_constants l.atom.terms ≡ true
      → SpellsGround t l

mutual
  -- an effect: `()`, an item, or `(and item*)`
  pub data SpellsEffect : Tree → Effect → Type 0 where
    no_effect : (s : Span) → SpellsEffect (list none s) no_items
    one_item : (t : Tree) (i : Item) → SpellsItem t i → SpellsEffect t (more_items i no_items)
    all_items : (w : List ℕ) (p s : Span) (ts : Trees) (e : Effect) → head_of w ≡ heads.And
        → SpellItems ts e → SpellsEffect (list (more (word w p) ts) s) e

  -- an item: a literal, or `(forall (typed(var)) effect)`
  pub data SpellsItem : Tree → Item → Type 0 where
    a_literal : (t : Tree) (l : Literal) → SpellsLiteral t l → SpellsItem t (becomes l)
    a_forall : (w : List ℕ) (p s : Span) (t u : Tree) (xs : List Variable) (e : Effect)
        → head_of w ≡ heads.Forall → SpellsVariables t xs → SpellsEffect u e
        → SpellsItem (list (more (word w p) (more t (more u none))) s) (for_each xs e)

  -- items, one after another
  pub data SpellItems : Trees → Effect → Type 0 where
    no_more_items : SpellItems none no_items
    one_more_item : (t : Tree) (ts : Trees) (i : Item) (e : Effect) → SpellsItem t i
        → SpellItems ts e → SpellItems (more t ts) (more_items i e)

-- a subtask: a task, or `(symbol task)`
pub data SpellsSubtask : Tree → Subtask → Type 0 where
  a_task_alone : (t : Tree) (a : Atom) → SpellsAtom t a → SpellsSubtask t (subtask None a)
  a_labelled_task : (t : Tree) (l : WordAt) (u : Tree) (a : Atom) (s : Span) → SpellsSymbol t l
      → SpellsAtom u a → SpellsSubtask (list (more t (more u none)) s) (subtask (Some l) a)

-- a pair: `(< symbol symbol)` or `(symbol < symbol)`
pub data SpellsPair : Tree → Pair → Type 0 where
  a_pair_behind : (w : List ℕ) (p s : Span) (t u : Tree) (l m : WordAt) → is w (codes "<") ≡ true
      → SpellsSymbol t l → SpellsSymbol u m
      → SpellsPair (list (more (word w p) (more t (more u none))) s) (pair l m)
  a_pair_between : (w : List ℕ) (p s : Span) (t u : Tree) (l m : WordAt) → is w (codes "<") ≡ true
      → SpellsSymbol t l → SpellsSymbol u m
      → SpellsPair (list (more t (more (word w p) (more u none))) s) (pair l m)

-- `(= term term)`
pub data SpellsEquation : Tree → Term × Term → Type 0 where
  an_equation : (w : List ℕ) (p s : Span) (t u : Tree) (x y : Term) → is w (codes "=") ≡ true
      → SpellsTerm t x → SpellsTerm u y
      → SpellsEquation (list (more (word w p) (more t (more u none))) s) (x, y)

-- a constraint: `(= term term)` or `(not (= term term))`
pub data SpellsConstraint : Tree → Constraint → Type 0 where
  they_are_equal : (t : Tree) (e : Term × Term) → SpellsEquation t e
      → SpellsConstraint t (constraint true e)
  they_differ : (w : List ℕ) (p s : Span) (t : Tree) (e : Term × Term) → head_of w ≡ heads.Not
      → SpellsEquation t e
      → SpellsConstraint (list (more (word w p) (more t none)) s) (constraint false e)
