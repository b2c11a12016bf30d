-- The canonical expression of what formulas and networks say, and the text of an expression.
use Rattle.std.specs.Prelude.{ℕ, Bool, true, false, List, [], ◌∷◌, ◌++◌, Option, Some, None, codes}
use Rattle.hv_text.specs.Trees.{Tree, word, list, Trees, none, more}
use Rattle.hv_text.specs.Words.{nowhere}
use Rattle.hv_syntax.specs.Values.{WordAt, Term, constant, variable, Atom, TypeOf, type_name, TypedBy, Typed, Variable, Formula, Formulas, holds, and, or, not, imply, forall, exists, equal, no_formulas, more_formulas, Literal, Effect, no_items, more_items, Item, becomes, for_each, Subtask, Pair, Constraint, Network}

abbrev mutual
  -- the text of an expression: the members of a list are joined by one space
  pub text : Tree → List ℕ
  text (word w s) = w
  text (list ts s) = 40 ∷ joined ts ++ 41 ∷ []

  pub joined : Trees → List ℕ
  joined none = []
  joined (more t ts) = text t ++ spaced ts

  -- a space before each
  pub spaced : Trees → List ℕ
  spaced none = []
  spaced (more t ts) = 32 ∷ text t ++ spaced ts

-- a word that stands in no text
abbrev pub the_word : List ℕ → Tree
the_word w = word w nowhere

-- a list that stands in no text
abbrev pub the_list : Trees → Tree
the_list ts = list ts nowhere

-- the list that this word heads, with these members behind it
abbrev pub form : List ℕ → Trees → Tree
form w ts = the_list (more (the_word w) ts)

-- two members
abbrev pub two_members : Tree → Tree → Trees
two_members t u = more t (more u none)

-- the expression of each
abbrev pub each : {A : Type 0} → (A → Tree) → List A → Trees
each f [] = none
each f (x ∷ xs) = more (f x) (each f xs)

-- a list of members: `()` where it is empty, and else `(and ..)`
abbrev pub conjunction : Trees → Tree
conjunction none = the_list none
conjunction (more t ts) = form (codes "and") (more t ts)

abbrev pub word_expression : WordAt → Tree
word_expression w = the_word w.text

abbrev pub term_expression : Term → Tree
term_expression (constant w) = word_expression w
term_expression (variable w) = word_expression w

-- an atom, or a task: `(symbol term*)`
abbrev pub atom_expression : Atom → Tree
atom_expression a = form a.symbol.text (each term_expression a.terms)

-- the type of a name: its name
abbrev pub type_name_expression : TypeOf → Tree
type_name_expression t = the_word (type_name t)

-- the type of a variable: `object` where no name is written, one name as it is, and
-- else `(either ..)`
abbrev pub type_expression : List WordAt → Tree
type_expression [] = the_word (codes "object")
type_expression (n ∷ []) = word_expression n
type_expression (n ∷ m ∷ ns) = form (codes "either") (each word_expression (n ∷ m ∷ ns))

-- each name or variable with its own type
abbrev pub members_by : {T : Type 0} → (T → Tree) → List (TypedBy T) → Trees
members_by f [] = none
members_by f (v ∷ vs) =
    more (word_expression v.name) (more (the_word (codes "-")) (more (f v.of) (members_by f vs)))

-- names, each with its own type
abbrev pub typed_members : List Typed → Trees
typed_members vs = members_by type_name_expression vs

-- variables, each with its own type
abbrev pub variable_members : List Variable → Trees
variable_members vs = members_by type_expression vs

abbrev mutual
  -- a formula; a conjunction of nothing is `()`
  pub formula_expression : Formula → Tree
  formula_expression (holds a) = atom_expression a
  formula_expression (and fs) = conjunction (formula_expressions fs)
  formula_expression (or fs) = form (codes "or") (formula_expressions fs)
  formula_expression (not f) = form (codes "not") (more (formula_expression f) none)
  formula_expression (imply f g) =
      form (codes "imply") (two_members (formula_expression f) (formula_expression g))
  formula_expression (forall vs f) =
      form (codes "forall") (two_members (the_list (variable_members vs)) (formula_expression f))
  formula_expression (exists vs f) =
      form (codes "exists") (two_members (the_list (variable_members vs)) (formula_expression f))
  formula_expression (equal x y) =
      form (codes "=") (two_members (term_expression x) (term_expression y))

  pub formula_expressions : Formulas → Trees
  formula_expressions no_formulas = none
  formula_expressions (more_formulas f fs) = more (formula_expression f) (formula_expressions fs)

-- an expression, or `not` before it
abbrev pub signed : Bool → Tree → Tree
signed true t = t
signed false t = form (codes "not") (more t none)

abbrev pub literal_expression : Literal → Tree
literal_expression l = signed l.is_positive (atom_expression l.atom)

-- a list of members: `()` where it is empty, one of them alone, and else `(and ..)`
abbrev pub conjunction_or_one : Trees → Tree
conjunction_or_one none = the_list none
conjunction_or_one (more t none) = t
conjunction_or_one (more t (more u ts)) = form (codes "and") (more t (more u ts))

abbrev mutual
  -- an item; behind a `forall` one item of an effect stands alone
  pub item_expression : Item → Tree
  item_expression (becomes l) = literal_expression l
  item_expression (for_each vs e) =
      form (codes "forall")
      (two_members (the_list (variable_members vs)) (conjunction_or_one (item_expressions e)))

  pub item_expressions : Effect → Trees
  item_expressions no_items = none
  item_expressions (more_items i e) = more (item_expression i) (item_expressions e)

-- an effect; one `forall` stands alone, and one literal behind `and`
abbrev pub effect_expression : Effect → Tree
effect_expression no_items = the_list none
effect_expression (more_items (becomes l) e) =
    conjunction (item_expressions (more_items (becomes l) e))
effect_expression (more_items (for_each vs f) e) =
    conjunction_or_one (item_expressions (more_items (for_each vs f) e))

-- a task, behind its label where it has one
abbrev pub labelled_by : Option WordAt → Tree → Tree
labelled_by None t = t
labelled_by (Some l) t = the_list (two_members (word_expression l) t)

abbrev pub subtask_expression : Subtask → Tree
subtask_expression s = labelled_by s.label (atom_expression s.task)

-- a pair: `(< l m)`
abbrev pub pair_expression : Pair → Tree
pair_expression p =
    form (codes "<") (two_members (word_expression p.earlier) (word_expression p.later))

-- `(= x y)`
abbrev pub equation : Term → Term → Tree
equation x y = form (codes "=") (two_members (term_expression x) (term_expression y))

abbrev pub constraint_expression : Constraint → Tree
constraint_expression c = signed c.is_equal (equation c.left c.right)

-- a field, and the fields behind it
abbrev pub with_field : List ℕ → Tree → Trees → Trees
with_field k t rest = more (the_word k) (more t rest)

-- the field of these members where there are any, and the fields behind it
abbrev pub with_members : List ℕ → Trees → Trees → Trees
with_members k none rest = rest
with_members k (more t ts) rest = with_field k (conjunction (more t ts)) rest

-- the keyword of the subtasks, by whether their form orders them as written
abbrev pub subtasks_keyword : Bool → List ℕ
subtasks_keyword true = codes ":ordered-subtasks"
subtasks_keyword false = codes ":subtasks"

-- the fields of a network: the subtasks always, pairs and constraints where there are any
abbrev pub network_fields : Network → Trees
network_fields n =
    with_field (subtasks_keyword n.is_ordered) (conjunction (each subtask_expression n.subtasks))
    (with_members (codes ":ordering") (each pair_expression n.pairs)
    (with_members (codes ":constraints") (each constraint_expression n.constraints) none))
