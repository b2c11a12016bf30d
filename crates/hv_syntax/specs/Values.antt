-- What texts say: words are in lower case, and each keeps its place.
use Rattle.std.specs.Prelude.{ℕ, Bool, List, [], ◌∷◌, Option, codes}
use Rattle.hv_text.specs.declared.span.Span.{Span}

-- a word at its place
pub record WordAt : Type 0 where
  pub text : List ℕ
  pub place : Span

abbrev pub word_at : List ℕ → Span → WordAt
word_at w s = record { text = w; place = s }

-- a term: a name or a variable
pub data Term : Type 0 where
  constant : WordAt → Term
  variable : WordAt → Term

-- a symbol and its terms: an atom, or a task
pub record Atom : Type 0 where
  pub symbol : WordAt
  pub terms : List Term

abbrev pub atom_with : WordAt → List Term → Atom
atom_with w xs = record { symbol = w; terms = xs }

-- the type of a name: none is written, or this one
pub data TypeOf : Type 0 where
  no_type : TypeOf
  of_type : WordAt → TypeOf

-- its name, which is `object` where none is written
abbrev pub type_name : TypeOf → List ℕ
type_name no_type = codes "object"
type_name (of_type w) = w.text

-- a name or a variable, and its type, where T says types
pub record TypedBy (T : Type 0) : Type 0 where
  pub name : WordAt
  pub of : T

abbrev pub typed : {T : Type 0} → T → WordAt → TypedBy T
typed t w = record { name = w; of = t }

-- a name and its type
abbrev pub Typed : Type 0
Typed = TypedBy TypeOf

-- a variable and its type: the names that are written, where an object of one of them is of the
-- type; it is `object` where none is written
abbrev pub Variable : Type 0
Variable = TypedBy (List WordAt)

-- a formula: an atom is true, all or some of a list hold, one does not hold, one holds where
-- another does, for all or some objects, two terms are one
mutual
  pub data Formula : Type 0 where
    holds : Atom → Formula
    and : Formulas → Formula
    or : Formulas → Formula
    not : Formula → Formula
    imply : Formula → Formula → Formula
    forall : List Variable → Formula → Formula
    exists : List Variable → Formula → Formula
    equal : Term → Term → Formula

  pub data Formulas : Type 0 where
    no_formulas : Formulas
    more_formulas : Formula → Formulas → Formulas

abbrev pub formulas_of : List Formula → Formulas
formulas_of [] = no_formulas
formulas_of (f ∷ fs) = more_formulas f (formulas_of fs)

-- an atom, or the negation of one
pub record Literal : Type 0 where
  pub is_positive : Bool
  pub atom : Atom

abbrev pub literal : Bool → Atom → Literal
literal b a = record { is_positive = b; atom = a }

-- what an action brings about: all items of a list; an item is a literal, which becomes true, or an
-- effect for all objects of these types
mutual
  pub data Effect : Type 0 where
    no_items : Effect
    more_items : Item → Effect → Effect

  pub data Item : Type 0 where
    becomes : Literal → Item
    for_each : List Variable → Effect → Item

abbrev pub effect : List Item → Effect
effect [] = no_items
effect (i ∷ is) = more_items i (effect is)

-- a task, with the label that it may have
pub record Subtask : Type 0 where
  pub label : Option WordAt
  pub task : Atom

abbrev pub subtask : Option WordAt → Atom → Subtask
subtask l a = record { label = l; task = a }

-- the label of a subtask, and that of one that comes later
pub record Pair : Type 0 where
  pub earlier : WordAt
  pub later : WordAt

abbrev pub pair : WordAt → WordAt → Pair
pair l m = record { earlier = l; later = m }

-- two terms are one object, or they are not
pub record Constraint : Type 0 where
  pub is_equal : Bool
  pub left : Term
  pub right : Term

abbrev pub constraint : Bool → Term × Term → Constraint
constraint b (x, y) = record { is_equal = b; left = x; right = y }

-- a network: its subtasks, whether their form orders them as written, its pairs and its constraints
pub record Network : Type 0 where
  pub subtasks : List Subtask
  pub is_ordered : Bool
  pub pairs : List Pair
  pub constraints : List Constraint

abbrev pub network : List Subtask → Bool → List Pair → List Constraint → Network
network xs b ps cs = record { subtasks = xs; is_ordered = b; pairs = ps; constraints = cs }

-- a predicate, and its parameters
pub record Predicate : Type 0 where
  pub name : WordAt
  pub parameters : List Variable

abbrev pub predicate : WordAt → List Variable → Predicate
predicate w ps = record { name = w; parameters = ps }

-- a task that methods decompose, with the place of its section
pub record Task : Type 0 where
  pub name : WordAt
  pub parameters : List Variable
  pub place : Span

abbrev pub task : Span → WordAt → List Variable → Task
task s w ps = record { name = w; parameters = ps; place = s }

-- a method: the task that it is for, when it may be used, and its network; with the place
-- of its section
pub record Method : Type 0 where
  pub name : WordAt
  pub parameters : List Variable
  pub task : Atom
  pub precondition : Formula
  pub network : Network
  pub place : Span

abbrev pub method : Span → WordAt → (List Variable × Atom) × Network → Formula → Method
method s w ((ps, t), n) f =
    record { name = w; parameters = ps; task = t; precondition = f; network = n; place = s }

-- an action: when it may be done, and what it brings about; with the place of its section
pub record Action : Type 0 where
  pub name : WordAt
  pub parameters : List Variable
  pub precondition : Formula
  pub effect : Effect
  pub place : Span

abbrev pub action : Span → WordAt → List Variable × Effect → Formula → Action
action s w (ps, e) f = record { name = w; parameters = ps; precondition = f; effect = e; place = s }

-- a domain: what each kind of section says, tasks, methods and actions each in the
-- order of the text
pub record Domain : Type 0 where
  pub name : WordAt
  pub requirements : List WordAt
  pub types : List Typed
  pub constants : List Typed
  pub predicates : List Predicate
  pub tasks : List Task
  pub methods : List Method
  pub actions : List Action

-- the initial network of a problem, with the place of its section
pub record Htn : Type 0 where
  pub parameters : List Variable
  pub network : Network
  pub place : Span

abbrev pub htn : Span → List Variable → Network → Htn
htn s ps n = record { parameters = ps; network = n; place = s }

-- a problem: what each kind of section says; a goal may be absent
pub record Problem : Type 0 where
  pub name : WordAt
  pub domain : WordAt
  pub requirements : List WordAt
  pub objects : List Typed
  pub htn : Htn
  pub init : List Literal
  pub goal : Option Formula
