-- What a world says, with a number for each name.
use Rattle.std.specs.Prelude.{ℕ, Bool, List, [], ◌∷◌}

-- a term: the object of a number, or the variable of a number; the parameters come first, then the
-- variables of the quantifiers and effects around, the outermost first
pub data Term : Type 0 where
  object : ℕ → Term
  variable : ℕ → Term

-- a predicate and its terms
pub record Atom : Type 0 where
  pub predicate : ℕ
  pub terms : List Term

abbrev pub atom : ℕ → List Term → Atom
atom p xs = record { predicate = p; terms = xs }

-- a formula; a quantifier keeps the types of its variables
mutual
  pub data Formula : Type 0 where
    holds : Atom → Formula
    and : Formulas → Formula
    or : Formulas → Formula
    not : Formula → Formula
    imply : Formula → Formula → Formula
    forall : List ℕ → Formula → Formula
    exists : List ℕ → Formula → Formula
    equal : Term → Term → Formula

  pub data Formulas : Type 0 where
    no_formulas : Formulas
    more_formulas : Formula → Formulas → Formulas

abbrev pub formulas_of : List Formula → Formulas
formulas_of [] = no_formulas
formulas_of (f ∷ fs) = more_formulas f (formulas_of fs)

-- an effect: an atom becomes true or false, or all of these effects for all objects of these types
mutual
  pub data Effect : Type 0 where
    becomes : Bool → Atom → Effect
    for_each : List ℕ → Effects → Effect

  pub data Effects : Type 0 where
    no_effects : Effects
    more_effects : Effect → Effects → Effects

abbrev pub effects_of : List Effect → Effects
effects_of [] = no_effects
effects_of (e ∷ es) = more_effects e (effects_of es)

-- what a subtask is to do: a task that methods decompose, or an action
pub data TaskName : Type 0 where
  compound : ℕ → TaskName
  primitive : ℕ → TaskName

-- a subtask: what is to be done, and with what
pub record Subtask : Type 0 where
  pub name : TaskName
  pub terms : List Term

abbrev pub subtask : TaskName → List Term → Subtask
subtask n xs = record { name = n; terms = xs }

-- two terms are one object, or they are not
pub record Constraint : Type 0 where
  pub is_equal : Bool
  pub left : Term
  pub right : Term

abbrev pub constraint : Bool → Term → Term → Constraint
constraint b x y = record { is_equal = b; left = x; right = y }
