-- What a plan says.
use Rattle.std.specs.Prelude.{ℕ, List}

-- an action line: an id, the action's name, its arguments, and the number of the line
pub record Action : Type 0 where
  pub id : ℕ
  pub name : List ℕ
  pub arguments : List (List ℕ)
  pub line : ℕ

-- a decomposition line: an id, the task's name, its arguments, the method's name, the ids of the
-- children, and the number of the line
pub record Decomposition : Type 0 where
  pub id : ℕ
  pub name : List ℕ
  pub arguments : List (List ℕ)
  pub method : List ℕ
  pub children : List ℕ
  pub line : ℕ

-- the root line: the ids of the tasks of the initial network, and the number of the line
pub record Root : Type 0 where
  pub ids : List ℕ
  pub line : ℕ

-- a plan: its action lines and its decomposition lines, each kind in the order of the text, and the
-- root line
pub record Plan : Type 0 where
  pub actions : List Action
  pub root : Root
  pub decompositions : List Decomposition
