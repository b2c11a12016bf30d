-- How the tables and the puzzle of the search are made from a world, a node and its method.
use Rattle.std.specs.Prelude.{◌≡◌, ℕ, List, map, Option, None, MatchOption, option_map}
use Rattle.std.specs.Borrow.{Bor}
use Rattle.std.specs.List.{AllZip}
use Rattle.hv_world.specs.Values.{Subtask}
use Rattle.hv_world.specs.Alike.{with_objects}
use Rattle.hv_world.specs.Types.{Typing}
use Rattle.hv_world.specs.Ranges.{IsRange, range_view}
use Rattle.hv_world.specs.Worlds.{World, Method, terms_of}
use Rattle.hv_world.specs.Views.{type_number, term_view, subtask_view, constraint_view, atom_view}
use Rattle.hv_world.specs.MethodViews.{method_view}
use Rattle.hv_world.specs.declared.method.Method as code_method
use Rattle.hv_world.specs.declared.range.Range.{Range}
use Rattle.hv_world.specs.declared.id.TypeId.{TypeId}
use Rattle.hv_state.specs.Needed.{needed}
use Rattle.hv_plan.specs.PlanTrees.{Node}
use Rattle.hv_match.specs.Candidates.{node_method}
use Rattle.hv_match.specs.Counts.{CountIs}
use Rattle.hv_match.specs.declared.table.MethodTable.{MethodTable}
use Rattle.hv_match.specs.inside.Numbers.{in_64_bits}
use Rattle.hv_match.specs.inside.Puzzles.{Work, Puzzle}

abbrev pub AreRanges : Typing → List (List ℕ) → List ℕ → Type 0
AreRanges w rs ts = AllZip (IsRange w) rs ts

-- the same of the code's ranges and types
abbrev pub AreRangesOf : World → List Range → List TypeId → Type 0
AreRangesOf w rs ts = AreRanges w.typing (map range_view rs) (map type_number ts)

-- what a child does, as a subtask with objects for terms
abbrev pub as_subtask : Work → Subtask
as_subtask c = with_objects c.name c.objects

-- these are what children do
abbrev pub AreWorks : List (Option Work) → List (Option Subtask) → Type 0
AreWorks works tasks = map (option_map as_subtask) works ≡ tasks

-- the table of a method of a world
pub record IsTableOf (w : World) (m : Method) (t : MethodTable) : Type 0 where
  pub ranges : AreRanges w.typing (map range_view t.ranges.items) m.parameters
  pub task : map term_view t.task.now ≡ terms_of m.task
  pub subtasks : map subtask_view t.subtasks.now ≡ m.network.subtasks
  pub constraints : map constraint_view t.constraints.now ≡ m.network.constraints
  pub needed : map (λ a. atom_view a.now) t.needed.items ≡ needed m.precondition
  pub count : CountIs w m (λ k. t.count ≡ in_64_bits k)

-- the table of the method of a node
abbrev pub IsTableAt : World → Node → MethodTable → Type 0
IsTableAt w n t = MatchOption (node_method w n) ⊥ (λ m. IsTableOf w m t)

-- the table of the method of a node, where the world has the method
abbrev pub HasTable : World → Node → Option (Bor MethodTable) → Type 0
HasTable w n table = MatchOption table (node_method w n ≡ None) (λ t. IsTableAt w n t.now)

-- the tables of methods of the code
abbrev pub AreTables : World → List code_method.Method → List MethodTable → Type 0
AreTables w ms ts = AllZip (IsTableOf w) (map method_view ms) ts

-- the tables of all methods of a world, and that of its initial network
pub record AreTablesOf (w : World) (top : MethodTable) (ts : List MethodTable) : Type 0 where
  pub initial : IsTableOf w w.top top
  pub methods : AllZip (IsTableOf w) w.methods ts

-- the puzzle of a method, the objects of a node and what its children do
pub record IsPuzzleOf (w : World) (m : Method) (objects : List ℕ) (children : List (Option Subtask))
    (p : Puzzle) : Type 0 where
  pub ranges : AreRanges w.typing p.ranges m.parameters
  pub task : p.task ≡ terms_of m.task
  pub given : p.objects ≡ objects
  pub subtasks : p.subtasks ≡ m.network.subtasks
  pub constraints : p.constraints ≡ m.network.constraints
  pub works : map (option_map as_subtask) p.children ≡ children
  pub atoms : p.atoms ≡ needed m.precondition
