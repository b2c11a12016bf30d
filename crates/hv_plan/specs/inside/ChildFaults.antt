-- For which causes the children of a line are not as its method's subtasks.
use Rattle.std.specs.Prelude.{◌≡◌, ℕ, List, Option, Some, length, Contains, MatchOption, IsSome}
use Rattle.std.specs.List.{AllZip}
use Rattle.hv_world.specs.Values.{TaskName}
use Rattle.hv_world.specs.Worlds.{World, Method}
use Rattle.hv_world.specs.Bindings.{ground_actions_view}
use Rattle.hv_plan.specs.Values.{Plan}
use Rattle.hv_plan.specs.Shapes.{Parent}
use Rattle.hv_plan.specs.Forms.{every}
use Rattle.hv_plan.specs.Fits.{IsNamed, multiplicity, names_of, method_of}
use Rattle.hv_plan.specs.inside.FitViews.{decomposed_lines, IsDecomposed, item_name}
use Rattle.hv_plan.specs.PlanTrees.{IsActionOf}
use Rattle.hv_plan.specs.inside.ShapeViews.{Shape}
use Rattle.hv_plan.specs.inside.Tallies.{number_in, HaveSameNames, IsNamesFault}
use Rattle.hv_plan.specs.Trees.{Item}
use Rattle.hv_plan.specs.declared.cause.CauseKind.{CauseKind}
use Rattle.hv_plan.specs.declared.cause.CauseKind.TheVariants as kinds
use Rattle.hv_plan.specs.declared.cause.Cause.{Cause}
use Rattle.hv_plan.specs.declared.subtasks.names.Said.{Said}

-- the children of a line are not as its method's subtasks, by their number or by their names
abbrev pub IsChildFault : World → Plan → Parent → CauseKind → Type 0
IsChildFault w p q kinds.RepeatedId = ⊥
IsChildFault w p q kinds.UnknownChild = ⊥
IsChildFault w p q kinds.TwoParents = ⊥
IsChildFault w p q kinds.Unreached = ⊥
IsChildFault w p q kinds.UnknownTask = ⊥
IsChildFault w p q kinds.UnknownMethod = ⊥
IsChildFault w p q kinds.UnknownObject = ⊥
IsChildFault w p q kinds.ArgumentCount = ⊥
IsChildFault w p q kinds.ArgumentType = ⊥
IsChildFault w p q kinds.NotPrimitive = ⊥
IsChildFault w p q kinds.NotAbstract = ⊥
IsChildFault w p q kinds.OtherTask = ⊥
IsChildFault w p q kinds.ChildCount = (m : Method) × (method_of w q.method ≡ Some m)
    × (length q.children ≡ length m.network.subtasks → ⊥)
IsChildFault w p q kinds.ChildNames =
    (m : Method) × (names : List TaskName) × (n : TaskName) × (method_of w q.method ≡ Some m)
    × AllZip (IsNamed w p) q.children names
    × (multiplicity n names ≡ multiplicity n (names_of m.network.subtasks) → ⊥)

-- the children of one of these lines, with this number, are at fault for this cause
abbrev pub ChildFaultIn : World → Plan → List Parent → CauseKind → ℕ → Type 0
ChildFaultIn w p qs k l = (q : Parent) × Contains qs q × IsChildFault w p q k × (q.line ≡ l)

-- what names an item, by what the lines were found to say
abbrev pub said_name : Said → Item → Option TaskName
said_name s x =
    item_name (ground_actions_view s.actions.now) (decomposed_lines s.lines.now) s.places.now x

-- items have names, each of a task or an action that has a number
pub record AreNumbered (tasks actions : ℕ) (name : Item → Option TaskName)
    (xs : List Item) : Type 0 where
  pub names : List TaskName
  pub named : every name xs ≡ Some names
  pub numbered : IsSome (every (number_in tasks actions) names)

-- why the names of the children of a line are not those of subtasks, each as often
abbrev pub IsMethodCause : List TaskName → List TaskName → ℕ → Option Cause → Type 0
IsMethodCause ns ms l o =
    MatchOption o (HaveSameNames ns ms) (λ c. (c.line ≡ l) × IsNamesFault ns ms c.kind)

-- what names the items of a plan of this shape is what its lines say
pub record IsSaid (w : World) (p : Plan) (s : Shape) (x : Said) : Type 0 where
  pub actions : AllZip (IsActionOf w) p.actions (ground_actions_view x.actions.now)
  pub lines : AllZip (IsDecomposed w) p.decompositions (decomposed_lines x.lines.now)
  pub places : x.places.now ≡ s.lines

-- these are how many tasks and actions the world has
pub record AreSizes (w : World) (ts as' : ℕ) : Type 0 where
  pub tasks : ts ≡ length w.tasks
  pub actions : as' ≡ length w.actions
