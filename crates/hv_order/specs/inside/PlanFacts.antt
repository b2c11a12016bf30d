-- What is true of the nodes of a plan's tree.
use Rattle.std.specs.Prelude.{◌≡◌, ℕ, suc, ◌<◌, List, map, length, slice_get, Some, MatchOption}
use Rattle.std.specs.List.{slice_index_or}
use Rattle.hv_world.specs.Bounds.{IsSound}
use Rattle.hv_world.specs.Orders.{Before}
use Rattle.hv_world.specs.Worlds.{Method}
use Rattle.hv_plan.specs.Trees.{Item, Act, Task}
use Rattle.hv_plan.specs.PlanTrees.{Node, IsTreeIn, children_at}
use Rattle.hv_plan.specs.TreeViews.{child_view}
use Rattle.hv_match.specs.Candidates.{IsCandidate, child_tasks, node_method, method_at}
use Rattle.hv_order.specs.Finishes.{Fits}
use Rattle.hv_order.specs.Settings.{Setting, last, HoldsAt, IsMeaning, HasNoPrecondition}
use Rattle.hv_order.specs.inside.Arrangements.{Arrangement, listed_before}
use Rattle.hv_order.specs.inside.Facts.{Facts}
use Rattle.hv_order.specs.inside.Layouts.{IsOrderOf, AreDirect}

-- The tree is one of the world, which is sound, and the plan has its actions. The initial network
-- has no precondition, and 32 bits are enough for one state more than there are
pub record IsSetting (q : Setting) : Type 0 where
  pub tree : IsTreeIn q.plan.world q.tree
  pub actions : q.plan.actions ≡ q.tree.actions
  pub sound : IsSound q.plan.world
  pub top : HasNoPrecondition q.plan.world
  pub small : last q < 4294967295

-- the steps at and below the node of number v fit between s and f: the root is a node like others
abbrev pub FitsNode : Setting → ℕ → ℕ → ℕ → Type 0
FitsNode q v s f = Fits (children_at q.tree.nodes) (IsMeaning q) (suc v) (Task v) s f

-- the node has a method, of which this is true
abbrev pub OfMethod : Setting → ℕ → (Method → Type 0) → Type 0
OfMethod q v Is = MatchOption (method_at q.plan.world q.tree v) ⊥ Is

-- subtask i of a candidate comes before subtask j
abbrev pub ComesBefore : Setting → Arrangement → ℕ → ℕ → Type 0
ComesBefore q c i j = OfMethod q c.node (λ m. Before m.network.order i j)

-- the precondition of a candidate is true after k actions, where preconditions count
abbrev pub HoldsFor : Setting → Arrangement → ℕ → Type 0
HoldsFor q c k = OfMethod q c.node (λ m. HoldsAt q m c.objects k)

-- the child at a place among a node's children
abbrev pub child_in : List Item → ℕ → Item
child_in xs x = slice_index_or xs x (Act 0)

-- It is a candidate of the node of number v: some matching says which child stands for each
-- subtask, and its order is one that the method allows, with those directly before each subtask
pub record Arranges (q : Setting) (v : ℕ) (c : Arrangement) : Type 0 where
  pub of_node : c.node ≡ v
  pub node : Node
  pub has_node : slice_get q.tree.nodes v ≡ Some node
  pub method : Method
  pub has_method : node_method q.plan.world node ≡ Some method
  pub matching : List ℕ
  pub candidate :
      IsCandidate q.plan.world method node.objects (child_tasks q.tree node) matching c.objects
  pub children : map child_view c.children ≡ map (child_in node.children) matching
  pub order : IsOrderOf (λ j. j < length c.children) (Before method.network.order) c.order
  pub as_many : length c.direct ≡ length c.children
  pub direct :
      (j : ℕ) → j < length c.children
      → AreDirect (λ i. i < length c.children) (Before method.network.order) j
      (listed_before c.direct j)

-- the facts of a plan
abbrev pub plan_facts : Setting → Facts
plan_facts q =
    record {
      last = last q;
      fits = FitsNode q;
      is_candidate = Arranges q;
      before = ComesBefore q;
      holds = HoldsFor q;
    }
