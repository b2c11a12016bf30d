-- The plan that is judged: which candidates its nodes have, what they amount to, and
-- when it is solved.
use Rattle.std.specs.Prelude.{◌≡◌, ℕ, ◌<◌, Bool, true, false, List, length, slice_get, slice_index, Some}
use Rattle.std.specs.List.{slice_index_or}
use Rattle.hv_world.specs.Values.{and, no_formulas}
use Rattle.hv_world.specs.Orders.{Before}
use Rattle.hv_world.specs.Worlds.{World, Method}
use Rattle.hv_state.specs.Truth.{True}
use Rattle.hv_state.specs.Plans as states
use Rattle.hv_state.specs.Plans.{StateAt}
use Rattle.hv_plan.specs.Trees.{Item, Act}
use Rattle.hv_plan.specs.PlanTrees.{Node, PlanTree, IsTreeIn, tree_of, root_number}
use Rattle.hv_match.specs.Candidates.{IsCandidate, IsCandidateAt, child_tasks, node_method}
use Rattle.hv_order.specs.Meanings.{Meaning}
use Rattle.hv_order.specs.StandIns.{StandsFor}
use Rattle.hv_order.specs.Sequences.{HasSolution}

-- A plan's tree and the states that its actions pass. `is_with` says whether the preconditions of
-- methods count; where it is false, each of them is taken as true
pub record Setting : Type 0 where
  pub tree : PlanTree
  pub plan : states.Plan
  pub is_with : Bool

abbrev pub setting : PlanTree → states.Plan → Bool → Setting
setting t p b = record { tree = t; plan = p; is_with = b }

-- the same where each precondition of a method is taken as true
abbrev pub without_preconditions : Setting → Setting
without_preconditions q = setting q.tree q.plan false

-- the number of the last state
abbrev pub last : Setting → ℕ
last q = length q.plan.actions

-- the child that stands for subtask j of a node, where M has for each subtask the
-- place of its child
abbrev pub child_for : Node → List ℕ → ℕ → Item
child_for n M j = slice_index_or n.children (slice_index M j) (Act 0)

-- a method's precondition is true after k actions under a binding, where preconditions count
abbrev pub HoldsAt : Setting → Method → List ℕ → ℕ → Type 0
HoldsAt q m B k = q.is_with ≡ true → True q.plan.world.typing (StateAt q.plan k) m.precondition B

-- M and B are a candidate of the node of number v, and c is what it amounts to: its children
-- are ordered as the subtasks are for which they stand, and its precondition is true where
-- the method's is
pub record AmountsTo (q : Setting) (v : ℕ) (M B : List ℕ) (c : Meaning) : Type 0 where
  pub node : Node
  pub has_node : slice_get q.tree.nodes v ≡ Some node
  pub method : Method
  pub has_method : node_method q.plan.world node ≡ Some method
  pub candidate : IsCandidate q.plan.world method node.objects (child_tasks q.tree node) M B
  pub stands : StandsFor (length M) (child_for node M) (Before method.network.order)
      (HoldsAt q method B) c

-- some candidate of the node amounts to c
pub record IsMeaning (q : Setting) (v : ℕ) (c : Meaning) : Type 0 where
  pub matching : List ℕ
  pub binding : List ℕ
  pub amounts : AmountsTo q v matching binding c

-- There are candidates for all nodes, a derivation and an executable sequence of its end. That the
-- actions are applicable and that the goal is true at the end is said beside it
abbrev pub IsSolved : Setting → Type 0
IsSolved q = HasSolution (tree_of q.tree) (IsMeaning q (root_number q.tree)) (IsMeaning q) (last q)

-- the node of number v has a candidate
pub record HasCandidate (q : Setting) (v : ℕ) : Type 0 where
  pub matching : List ℕ
  pub binding : List ℕ
  pub candidate : IsCandidateAt q.plan.world q.tree v matching binding

abbrev pub HaveCandidates : Setting → Type 0
HaveCandidates q = (v : ℕ) → v < length q.tree.nodes → HasCandidate q v

-- in the order of nodes, which begins with the root line and goes on by the text, the first node
-- without a candidate is the one of this line
pub record IsFirstWithout (q : Setting) (line : ℕ) : Type 0 where
  pub place : ℕ
  pub number : ℕ
  pub stands : slice_get q.tree.order place ≡ Some number
  pub node : Node
  pub has_node : slice_get q.tree.nodes number ≡ Some node
  pub none : HasCandidate q number → ⊥
  pub earlier : (i u : ℕ) → i < place → slice_get q.tree.order i ≡ Some u → HasCandidate q u
  pub on_line : node.line ≡ line

-- the initial network, as a method, has the precondition that is always true
abbrev pub HasNoPrecondition : World → Type 0
HasNoPrecondition w = w.top.precondition ≡ and no_formulas

-- A tree of a world, with its matcher and the states that the tree's actions pass: the world's
-- initial network has no precondition, and 32 bits are enough for one state more than there are
pub record BelongTogether (w matcher : World) (t : PlanTree) (p : states.Plan) : Type 0 where
  pub world : matcher ≡ w
  pub top : HasNoPrecondition w
  pub tree : IsTreeIn w t
  pub trace : p ≡ states.plan w t.actions
  pub small : length t.actions < 4294967295
