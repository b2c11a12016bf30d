-- The tree that the lines of a plan form: its actions, and its nodes with children before parents.
use Rattle.std.specs.Prelude.{◌≡◌, ◌≢◌, ℕ, zero, suc, ◌+◌, ◌-◌, ◌<◌, List, [], ◌∷◌, ◌++◌, flat_map, AllPairs, Contains, map, length, slice_get, MatchOption, Option, Some, None}
use Rattle.std.specs.List.{AllZip}
use Rattle.hv_world.specs.Values.{compound, primitive}
use Rattle.hv_world.specs.Bindings.{GroundAction}
use Rattle.hv_lists.specs.Lists.{Once}
use Rattle.hv_world.specs.Worlds.{World, method_named}
use Rattle.hv_plan.specs.Values.{Action, Decomposition, Root, Plan}
use Rattle.hv_plan.specs.Shapes.{head, FormTree}
use Rattle.hv_plan.specs.Fits.{Says, FitWorld}
use Rattle.hv_plan.specs.Trees.{Item, Act, Task, Pre, Tree, Reached, IsTree, HasActions}

-- What a decomposition line says, with numbers for names: its id, the number of the line, its
-- task with the objects, the method, and its children. The node of the root line has no id,
-- task or method
pub record Node : Type 0 where
  pub id : Option ℕ
  pub line : ℕ
  pub task : Option ℕ
  pub objects : List ℕ
  pub method : Option ℕ
  pub children : List Item

-- The ground actions in plan order with their ids and the numbers of their lines; the nodes by
-- number, that of the root line the last; and the numbers of the nodes in their order, which is the
-- root line and then the decomposition lines as the text has them
pub record PlanTree : Type 0 where
  pub actions : List GroundAction
  pub action_ids : List ℕ
  pub action_lines : List ℕ
  pub nodes : List Node
  pub order : List ℕ

-- the children of a node, where there is one
abbrev pub children_of : Option Node → List Item
children_of None = []
children_of (Some n) = n.children

-- the children of the node of a number
abbrev pub children_at : List Node → ℕ → List Item
children_at ns v = children_of (slice_get ns v)

-- the number of the root line's node, which is the last
abbrev pub root_number : PlanTree → ℕ
root_number t = length t.nodes - 1

-- which node stands below which
abbrev pub tree_of : PlanTree → Tree
tree_of t =
    record { initial_tasks = children_at t.nodes (root_number t); children = children_at t.nodes }

-- the item that an id stands for: the action, or the node, of the line that begins with it
abbrev pub StandsFor : PlanTree → ℕ → Item → Type 0
StandsFor t i (Act k) = slice_get t.action_ids k ≡ Some i
StandsFor t i (Task v) = MatchOption (slice_get t.nodes v) ⊥ (λ n. n.id ≡ Some i)
StandsFor t i (Pre v) = ⊥

-- the action of an action line
abbrev pub IsActionOf : World → Action → GroundAction → Type 0
IsActionOf w a g = Says w a (primitive g.action) g.objects

-- the node of a decomposition line
pub record IsNodeOf (w : World) (t : PlanTree) (d : Decomposition) (n : Node) : Type 0 where
  pub id : n.id ≡ Some d.id
  pub line : n.line ≡ d.line
  pub number : ℕ
  pub task : n.task ≡ Some number
  pub says : Says w (head d) (compound number) n.objects
  pub method : n.method ≡ method_named w d.method
  pub children : AllZip (StandsFor t) d.children n.children

-- the node of the root line
pub record IsRootOf (t : PlanTree) (r : Root) (n : Node) : Type 0 where
  pub id : n.id ≡ None
  pub line : n.line ≡ r.line
  pub task : n.task ≡ None
  pub objects : n.objects ≡ []
  pub method : n.method ≡ None
  pub children : AllZip (StandsFor t) r.ids n.children

-- the node of this number is as said
abbrev pub NodeIs : PlanTree → (Node → Type 0) → ℕ → Type 0
NodeIs t Is v = MatchOption (slice_get t.nodes v) ⊥ Is

-- the nodes among items, by number
abbrev pub node_numbers : Item → List ℕ
node_numbers (Act k) = []
node_numbers (Task v) = v ∷ []
node_numbers (Pre v) = []

-- the nodes among the children of the nodes below n, those of the last of these nodes first
abbrev pub child_nodes : (ℕ → List Item) → ℕ → List ℕ
child_nodes children zero = []
child_nodes children (suc n) = flat_map node_numbers (children n) ++ child_nodes children n

-- the numbers below n, the greatest first
abbrev pub countdown : ℕ → List ℕ
countdown zero = []
countdown (suc n) = n ∷ countdown n

-- A tree of so many nodes below that of the root line, and so many actions: children stand before
-- parents, each is a child once, and every action and every node is reached from the root line.
-- Nodes are numbered level by level: where the children of the last node, of the node before it,
-- and so on down to node 0 are listed, their nodes are the numbers below that of the root line, the
-- greatest first
pub record IsNumberedTree (t : Tree) (nodes actions : ℕ) : Type 0 where
  pub tree : IsTree t
  pub child_once : (v : ℕ) → AllPairs ◌≢◌ (t.children v)
  pub numbers : child_nodes t.children (suc nodes) ≡ countdown nodes
  pub reached_lines : (v : ℕ) → v < nodes → Reached t (Task v)
  pub reached_actions : HasActions t actions

-- The tree of a plan: it has the plan's actions, a node for each decomposition line and one
-- for the root line, which name as their children what the lines name by ids; and its nodes
-- are a numbered tree
pub record IsTreeOf (w : World) (p : Plan) (t : PlanTree) : Type 0 where
  pub actions : AllZip (IsActionOf w) p.actions t.actions
  pub action_ids : t.action_ids ≡ map (λ a. a.id) p.actions
  pub action_lines : t.action_lines ≡ map (λ a. a.line) p.actions
  pub root : ℕ
  pub lines : List ℕ
  pub order : t.order ≡ root ∷ lines
  pub last : length t.nodes ≡ root + 1
  pub as_many : length lines ≡ root
  pub once : Once t.order
  pub every : (v : ℕ) → v < length t.nodes → Contains t.order v
  pub root_node : NodeIs t (IsRootOf t p.root) root
  pub line_nodes : AllZip (λ d v. NodeIs t (IsNodeOf w t d) v) p.decompositions lines
  pub shape : IsNumberedTree (tree_of t) root (length p.actions)

-- A tree of this world: that of a plan whose lines form a tree and fit the world
pub record IsTreeIn (w : World) (t : PlanTree) : Type 0 where
  pub plan : Plan
  pub forms : FormTree plan
  pub fits : FitWorld w plan
  pub is_tree : IsTreeOf w plan t
