-- The shape of a plan: what stands below what, with a number for each node.
use Rattle.std.specs.Prelude.{◌≡◌, ◌+◌, ◌↔◌, ℕ, List, [], length, map, slice_get, Option, Some, None, option_and_then}
use Rattle.std.specs.List.{AllZip}
use Rattle.hv_plan.specs.Values.{Plan}
use Rattle.hv_plan.specs.Trees.{Item, Act, Task, Pre, Tree}
use Rattle.hv_plan.specs.PlanTrees.{IsNumberedTree}
use Rattle.hv_plan.specs.TreeViews.{child_view}
use Rattle.hv_plan.specs.declared.shape.nodes.Shape as code

-- The place in the list of decomposition lines of each node, the node of the root line aside; the
-- number of the node of each decomposition line; and the children of each node by number, those of
-- the root line last
pub record Shape : Type 0 where
  pub lines : List ℕ
  pub numbers : List ℕ
  pub children : List (List Item)

abbrev pub shape_view : code.Shape → Shape
shape_view s = record {
  lines = s.lines.items;
  numbers = s.numbers.items;
  children = map (map child_view) s.children;
}

-- the list at a place, empty where there is none
abbrev pub items_in : Option (List Item) → List Item
items_in None = []
items_in (Some xs) = xs

-- the children of the node of a number
abbrev pub children_of_node : Shape → ℕ → List Item
children_of_node s v = items_in (slice_get s.children v)

-- the number of the node of the root line
abbrev pub root_node : Plan → ℕ
root_node p = length p.decompositions

-- which node stands below which
abbrev pub shape_tree : Plan → Shape → Tree
shape_tree p s =
    record { initial_tasks = children_of_node s (root_node p); children = children_of_node s }

-- the id of the decomposition line at a place
abbrev pub line_id : Plan → ℕ → Option ℕ
line_id p k = slice_get (map (λ d. d.id) p.decompositions) k

-- the item that an id stands for: the action, or the node, of the line that begins with it
abbrev pub Stands : Plan → Shape → ℕ → Item → Type 0
Stands p s i (Act k) = slice_get (map (λ a. a.id) p.actions) k ≡ Some i
Stands p s i (Task v) = option_and_then (line_id p) (slice_get s.lines v) ≡ Some i
Stands p s i (Pre v) = ⊥

-- Nodes and decomposition lines are numbered one by one; the children of each node are what the
-- line names by ids; and the nodes are a numbered tree
pub record IsShape (p : Plan) (s : Shape) : Type 0 where
  pub as_many_lines : length s.lines ≡ length p.decompositions
  pub as_many_numbers : length s.numbers ≡ length p.decompositions
  pub as_many_nodes : length s.children ≡ length p.decompositions + 1
  pub numbered : (v k : ℕ) → (slice_get s.lines v ≡ Some k) ↔ (slice_get s.numbers k ≡ Some v)
  pub of_root : AllZip (Stands p s) p.root.ids (children_of_node s (root_node p))
  pub of_lines : AllZip
      (λ d v. AllZip (Stands p s) d.children (children_of_node s v)) p.decompositions s.numbers
  pub shape : IsNumberedTree (shape_tree p s) (length p.decompositions) (length p.actions)
