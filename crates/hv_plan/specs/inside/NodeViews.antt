-- The nodes of the lines of a plan, by where they come from and what the lines say.
use Rattle.std.specs.Prelude.{◌+◌, ℕ, List, [], ◌∷◌, Option, Some, None, slice_get}
use Rattle.hv_plan.specs.declared.origin.Origin.{Origin}
use Rattle.hv_plan.specs.Trees.{Item}
use Rattle.hv_plan.specs.PlanTrees.{Node}
use Rattle.hv_plan.specs.inside.ShapeViews.{Shape, children_of_node}
use Rattle.hv_plan.specs.inside.FitViews.{Decomposed}

-- the node of a decomposition line that says this, with these children
abbrev pub node_of_line : Origin → Decomposed → List Item → Node
node_of_line o x xs = record {
  id = Some o.id;
  line = o.line;
  task = Some x.task;
  objects = x.objects;
  method = Some x.method;
  children = xs;
}

-- the node of the root line of this number, with these children
abbrev pub node_of_root : ℕ → List Item → Node
node_of_root line xs =
    record { id = None; line = line; task = None; objects = []; method = None; children = xs }

-- the node of a line that says something, and that of the root line, of this number, where there is
-- no such line
abbrev pub node_of : ℕ → Option Origin → Option Decomposed → List Item → Node
node_of root (Some o) (Some x) xs = node_of_line o x xs
node_of root (Some o) None xs = node_of_root root xs
node_of root None x xs = node_of_root root xs

-- the nodes from a number on: those of the lines at these places, and then that of the root line
abbrev pub nodes_from : ℕ → List Origin → Shape → List Decomposed → ℕ → List ℕ → List Node
nodes_from root os s xs v [] = node_of root None None (children_of_node s v) ∷ []
nodes_from root os s xs v (k ∷ ks) =
    node_of root (slice_get os k) (slice_get xs k) (children_of_node s v)
    ∷ nodes_from root os s xs (v + 1) ks

-- the nodes of a plan of this shape, whose lines come from there and say this
abbrev pub nodes_of : ℕ → List Origin → Shape → List Decomposed → List Node
nodes_of root os s xs = nodes_from root os s xs 0 s.lines
