-- What lists the candidates of a node of a plan's tree.
use Rattle.std.specs.Prelude.{◌≡◌, ◌≤◌, ℕ, true, List, map, slice_get, Option, Some, None}
use Rattle.std.specs.List.{filter}
use Rattle.hv_world.specs.Bindings.{GroundAtom}
use Rattle.hv_world.specs.Worlds.{World, Method}
use Rattle.hv_plan.specs.PlanTrees.{Node, PlanTree}
use Rattle.hv_plan.specs.TreeViews.{child_view}
use Rattle.hv_plan.specs.declared.tree.Child.{Child}
use Rattle.hv_match.specs.Candidates.{HasAllAt, node_method}
use Rattle.hv_state.specs.Ever.{is_listed}
use Rattle.hv_state.specs.Plans.{StateAt}
use Rattle.hv_order.specs.Settings.{Setting, last}
use Rattle.hv_order.specs.inside.PlanFacts.{FitsNode}
use Rattle.hv_order.specs.inside.Arrangements.{Arrangement}
use Rattle.hv_order.specs.inside.Sequencings.{IsSequencing}
use Rattle.hv_order.specs.inside.Children.{child_at}
use Rattle.hv_order.specs.inside.Spans.{is_in_order, AreSpans}
use Rattle.hv_order.specs.declared.lister.Lister.{Lister}
use Rattle.hv_order.specs.declared.sequencing.Sequencing.{Sequencing}

-- a matching and a binding of a node, arranged
abbrev pub arranged_by : ℕ → List Child → Sequencing → List ℕ × List ℕ → Arrangement
arranged_by v children s c =
    record {
      node = v;
      objects = c.1;
      children = map (child_at children) c.0;
      order = s.order.items;
      direct = s.direct;
    }

-- those that are still to come, in whatever order their children stand
abbrev pub all_coming : Lister → List Arrangement
all_coming l = map (arranged_by l.node l.children.now l.sequencing.value) l.coming.coming

-- the candidates that are still to come: the children of each stand in the order of their subtasks
abbrev pub still_listed : Lister → List Arrangement
still_listed l = filter (is_in_order l.spans.value) (all_coming l)

-- the one that is lent, with these children for its subtasks
abbrev pub arranged_with : Lister → List Child → Arrangement
arranged_with l cs =
    record {
      node = l.node;
      objects = l.coming.objects;
      children = cs;
      order = l.sequencing.value.order.items;
      direct = l.sequencing.value.direct;
    }

-- All possible candidates of the node of number v are to come: these are the node's children, and
-- the subtasks are laid out as its method allows, and the spans are those of the tree
pub record ListsAll (w : World) (t : PlanTree) (v : ℕ) (ever : Option (List (List ℕ)))
    (l : Lister) : Type 0 where
  pub of_node : l.node ≡ v
  pub node : Node
  pub has_node : slice_get t.nodes v ≡ Some node
  pub method : Method
  pub has_method : node_method w node ≡ Some method
  pub children : map child_view l.children.now ≡ node.children
  pub sequencing : IsSequencing method.network.order l.sequencing.value
  pub spans : AreSpans t l.spans.value
  pub all : HasAllAt w t v ever l.coming

-- each atom that is true in a state from a start on in which the node of number v may begin has its
-- row among these
abbrev pub HasAllFrom : Setting → ℕ → ℕ → List (List ℕ) → Type 0
HasAllFrom q v start rows =
    (k f : ℕ) (g : GroundAtom) → start ≤ k → k ≤ last q → FitsNode q v k f → StateAt q.plan k g
    → is_listed rows g ≡ true

-- so it has where rows are given, and preconditions count then
abbrev pub IsEver : Setting → ℕ → ℕ → Option (List (List ℕ)) → Type 0
IsEver q v start None = Unit {0}
IsEver q v start (Some rows) = (q.is_with ≡ true) × HasAllFrom q v start rows
