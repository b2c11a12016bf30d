-- What the nodes of the code say.
use Rattle.std.specs.Prelude.{ℕ, map, Option, Some, None}
use Rattle.hv_world.specs.Bindings.{object_number}
use Rattle.hv_plan.specs.Trees.{Item, Act, Task}
use Rattle.hv_plan.specs.PlanTrees.{Node}
use Rattle.hv_plan.specs.declared.tree.Child as code_child
use Rattle.hv_plan.specs.declared.tree.Child.TheVariants as children
use Rattle.hv_plan.specs.declared.tree.Head as code_head
use Rattle.hv_plan.specs.declared.tree.Head.TheVariants as heads
use Rattle.hv_plan.specs.declared.tree.Node as code_node

abbrev pub child_view : code_child.Child → Item
child_view (children.Action k) = Act k
child_view (children.Node v) = Task v

-- what the line of a node says
abbrev pub head_id : code_head.Head → Option ℕ
head_id (heads.Root line) = None
head_id (heads.Decomposition line id task method) = Some id

abbrev pub head_line : code_head.Head → ℕ
head_line (heads.Root line) = line
head_line (heads.Decomposition line id task method) = line

abbrev pub head_task : code_head.Head → Option ℕ
head_task (heads.Root line) = None
head_task (heads.Decomposition line id task method) = Some task.0

abbrev pub head_method : code_head.Head → Option ℕ
head_method (heads.Root line) = None
head_method (heads.Decomposition line id task method) = Some method.0

abbrev pub node_view : code_node.Node → Node
node_view n = record {
  id = head_id n.head;
  line = head_line n.head;
  task = head_task n.head;
  objects = map object_number n.objects.now;
  method = head_method n.head;
  children = map child_view n.children.now;
}
