-- What a tree that was built says.
use Rattle.std.specs.Prelude.{◌∷◌, length, map}
use Rattle.hv_world.specs.Bindings.{ground_actions_view}
use Rattle.hv_plan.specs.inside.FitViews.{decomposed_lines}
use Rattle.hv_plan.specs.inside.NodeViews.{nodes_of}
use Rattle.hv_plan.specs.PlanTrees.{PlanTree}
use Rattle.hv_plan.specs.inside.ShapeViews.{shape_view}
use Rattle.hv_plan.specs.declared.tree.Tree as code

abbrev pub tree_view : code.Tree → PlanTree
tree_view t = record {
  actions = ground_actions_view t.actions;
  action_ids = map (λ o. o.id) t.action_origins.items;
  action_lines = map (λ o. o.line) t.action_origins.items;
  nodes = nodes_of t.root_line t.line_origins.items (shape_view t.shape) (decomposed_lines t.said);
  order = length t.shape.lines.items ∷ t.shape.numbers.items;
}
