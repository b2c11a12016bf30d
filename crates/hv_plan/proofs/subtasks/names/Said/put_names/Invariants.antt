use Rattle.std.proofs.Common.{◌≡◌, drop, map}
use Rattle.hv_world.specs.Bindings.{ground_actions_view}
use Rattle.hv_world.specs.Views.{name_view}
use Rattle.hv_plan.specs.inside.FitViews.{decomposed_lines, item_name}
use Rattle.hv_plan.specs.Forms.{every, behind}
use Rattle.hv_plan.specs.TreeViews.{child_view}
use Rattle.hv_plan.proofs.subtasks.names.Said.put_names.Given as goal

-- the names so far and those of the children that are left are those of all children
abbrev pub invariant-loop-child : goal.invariant-loop-child
invariant-loop-child l =
    let name = item_name (ground_actions_view l.self.actions.now) (decomposed_lines l.self.lines.now) l.self.places.now in
    behind (map name_view l.names.items) (every name (map child_view (drop l.child-index l.children)))
    ≡ every name (map child_view l.children)
