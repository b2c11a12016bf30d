use Rattle.std.proofs.Common.{◌≡◌, Option, Some, None, IsSome}
use Rattle.hv_world.specs.Worlds.{Method}
use Rattle.hv_world.specs.WorldViews.{world_view}
use Rattle.hv_plan.specs.BuiltTrees.{tree_view}
use Rattle.hv_match.proofs.Cited.{has_method}
use Rattle.hv_order.proofs.node_methods.method_of.Goals as goal

not_none : (o : Option Method) → None ≡ o → IsSome o → ⊥
not_none None e some = cc
not_none (Some m) e some = cc

pub unreachable-requires : goal.unreachable-requires
unreachable-requires c =
    not_none _ (rw c.in-None.is at c.method_if.ensures)
    (has_method (world_view c.args.world.now) (tree_view c.args.tree.now) c.requires.tree c.args.number c.requires.number)
