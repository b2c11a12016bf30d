use Rattle.std.proofs.Common.{map, take}
use Rattle.std.specs.List.{AllZip}
use Rattle.hv_world.specs.MethodViews.{method_view}
use Rattle.hv_world.specs.WorldViews.{world_view}
use Rattle.hv_match.specs.inside.Ranges.{IsTableOf}
use Rattle.hv_match.proofs.matcher.tables.Given as goal

abbrev pub invariant-loop-method : goal.invariant-loop-method
invariant-loop-method l = AllZip (IsTableOf (world_view l.world)) (map method_view (take l.method-index l.methods)) l.tables.items
