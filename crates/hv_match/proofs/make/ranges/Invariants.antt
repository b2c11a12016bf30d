use Rattle.std.proofs.Common.{map, take}
use Rattle.hv_world.specs.Ranges.{range_view}
use Rattle.hv_world.specs.Views.{type_number}
use Rattle.hv_world.specs.WorldViews.{world_view}
use Rattle.hv_match.specs.inside.Ranges.{AreRanges}
use Rattle.hv_match.proofs.make.ranges.Given as goal

abbrev pub invariant-loop-of : goal.invariant-loop-of
invariant-loop-of l = AreRanges (world_view l.world).typing (map range_view l.ranges.items) (map type_number (take l.of-index l.types))
