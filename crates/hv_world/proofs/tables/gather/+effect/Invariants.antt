use Rattle.std.proofs.Common.{map, take}
use Rattle.std.specs.List.{flat_map}
use Rattle.hv_syntax.specs.Views.{item_view}
use Rattle.hv_world.specs.Eithers.{item_variables}
use Rattle.hv_world.specs.inside.Gathers.{lists_in, AreGathered}
use Rattle.hv_world.proofs.tables.gather.+effect.Given as goal

abbrev pub invariant-add_effect-loop-item : goal.invariant-add_effect-loop-item
invariant-add_effect-loop-item l = AreGathered (lists_in l.initial.lists) (flat_map item_variables (map item_view (take l.item-index l.items))) (lists_in l.lists)
