use Rattle.std.proofs.Common.{map, take}
use Rattle.std.specs.Rc.{rc_value}
use Rattle.std.specs.List.{AllZip}
use Rattle.hv_world.specs.MethodViews.{method_view}
use Rattle.hv_order.specs.inside.Sequencings.{IsSequencingOf}
use Rattle.hv_order.proofs.sequencing.all_shared.Given as goal

-- the sequencings so far are those of the first methods
abbrev pub invariant-loop-method : goal.invariant-loop-method
invariant-loop-method l = AllZip IsSequencingOf (map method_view (take l.method-index l.methods)) (map rc_value l.made.items)
