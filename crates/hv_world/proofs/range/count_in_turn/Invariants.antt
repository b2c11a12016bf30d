use Rattle.hv_world.specs.Types.{AreBelow, object_numbers}
use Rattle.hv_world.proofs.range.count_in_turn.Given as goal

-- those so far are below the one, and not below the first
abbrev pub invariant-loop-end : goal.invariant-loop-end
invariant-loop-end l = AreBelow (object_numbers l.objects) l.number l.until l.end
