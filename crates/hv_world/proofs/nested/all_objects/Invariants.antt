use Rattle.hv_world.specs.inside.Lines.{AreAll}
use Rattle.hv_world.proofs.nested.all_objects.Given as goal

-- the objects so far stand in the line
abbrev pub invariant-loop-number : goal.invariant-loop-number
invariant-loop-number l = AreAll l.number l.all
