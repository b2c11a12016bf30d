use Rattle.hv_world.specs.inside.Lines.{AreEntered}
use Rattle.hv_world.proofs.nested.tops.Given as goal

abbrev pub invariant-loop-number : goal.invariant-loop-number
invariant-loop-number l = AreEntered l.waiting.items
