use Rattle.hv_world.specs.inside.Bases.{TellsBases}
use Rattle.hv_world.proofs.bases.bases_in.Given as goal

abbrev pub invariant-loop-number : goal.invariant-loop-number
invariant-loop-number l = TellsBases l.bases.items l.graph
