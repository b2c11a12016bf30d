use Rattle.std.specs.List.{Contains}
use Rattle.hv_state.proofs.NeededLemmas.{needed_true}
use Rattle.hv_state.proofs.laws.needed_atoms_are_true.Goals as goal

pub returns : goal.returns
returns c = λ w s f env h. needed_true w (Contains s) env f h
