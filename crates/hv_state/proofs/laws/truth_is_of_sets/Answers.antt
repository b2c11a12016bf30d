use Rattle.std.specs.List.{Contains}
use Rattle.hv_state.proofs.PlanLemmas.{true_same}
use Rattle.hv_state.proofs.laws.truth_is_of_sets.Goals as goal

pub returns : goal.returns
returns c = λ w s t same f env. true_same w (Contains s) (Contains t) same f env
