use Rattle.hv_state.specs.Plans.{StateAt}
use Rattle.hv_state.proofs.DecisionLemmas.{true_decided, state_decided}
use Rattle.hv_state.proofs.laws.truth_is_decided.Goals as goal

pub returns : goal.returns
returns c = λ p types k f env. true_decided p.world.typing types (StateAt p k) (λ g. state_decided p types k g) f env
