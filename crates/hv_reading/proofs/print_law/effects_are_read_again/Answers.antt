use Rattle.std.proofs.Common.{subst}
use Rattle.std.specs.Prelude.{IfSome}
use Rattle.hv_reading.proofs.AgainEffects.{IsEffectAgain, effect_again}
use Rattle.hv_reading.proofs.print_law.effects_are_read_again.Goals as goal

pub returns : goal.returns
returns c = λ e f is. subst (λ o. IfSome o IsEffectAgain) is (effect_again e)
