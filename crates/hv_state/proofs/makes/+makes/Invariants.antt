use Rattle.std.proofs.Common.{ℕ, ◌+◌, List, map, take}
use Rattle.hv_world.specs.Bindings.{GroundAtom}
use Rattle.hv_world.specs.Types.{Typing}
use Rattle.hv_world.specs.Values.{effects_of}
use Rattle.hv_world.specs.Views.{effect_view}
use Rattle.hv_state.specs.inside.Makings.{IsMadeBy}
use Rattle.hv_state.proofs.EffectLevels.{effect_levels, most_effect_levels}
use Rattle.hv_state.proofs.SomeLemmas.{SomeOf}
use Rattle.hv_state.proofs.makes.+makes.Given as goal

abbrev pub decreases-makes : goal.decreases-makes
decreases-makes l = effect_levels (effect_view l.effect.now)

abbrev pub decreases-one_makes : goal.decreases-one_makes
decreases-one_makes l = most_effect_levels (effects_of (map effect_view l.effects.now)) + 1

-- those so far make nothing
abbrev pub invariant-one_makes-loop-effect : goal.invariant-one_makes-loop-effect
invariant-one_makes-loop-effect l =
    (types : Typing) (env : List ℕ) (g : GroundAtom) → SomeOf (λ e. IsMadeBy types l.is_true g (effect_view e) env) (take l.effect-index l.effects) → ⊥
