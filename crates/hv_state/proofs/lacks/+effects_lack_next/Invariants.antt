use Rattle.std.proofs.Common.{◌+◌, length, map, drop}
use Rattle.hv_world.specs.Bindings.{objects_in}
use Rattle.hv_world.specs.Values.{effects_of}
use Rattle.hv_world.specs.Views.{effect_view}
use Rattle.hv_state.specs.inside.Lacks.{EffectsLack}
use Rattle.hv_state.proofs.EffectLevels.{effect_levels, most_effect_levels}
use Rattle.hv_state.proofs.lacks.+effects_lack_next.Given as goal

abbrev pub decreases-effect_lacks_next : goal.decreases-effect_lacks_next
decreases-effect_lacks_next l = effect_levels (effect_view l.effect.now)

abbrev pub decreases-effects_lack_next : goal.decreases-effects_lack_next
decreases-effects_lack_next l = most_effect_levels (effects_of (map effect_view l.effects.now)) + 1

-- what is left decides
abbrev pub invariant-effects_lack_next-loop-effect : goal.invariant-effects_lack_next-loop-effect
invariant-effects_lack_next-loop-effect l =
    EffectsLack (length (objects_in l.binding)) (effects_of (map effect_view (drop l.effect-index l.effects))) → EffectsLack (length (objects_in l.binding)) (effects_of (map effect_view l.effects))
