use Rattle.std.proofs.Common.{◌<◌, ◌+◌, map, rules}
use Rattle.hv_world.specs.Values.{effects_of}
use Rattle.hv_world.specs.Views.{effect_view}
use Rattle.hv_state.proofs.EffectLevels.{effect_levels, most_effect_levels, effect_below}
use Rattle.hv_state.proofs.lacks.+effects_lack_next.Goals as goal

pub effects_lack_next-effect_lacks_next-requires : goal.effects_lack_next-effect_lacks_next-requires
effects_lack_next-effect_lacks_next-requires t c =
    let below : effect_levels (effect_view c.effect-item.result) < most_effect_levels (effects_of (map effect_view c.args.effects.now)) + 1 = effect_below _ _ _ c.loop-effect-test.true c.effect-item.is in
    search (rules, below)
