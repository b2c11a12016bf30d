use Rattle.std.proofs.Common.{◌+◌, ◌++◌, ◌∷◌, [], length, map, take}
use Rattle.hv_world.specs.Values.{effects_of}
use Rattle.hv_world.specs.Views.{effect_view, type_number}
use Rattle.hv_world.specs.Bindings.{objects_in}
use Rattle.hv_world.specs.WorldViews.{world_view}
use Rattle.hv_state.specs.Truth.{ForSome}
use Rattle.hv_state.specs.inside.Makings.{IsMadeBy, IsMadeBySome}
use Rattle.hv_state.specs.inside.Takings.{HaveBeenTaken}
use Rattle.hv_state.proofs.EffectLevels.{effect_levels, most_effect_levels}
use Rattle.hv_state.proofs.SomeLemmas.{SomeOf}
use Rattle.hv_state.proofs.made.+made.Given as goal

abbrev pub decreases-take_made_by : goal.decreases-take_made_by
decreases-take_made_by g l = effect_levels (effect_view l.effect.now)

abbrev pub decreases-take_made : goal.decreases-take_made
decreases-take_made g l = most_effect_levels (effects_of (map effect_view l.effects.now)) + 1

abbrev pub decreases-take_made_for_each : goal.decreases-take_made_for_each
decreases-take_made_for_each g l = most_effect_levels (effects_of (map effect_view l.effects.now)) + length l.of.now + 2

-- the atoms of the effects so far
abbrev pub invariant-take_made-loop-effect : goal.invariant-take_made-loop-effect
invariant-take_made-loop-effect g l =
    HaveBeenTaken (g.T.Take.takes l.way) (λ h. SomeOf (λ e. IsMadeBy (world_view l.world).typing l.is_true h (effect_view e) (objects_in l.binding)) (take l.effect-index l.effects)) l.initial.into l.into

-- the atoms for the objects so far
abbrev pub invariant-take_made_for_each-loop-object : goal.invariant-take_made_for_each-loop-object
invariant-take_made_for_each-loop-object g l =
    HaveBeenTaken (g.T.Take.takes l.way) (λ h. SomeOf (λ o. ForSome (world_view l.world).typing (IsMadeBySome (world_view l.world).typing l.is_true h (effects_of (map effect_view l.effects))) (map type_number l.others) (objects_in l.binding ++ o.0 ∷ [])) (take l.object-index l.object-items)) l.initial.into l.into
