use Rattle.std.proofs.Common.{◌+◌, ◌++◌, ◌∷◌, [], length, map, take}
use Rattle.hv_world.specs.Values.{formulas_of}
use Rattle.hv_world.specs.Views.{formula_view, type_number}
use Rattle.hv_world.specs.Bindings.{objects_in}
use Rattle.hv_world.specs.WorldViews.{world_view}
use Rattle.hv_state.specs.Truth.{ForSome}
use Rattle.hv_state.specs.Changes.{Mentions}
use Rattle.hv_state.specs.inside.Histories.{IsNext}
use Rattle.hv_state.proofs.Levels.{levels, most_levels}
use Rattle.hv_state.proofs.SomeLemmas.{SomeOf}
use Rattle.hv_state.proofs.next.+next_change.Given as goal

abbrev pub decreases-next_change : goal.decreases-next_change
decreases-next_change l = levels (formula_view l.formula.now)

abbrev pub decreases-next_of_parts : goal.decreases-next_of_parts
decreases-next_of_parts l = most_levels (formulas_of (map formula_view l.parts.now)) + 1

abbrev pub decreases-next_of_choices : goal.decreases-next_of_choices
decreases-next_of_choices l = levels (formula_view l.formula.now) + length l.of.now + 2

abbrev pub decreases-next_of_some : goal.decreases-next_of_some
decreases-next_of_some l = levels (formula_view l.formula.now) + length l.of.now + 1

-- the first of those so far
abbrev pub invariant-next_of_parts-loop-part : goal.invariant-next_of_parts-loop-part
invariant-next_of_parts-loop-part l =
    IsNext l.changes l.k l.end (λ g. SomeOf (λ f. Mentions (world_view l.world).typing g (formula_view f) (objects_in l.binding)) (take l.part-index l.parts)) l.until

abbrev pub invariant-next_of_some-loop-object : goal.invariant-next_of_some-loop-object
invariant-next_of_some-loop-object l =
    IsNext l.changes l.k l.end (λ g. SomeOf (λ o. ForSome (world_view l.world).typing (Mentions (world_view l.world).typing g (formula_view l.formula)) (map type_number l.others) (objects_in l.binding ++ o.0 ∷ [])) (take l.object-index l.object-items)) l.until
