use Rattle.std.proofs.Common.{◌≡◌, ℕ, ◌+◌, List, [], map, take}
use Rattle.hv_world.specs.Bindings.{GroundAtom}
use Rattle.hv_world.specs.Types.{Typing}
use Rattle.hv_world.specs.Values.{formulas_of}
use Rattle.hv_world.specs.Views.{formula_view}
use Rattle.hv_state.specs.Changes.{Mentions}
use Rattle.hv_state.specs.inside.Histories.{kept}
use Rattle.hv_state.proofs.Levels.{levels, most_levels}
use Rattle.hv_state.proofs.SomeLemmas.{SomeOf}
use Rattle.hv_state.proofs.next.+may_change.Given as goal

abbrev pub decreases-may_change : goal.decreases-may_change
decreases-may_change l = levels (formula_view l.formula.now)

abbrev pub decreases-one_may_change : goal.decreases-one_may_change
decreases-one_may_change l = most_levels (formulas_of (map formula_view l.parts.now)) + 1

-- those so far are still
abbrev pub invariant-one_may_change-loop-part : goal.invariant-one_may_change-loop-part
invariant-one_may_change-loop-part l =
    (types : Typing) (env : List ℕ) (g : GroundAtom) → SomeOf (λ f. Mentions types g (formula_view f) env) (take l.part-index l.parts) → kept l.changes g ≡ []
