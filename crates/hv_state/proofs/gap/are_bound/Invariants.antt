use Rattle.std.proofs.Common.{take}
use Rattle.std.specs.List.{All}
use Rattle.hv_world.specs.Bindings.{objects_in}
use Rattle.hv_world.specs.Views.{term_view}
use Rattle.hv_state.specs.inside.Gaps.{IsBound}
use Rattle.hv_state.proofs.gap.are_bound.Given as goal

-- those so far stand for objects
abbrev pub invariant-loop-term : goal.invariant-loop-term
invariant-loop-term l = All (λ t. IsBound (objects_in l.binding) (term_view t)) (take l.term-index l.terms)
