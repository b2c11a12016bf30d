use Rattle.std.proofs.Common.{length, take}
use Rattle.std.specs.List.{All}
use Rattle.hv_world.specs.Bindings.{objects_in}
use Rattle.hv_world.specs.Views.{term_view}
use Rattle.hv_state.specs.inside.Lacks.{IsOther}
use Rattle.hv_state.proofs.lacks.are_other.Given as goal

-- those so far are others
abbrev pub invariant-loop-term : goal.invariant-loop-term
invariant-loop-term l = All (λ t. IsOther (length (objects_in l.binding)) (term_view t)) (take l.term-index l.terms)
