use Rattle.std.proofs.Common.{◌≤◌, ◌+◌, ◌-◌}
use Rattle.hv_world.specs.Bindings.{objects_in}
use Rattle.hv_world.specs.Views.{formula_view}
use Rattle.hv_state.specs.Changes.{AreFalse}
use Rattle.hv_state.proofs.trace.Trace.first_true.Given as goal

-- the formula was false so far
abbrev pub invariant-loop-at : goal.invariant-loop-at
invariant-loop-at g l = (l.from ≤ l.at) × AreFalse l.self (formula_view l.formula) (objects_in l.binding) l.from l.at

abbrev pub decreases-loop-at : goal.decreases-loop-at
decreases-loop-at g l = l.upto + 1 - l.at
