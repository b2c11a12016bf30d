use Rattle.hv_world.specs.Bindings.{ground_actions_view}
use Rattle.hv_world.specs.WorldViews.{world_view}
use Rattle.hv_state.specs.Plans.{plan}
use Rattle.hv_state.proofs.NoteLemmas.{IsSoFar}
use Rattle.hv_state.proofs.trace.Trace.run.Given as goal

-- the plan so far
abbrev pub invariant-loop-number : goal.invariant-loop-number
invariant-loop-number g l = IsSoFar (plan (world_view l.world) (ground_actions_view l.actions)) l.number (g.S.State.atoms l.first) l.changes
