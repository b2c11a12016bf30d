use Rattle.hv_syntax.specs.NetworkViews.{subtask_view as said_subtask}
use Rattle.hv_world.specs.StaticRules.{subtask_faults}
use Rattle.hv_world.specs.inside.Tables.{known_by, scope_view}
use Rattle.hv_world.specs.Views.{subtask_view}
use Rattle.hv_world.specs.Worlds.{task_in}
use Rattle.hv_world.proofs.CheckedLemmas.{AreChecked}
use Rattle.hv_world.proofs.intern.networks.checked_subtasks.Given as goal

abbrev pub invariant-loop-subtask : goal.invariant-loop-subtask
invariant-loop-subtask l = AreChecked said_subtask (λ x. task_in (known_by l.tables) (scope_view l.scope) x.task) subtask_view (subtask_faults (known_by l.tables) l.side (scope_view l.scope)) l.subtasks l.subtask-index l.numbered.value.items l.numbered.fault
