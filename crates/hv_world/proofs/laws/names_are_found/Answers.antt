use Rattle.hv_world.proofs.OnceLemmas.{found_at, task_found, action_found}
use Rattle.hv_world.proofs.laws.names_are_found.Goals as goal

pub returns-clause-names : goal.returns-clause-names
returns-clause-names c = found_at

pub returns-clause-tasks : goal.returns-clause-tasks
returns-clause-tasks c w sound = task_found w sound.named.tasks

pub returns-clause-actions : goal.returns-clause-actions
returns-clause-actions c w sound = action_found w sound.named.tasks
