use Rattle.hv_reading.proofs.PartSpellings.{subtasks_table, pairs_table, constraints_table}
use Rattle.hv_reading.proofs.laws.networks_are_spelled.Goals as goal

pub returns-clause-subtasks : goal.returns-clause-subtasks
returns-clause-subtasks c = subtasks_table

pub returns-clause-ordering : goal.returns-clause-ordering
returns-clause-ordering c = pairs_table

pub returns-clause-constraints : goal.returns-clause-constraints
returns-clause-constraints c = constraints_table
