use Rattle.hv_reading.proofs.SpellingLemmas.{typed_table, typed_variables_table}
use Rattle.hv_reading.proofs.laws.typed_lists_are_spelled.Goals as goal

pub returns-clause-names : goal.returns-clause-names
returns-clause-names c = typed_table

pub returns-clause-variables : goal.returns-clause-variables
returns-clause-variables c = typed_variables_table
