use Rattle.hv_reading.proofs.FieldPairs.{lists_table, found_table, nothing_table}
use Rattle.hv_reading.proofs.laws.fields_are_pairs.Goals as goal

pub returns-clause-lists : goal.returns-clause-lists
returns-clause-lists c = lists_table

pub returns-clause-found : goal.returns-clause-found
returns-clause-found c = found_table

pub returns-clause-nothing : goal.returns-clause-nothing
returns-clause-nothing c = nothing_table
