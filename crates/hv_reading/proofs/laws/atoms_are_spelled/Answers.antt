use Rattle.hv_reading.proofs.SpellingLemmas.{term_table, atom_table}
use Rattle.hv_reading.proofs.laws.atoms_are_spelled.Goals as goal

pub returns-clause-terms : goal.returns-clause-terms
returns-clause-terms c = term_table

pub returns-clause-atoms : goal.returns-clause-atoms
returns-clause-atoms c = atom_table
