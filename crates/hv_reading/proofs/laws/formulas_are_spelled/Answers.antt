use Rattle.hv_reading.proofs.SpellingLemmas.{formula_table}
use Rattle.hv_reading.proofs.laws.formulas_are_spelled.Goals as goal

pub returns : goal.returns
returns c = formula_table
