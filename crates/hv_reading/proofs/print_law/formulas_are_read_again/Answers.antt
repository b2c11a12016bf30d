use Rattle.std.proofs.Common.{subst}
use Rattle.std.specs.Prelude.{IfSome}
use Rattle.hv_reading.proofs.AgainFormulas.{IsFormulaAgain, formula_again}
use Rattle.hv_reading.proofs.print_law.formulas_are_read_again.Goals as goal

pub returns : goal.returns
returns c = λ e f is. subst (λ o. IfSome o IsFormulaAgain) is (formula_again e)
