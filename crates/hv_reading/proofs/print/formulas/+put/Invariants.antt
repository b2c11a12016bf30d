use Rattle.std.proofs.Common.{◌≡◌, ◌++◌, drop, map}
use Rattle.hv_syntax.specs.Values.{formulas_of}
use Rattle.hv_reading.specs.Canonical.{spaced, formula_expressions}
use Rattle.hv_syntax.specs.Views.{formula_view}
use Rattle.hv_reading.proofs.print.formulas.+put.Given as goal

abbrev pub invariant-put_formulas-loop-formula : goal.invariant-put_formulas-loop-formula
invariant-put_formulas-loop-formula l =
    l.out.items ++ spaced (formula_expressions (formulas_of (map formula_view (drop l.formula-index l.formulas)))) ≡ l.initial.out.items ++ spaced (formula_expressions (formulas_of (map formula_view l.formulas)))
