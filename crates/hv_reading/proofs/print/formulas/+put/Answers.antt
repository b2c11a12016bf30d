use Rattle.std.proofs.Common.{◌≡◌, ◌++◌, rules, append_assoc, ap, ◌∙◌, arith}
use Rattle.hv_syntax.specs.Values.{imply}
use Rattle.hv_syntax.specs.Views.{formula_view}
use Rattle.hv_reading.proofs.FormulaLemmas.{view-Imply}
use Rattle.hv_reading.proofs.PrintLemmas.{step, end, grown, conjunction_of_some}
use Rattle.hv_reading.proofs.print.formulas.+put.Goals as goal

pub put_formula-returns-in_ok-push-in-Imply-2 : goal.put_formula-returns-in_ok-push-in-Imply-2
put_formula-returns-in_ok-push-in-Imply-2 t c =
    let seen : formula_view c.args.formula.now ≡ imply (formula_view c.in-Imply.premise.value) (formula_view c.in-Imply.conclusion.value) = ap formula_view c.in-Imply.is ∙ view-Imply _ _ in
    rw seen (search (rules, append_assoc))

pub put_conjunction-returns-in_ok-push-in-len1-up : goal.put_conjunction-returns-in_ok-push-in-len1-up
put_conjunction-returns-in_ok-push-in-len1-up t c =
    grown c.args.out.now.items
    (step _ c.in_ok-extend_from_slice-in-len1-up.ensures.items (step _ c.in_ok-put_formulas-in-len1-up.ensures (end c.in_ok-push-in-len1-up.ensures.items)))
    ∙ ap (λ x. c.args.out.now.items ++ x) (conjunction_of_some c.args.parts.now (omega (arith, c.in-len1-up.len_at_least)))
