use Rattle.std.proofs.Common.{ap, ◌∙◌, arith}
use Rattle.std.proofs.lemmas.Result.{err_from_is_err_and}
use Rattle.hv_reading.specs.Words.{head_of}
use Rattle.hv_reading.specs.inside.Formulas.{formula_of}
use Rattle.hv_syntax.specs.Views.{formula_view}
use Rattle.hv_reading.proofs.Lists.{one_indexed, two_indexed, read_more}
use Rattle.hv_reading.proofs.Exits.{exits}
use Rattle.hv_reading.proofs.FormulaLemmas.{and_read, and_fails, or_read, or_fails, not_read, imply_read, second_fails, quantified_read, not_one, not_two, not_quantified}
use Rattle.hv_reading.proofs.formula.+formula.Goals as goal

pub read_formulas-loop-e-preserved : goal.read_formulas-loop-e-preserved
read_formulas-loop-e-preserved t c =
    let l = c.loop-e in
    rw c.in_ok-push.ensures.items
    (read_more formula_of formula_view c.args.es.now l.e-index c.e-item.result l.parts.items c.in_ok-read_formula.field-0 _ (omega arith) c.e-item.is c.in_ok-read_formula.ensures l.invariant)

pub read_headed-returns-in_ok-read_formulas-in-And : goal.read_headed-returns-in_ok-read_formulas-in-And
read_headed-returns-in_ok-read_formulas-in-And t c = and_read _ _ c.args.others.now _ (c.in-And.ensures ∙ ap head_of c.name.ensures) c.in_ok-read_formulas-in-And.ensures

pub read_headed-returns-in_err-read_formulas-in-And : goal.read_headed-returns-in_err-read_formulas-in-And
read_headed-returns-in_err-read_formulas-in-And t c =
    let r = c.from_residual in
    exits formula_view _ _ _ _ (err_from_is_err_and r.result r.ensures.1) (and_fails _ _ c.args.others.now (c.in-And.ensures ∙ ap head_of c.name.ensures)) c.in_err-read_formulas-in-And.ensures

pub read_headed-returns-in_ok-read_formulas-in-Or : goal.read_headed-returns-in_ok-read_formulas-in-Or
read_headed-returns-in_ok-read_formulas-in-Or t c = or_read _ _ c.args.others.now _ (c.in-Or.ensures ∙ ap head_of c.name.ensures) c.in_ok-read_formulas-in-Or.ensures

pub read_headed-returns-in_err-read_formulas-in-Or : goal.read_headed-returns-in_err-read_formulas-in-Or
read_headed-returns-in_err-read_formulas-in-Or t c =
    let r = c.from_residual-in_err-read_formulas-in-Or in
    exits formula_view _ _ _ _ (err_from_is_err_and r.result r.ensures.1) (or_fails _ _ c.args.others.now (c.in-Or.ensures ∙ ap head_of c.name.ensures)) c.in_err-read_formulas-in-Or.ensures

pub read_negation-returns-then-others-ne1 : goal.read_negation-returns-then-others-ne1
read_negation-returns-then-others-ne1 t c = not_one c.args.others.now (λ e. c.if-others-ne1.true e)

pub read_negation-returns : goal.read_negation-returns
read_negation-returns t c =
    not_read c.args.others.now _ _ _ (one_indexed c.args.others.now _ c.if-others-ne1.false c.index-others-0.is) c.in_ok-part.ensures c.in_ok-new.ensures.ok

pub read_implication-returns-then-others-ne2 : goal.read_implication-returns-then-others-ne2
read_implication-returns-then-others-ne2 t c = not_two c.args.others.now (λ e. c.if-others-ne2.true e)

pub read_implication-returns : goal.read_implication-returns
read_implication-returns t c =
    imply_read c.args.others.now _ _ _ _ _ _ (two_indexed c.args.others.now _ _ c.if-others-ne2.false c.index-others-0.is c.index-others-1.is)
    c.in_ok-read_formula.ensures c.in_ok-premise.ensures.ok c.in_ok-read_formula-2.ensures c.in_ok-conclusion.ensures.ok

pub read_implication-returns-in_err-read_formula-2 : goal.read_implication-returns-in_err-read_formula-2
read_implication-returns-in_err-read_formula-2 t c =
    let r = c.from_residual-in_err-read_formula-2 in
    exits formula_view _ _ _ _ (err_from_is_err_and r.result r.ensures.1)
    (second_fails c.args.others.now _ _ (two_indexed c.args.others.now _ _ c.if-others-ne2.false c.index-others-0.is c.index-others-1.is))
    c.in_err-read_formula-2.ensures

pub read_quantified-returns-then-others-ne2 : goal.read_quantified-returns-then-others-ne2
read_quantified-returns-then-others-ne2 t c = not_quantified c.args.others.now (λ e. c.if-others-ne2.true e)

pub read_quantified-returns : goal.read_quantified-returns
read_quantified-returns t c =
    quantified_read c.args.others.now _ _ c.in_ok-variables.variables _ c.in_ok-new.field-0 (two_indexed c.args.others.now _ _ c.if-others-ne2.false c.index-others-0.is c.index-others-1.is)
    c.in_ok-variables.ensures c.in_ok-part.ensures c.in_ok-new.ensures.ok
