use Rattle.std.proofs.Common.{map, subst, arith}
use Rattle.std.proofs.lemmas.Result.{on_ok_weaker}
use Rattle.hv_syntax.specs.Values.{formulas_of}
use Rattle.hv_syntax.specs.Views.{variable_view, formula_view}
use Rattle.hv_world.specs.Eithers.{formula_variables, formulas_variables}
use Rattle.hv_world.specs.inside.Gathers.{lists_in, AreGathered}
use Rattle.hv_world.proofs.GatherLemmas.{imply_variables, gathered_both, gathered_next, gathered_end, formulas_flat}
use Rattle.hv_world.proofs.tables.gather.+formula.Goals as goal

pub add_formula-returns-in_ok-add_formula-in-Imply : goal.add_formula-returns-in_ok-add_formula-in-Imply
add_formula-returns-in_ok-add_formula-in-Imply t c =
    let a = lists_in c.args.lists.now in
    let b = lists_in c.add_formula-in-Imply.new.lists in
    let d = lists_in c.add_formula-in-Imply-2.new.lists in
    let g = c.deref-in-Imply.result.now in
    let h = c.deref-in-Imply-2.result.now in
    let are = imply_variables c.args.formula.now c.in-Imply.premise c.in-Imply.conclusion g h c.in-Imply.is c.deref-in-Imply.ensures c.deref-in-Imply-2.ensures in
    on_ok_weaker {P = AreGathered b (formula_variables (formula_view h)) d} {Q = AreGathered a (formula_variables (formula_view c.args.formula.now)) d} c.add_formula-in-Imply-2.result
    (λ next. subst (λ vs. AreGathered a vs d) are (gathered_both a b d (formula_variables (formula_view g)) (formula_variables (formula_view h)) c.in_ok-add_formula-in-Imply.ensures next))
    c.add_formula-in-Imply-2.ensures

pub add_quantified-returns : goal.add_quantified-returns
add_quantified-returns t c =
    gathered_both (lists_in c.args.lists.now) (lists_in c.add_variables.new.lists) (lists_in c.add_formula.new.lists) (map variable_view c.args.variables.now) (formula_variables (formula_view c.args.part.now))
    c.in_ok-add_variables.ensures c.in_ok-add_formula.ensures

pub add_formulas-loop-formula-preserved : goal.add_formulas-loop-formula-preserved
add_formulas-loop-formula-preserved t c =
    let l = c.loop-formula in
    gathered_next formula_view formula_variables c.args.formulas.now l.formula-index (lists_in c.args.lists.now) (lists_in l.lists) c.formula-item.result (lists_in c.add_formula.new.lists) (omega arith) c.formula-item.is l.invariant c.in_ok-add_formula.ensures

pub add_formulas-returns : goal.add_formulas-returns
add_formulas-returns t c =
    let l = c.loop-formula in
    let xs = c.args.formulas.now in
    gathered_end formula_view formula_variables xs l.formula-index (lists_in c.args.lists.now) (lists_in l.lists) (formulas_variables (formulas_of (map formula_view xs))) c.loop-formula-test.false (formulas_flat (map formula_view xs)) l.invariant
