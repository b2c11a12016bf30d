use Rattle.std.proofs.Common.{ap, ◌∙◌, map, arith}
use Rattle.hv_syntax.specs.Views.{variable_view, formula_view as said_formula}
use Rattle.hv_world.specs.Known.{variables}
use Rattle.hv_world.specs.Scopes.{inside}
use Rattle.hv_world.specs.StaticRules.{variable_faults, formula_faults}
use Rattle.hv_world.specs.inside.Tables.{known_by, scope_view}
use Rattle.hv_world.specs.Views.{formula_view}
use Rattle.hv_world.specs.Worlds.{formula_in}
use Rattle.hv_world.specs.Faults.{least}
use Rattle.hv_world.specs.Values.{formulas_of}
use Rattle.hv_world.proofs.CheckLemmas.{imply_fault}
use Rattle.hv_world.proofs.FaultLemmas.{least-both}
use Rattle.hv_world.proofs.InternLemmas.{each_formula_in, each_formula_fault}
use Rattle.hv_world.proofs.CheckedLemmas.{one_more, all_checked}
use Rattle.hv_world.proofs.intern.formulas.+intern.Goals as goal

pub checked_formulas-loop-formula-preserved : goal.checked_formulas-loop-formula-preserved
checked_formulas-loop-formula-preserved t c =
    let l = c.loop-formula in
    let a = c.args in
    let k = known_by a.tables.now in
    let scope = scope_view a.scope.now in
    one_more said_formula (formula_in k scope) formula_view (formula_faults k a.side scope) a.formulas.now l.formula-index c.formula-item.result l.numbered.value.items l.numbered.fault l.invariant (omega arith) c.formula-item.is c.in_ok-checked_formula.ensures.value c.in_ok-checked_formula.ensures.fault c.in_ok-push.ensures.value c.in_ok-push.ensures.fault

pub checked_formulas-returns-clause-value : goal.checked_formulas-returns-clause-value
checked_formulas-returns-clause-value t c =
    let l = c.loop-formula in
    let a = c.args in
    let k = known_by a.tables.now in
    let scope = scope_view a.scope.now in
    let all = all_checked said_formula (formula_in k scope) formula_view (formula_faults k a.side scope) a.formulas.now l.formula-index l.numbered.value.items l.numbered.fault (omega arith) l.invariant in
    ap formulas_of all.0 ∙ each_formula_in k scope (map said_formula a.formulas.now)

pub checked_formulas-returns-clause-fault : goal.checked_formulas-returns-clause-fault
checked_formulas-returns-clause-fault t c =
    let l = c.loop-formula in
    let a = c.args in
    let k = known_by a.tables.now in
    let scope = scope_view a.scope.now in
    let all = all_checked said_formula (formula_in k scope) formula_view (formula_faults k a.side scope) a.formulas.now l.formula-index l.numbered.value.items l.numbered.fault (omega arith) l.invariant in
    all.1 ∙ ap least (each_formula_fault k a.side scope (map said_formula a.formulas.now))

pub checked_formula-returns-in_ok-conclusion-in-Imply-clause-fault : goal.checked_formula-returns-in_ok-conclusion-in-Imply-clause-fault
checked_formula-returns-in_ok-conclusion-in-Imply-clause-fault t c =
    let a = c.args in
    c.new-in-Imply.ensures.fault ∙ c.earlier-fault.ensures
    ∙ imply_fault (known_by a.tables.now) a.side (scope_view a.scope.now) a.formula.now c.in-Imply.premise c.in-Imply.conclusion c.deref-in-Imply.result.now c.deref-in-Imply-2.result.now _ _
    c.in-Imply.is c.deref-in-Imply.ensures c.deref-in-Imply-2.ensures c.in_ok-premise-in-Imply.ensures.fault c.in_ok-conclusion-in-Imply.ensures.fault

pub checked_quantified-returns-clause-fault : goal.checked_quantified-returns-clause-fault
checked_quantified-returns-clause-fault t c =
    let a = c.args in
    let list = map variable_view a.list.now in
    let k = known_by a.tables.now in
    c.new.ensures.fault ∙ c.earlier-fault.ensures
    ∙ least-both (variable_faults k a.side list) (formula_faults k a.side (inside (scope_view a.scope.now) (variables list)) (said_formula a.part.now)) _ _ c.in_ok-types.ensures.fault
    c.in_ok-part.ensures.fault
