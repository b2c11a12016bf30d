use Rattle.std.proofs.Common.{not, ap, sym, ◌∙◌}
use Rattle.std.proofs.lemmas.Result.{IfOk-weaker}
use Rattle.hv_syntax.specs.Views.{word_view, term_view as said_term}
use Rattle.hv_world.specs.Faults.{least}
use Rattle.hv_world.specs.Names.{is_among}
use Rattle.hv_world.specs.Scopes.{is_bound}
use Rattle.hv_world.specs.StaticRules.{term_faults}
use Rattle.hv_world.specs.Worlds.{term_in}
use Rattle.hv_world.specs.declared.fault.StaticKind.TheVariants as kinds
use Rattle.hv_world.specs.inside.Tables.{known_by, scope_view}
use Rattle.hv_world.proofs.FaultLemmas.{least-if}
use Rattle.hv_world.proofs.intern.terms.checked_term.Goals as goal

pub returns-in-Constant-clause-value : goal.returns-in-Constant-clause-value
returns-in-Constant-clause-value c =
    c.checked_constant.ensures.value ∙ ap (λ t. term_in (known_by c.args.tables.now) (scope_view c.args.scope.now) (said_term t)) (sym c.in-Constant.is)

pub returns-in-Constant-clause-fault : goal.returns-in-Constant-clause-fault
returns-in-Constant-clause-fault c =
    let k = known_by c.args.tables.now in
    let word = word_view c.in-Constant.word in
    c.checked_constant.ensures.fault
    ∙ least-if (not (is_among k.objects word.text)) kinds.UnknownObject c.args.side word
    ∙ ap (λ t. least (term_faults k c.args.side (scope_view c.args.scope.now) (said_term t))) (sym c.in-Constant.is)

pub returns-in-Variable-clause-value : goal.returns-in-Variable-clause-value
returns-in-Variable-clause-value c =
    let k = known_by c.args.tables.now in
    let scope = scope_view c.args.scope.now in
    IfOk-weaker c.checked_variable.result _ _ (λ x e. e ∙ ap (λ t. term_in k scope (said_term t)) (sym c.in-Variable.is)) c.checked_variable.ensures.value

pub returns-in-Variable-clause-fault : goal.returns-in-Variable-clause-fault
returns-in-Variable-clause-fault c =
    let k = known_by c.args.tables.now in
    let scope = scope_view c.args.scope.now in
    let word = word_view c.in-Variable.word in
    IfOk-weaker c.checked_variable.result _ _
    (λ x e. e ∙ least-if (not (is_bound scope word.text)) kinds.UnboundVariable c.args.side word ∙ ap (λ t. least (term_faults k c.args.side scope (said_term t))) (sym c.in-Variable.is))
    c.checked_variable.ensures.fault
