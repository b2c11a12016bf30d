use Rattle.std.proofs.Common.{not, is_some, ap, ◌∙◌}
use Rattle.hv_syntax.specs.Views.{word_view}
use Rattle.hv_world.specs.Faults.{fault_if}
use Rattle.hv_world.specs.Scopes.{variable_in}
use Rattle.hv_world.specs.declared.fault.StaticKind.TheVariants as kinds
use Rattle.hv_world.specs.inside.Tables.{scope_view}
use Rattle.hv_world.proofs.CheckLemmas.{bound_is}
use Rattle.hv_world.proofs.intern.terms.checked_variable.Goals as goal

pub returns-clause-fault : goal.returns-clause-fault
returns-clause-fault c =
    let word = word_view c.args.word in
    let scope = scope_view c.args.scope.now in
    c.fault_if.ensures
    ∙ ap (λ b. fault_if (not b) kinds.UnboundVariable c.args.side word) (c.is_some-is_bound.ensures ∙ ap is_some (c.in_ok-found.ensures ∙ ap (variable_in scope) c.name.ensures) ∙ bound_is scope word.text)
