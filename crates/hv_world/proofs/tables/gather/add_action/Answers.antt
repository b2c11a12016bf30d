use Rattle.std.proofs.Common.{◌++◌, subst, ◌∙◌}
use Rattle.hv_syntax.specs.DeclarationViews.{action_view}
use Rattle.hv_world.specs.Eithers.{formula_variables, effect_variables}
use Rattle.hv_world.specs.inside.Gathers.{lists_in, AreGathered}
use Rattle.hv_world.proofs.GatherLemmas.{gathered_both}
use Rattle.hv_world.proofs.tables.gather.add_action.Goals as goal

pub returns : goal.returns
returns c =
    let x = action_view c.args.action.now in
    let a = lists_in c.args.lists.now in
    let b = lists_in c.add_variables.new.lists in
    let d = lists_in c.add_formula.new.lists in
    let e = lists_in c.add_effect.new.lists in
    gathered_both a d e (x.parameters ++ formula_variables x.precondition) (effect_variables x.effect)
    (gathered_both a b d x.parameters (formula_variables x.precondition) (subst (λ vs. AreGathered a vs b) c.parameters.ensures c.in_ok-add_variables.ensures)
    (subst (λ f. AreGathered b (formula_variables f) d) c.precondition.ensures c.in_ok-add_formula.ensures))
    (subst (λ f. AreGathered d (effect_variables f) e) (c.items.ensures ∙ c.effect.ensures) c.in_ok-add_effect.ensures)
