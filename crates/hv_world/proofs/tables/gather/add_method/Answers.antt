use Rattle.std.proofs.Common.{subst}
use Rattle.hv_syntax.specs.DeclarationViews.{method_view}
use Rattle.hv_world.specs.Eithers.{formula_variables}
use Rattle.hv_world.specs.inside.Gathers.{lists_in, AreGathered}
use Rattle.hv_world.proofs.GatherLemmas.{gathered_both}
use Rattle.hv_world.proofs.tables.gather.add_method.Goals as goal

pub returns : goal.returns
returns c =
    let m = method_view c.args.method.now in
    let a = lists_in c.args.lists.now in
    let b = lists_in c.add_variables.new.lists in
    let d = lists_in c.add_formula.new.lists in
    gathered_both a b d m.parameters (formula_variables m.precondition) (subst (λ vs. AreGathered a vs b) c.parameters.ensures c.in_ok-add_variables.ensures)
    (subst (λ f. AreGathered b (formula_variables f) d) c.precondition.ensures c.in_ok-add_formula.ensures)
