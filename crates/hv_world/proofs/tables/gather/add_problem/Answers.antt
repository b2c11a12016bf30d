use Rattle.std.proofs.Common.{ap, subst, ◌∙◌}
use Rattle.hv_syntax.specs.Values.{Htn}
use Rattle.hv_syntax.specs.ProblemViews.{problem_view}
use Rattle.hv_world.specs.Eithers.{goal_variables}
use Rattle.hv_world.specs.inside.Gathers.{lists_in, AreGathered}
use Rattle.hv_world.proofs.GatherLemmas.{gathered_both}
use Rattle.hv_world.proofs.tables.gather.add_problem.Goals as goal

pub returns : goal.returns
returns c =
    let x = problem_view c.args.problem.now in
    let a = lists_in c.args.lists.now in
    let b = lists_in c.add_variables.new.lists in
    let d = lists_in c.add_goal.new.lists in
    gathered_both a b d x.htn.parameters (goal_variables x.goal) (subst (λ vs. AreGathered a vs b) (c.parameters.ensures ∙ ap (λ (h : Htn). h.parameters) c.htn.ensures) c.in_ok-add_variables.ensures)
    (subst (λ o. AreGathered b (goal_variables o) d) c.goal.ensures c.in_ok-add_goal.ensures)
