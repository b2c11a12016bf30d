use Rattle.std.proofs.Common.{◌<◌, subst}
use Rattle.std.proofs.lemmas.Result.{err_from_is_err_and}
use Rattle.hv_lists.proofs.Pairs.{same_length}
use Rattle.hv_world.specs.WorldViews.{world_view}
use Rattle.hv_state.specs.Plans as states
use Rattle.hv_state.specs.Plans.{IsStop}
use Rattle.hv_plan.specs.BuiltTrees.{tree_view}
use Rattle.hv_plan.specs.LineViews.{plan_view}
use Rattle.hv_plan.specs.PlanTrees.{IsActionOf}
use Rattle.hv_judge.specs.Causes.{IsFirstAbove, IsWithinLimit}
use Rattle.hv_judge.proofs.VerdictLemmas.{tree_in, no_tree, no_run, no_goal, run_is, reaches_goal, solves, explains, not_solved}
use Rattle.hv_judge.proofs.verdict.judge_plan.Goals as goal
use Rattle.hv_world.specs.Bindings.{ground_actions_view}

pub returns-in_err-tree-clause-err : goal.returns-in_err-tree-clause-err
returns-in_err-tree-clause-err c =
    let p = err_from_is_err_and c.from_residual.result c.from_residual.ensures.1 in
    rw (p.1, p.2)
    (no_tree (world_view c.args.world.now) (plan_view c.args.plan) c.args.limit
    c.in_err-tree.field-0.0 c.in_err-tree.ensures.err)

pub returns-in-Err-clause-err : goal.returns-in-Err-clause-err
returns-in-Err-clause-err c =
    let w = world_view c.args.world.now in
    let q = plan_view c.args.plan in
    let t = tree_view c.in_ok-tree.tree in
    rw c.stopped.ensures
    (no_run w q t c.args.limit c.in-Err.stop c.in_ok-tree.ensures.ok
    (subst (λ gs. IsStop (states.plan w gs) c.in-Err.stop) c.actions.ensures c.in-Err.ensures.stop))

pub returns-then-not-goal_holds-clause-err : goal.returns-then-not-goal_holds-clause-err
returns-then-not-goal_holds-clause-err c =
    let w = world_view c.args.world.now in
    let q = plan_view c.args.plan in
    let t = tree_view c.in_ok-tree.tree in
    rw c.nowhere.ensures
    (no_goal w q t c.args.limit c.in-Ok.trace (ground_actions_view c.actions.result.now)
    c.in_ok-tree.ensures.ok c.actions.ensures c.in-Ok.ensures.plan
    c.in-Ok.ensures.ran c.goal_holds.result c.goal_holds.ensures c.if-not-goal_holds.true)

pub returns-in-Some-clause-err : goal.returns-in-Some-clause-err
returns-in-Some-clause-err c =
    let w = world_view c.args.world.now in
    let q = plan_view c.args.plan in
    let t = tree_view c.in_ok-tree.tree in (
      t,
      reaches_goal w q t c.args.limit c.in-Ok.trace (ground_actions_view c.actions.result.now)
          c.in_ok-tree.ensures.ok c.actions.ensures c.in-Ok.ensures.plan
          c.in-Ok.ensures.ran c.goal_holds.result c.goal_holds.ensures c.if-not-goal_holds.false,
      subst (λ v. IsFirstAbove v t c.args.limit c.in-Some.line) c.in_ok-matcher.ensures
          c.in-Some.ensures,
    )

pub find_solution-requires : goal.find_solution-requires
find_solution-requires c =
    let w = world_view c.args.world.now in
    let q = plan_view c.args.plan in
    let t = tree_view c.in_ok-tree.tree in
    let tree = c.in_ok-tree.ensures.ok in
    record {
      world = c.in_ok-matcher.ensures;
      top = c.requires.top;
      tree = tree_in w q t tree;
      trace =
          run_is w q t c.args.limit c.in-Ok.trace (ground_actions_view c.actions.result.now) tree
          c.actions.ensures c.in-Ok.ensures.plan c.in-Ok.ensures.ran c.goal_holds.result
          c.goal_holds.ensures;
      small =
          subst (λ n. n < 4294967295)
          (same_length (IsActionOf w) q.actions t.actions tree.is_tree.actions) c.requires.small;
    }

pub returns-clause-solves : goal.returns-clause-solves
returns-clause-solves c =
    let w = world_view c.args.world.now in
    let q = plan_view c.args.plan in
    let t = tree_view c.in_ok-tree.tree in
    solves w q t c.args.limit
    (reaches_goal w q t c.args.limit c.in-Ok.trace (ground_actions_view c.actions.result.now)
    c.in_ok-tree.ensures.ok c.actions.ensures c.in-Ok.ensures.plan
    c.in-Ok.ensures.ran c.goal_holds.result c.goal_holds.ensures c.if-not-goal_holds.false)
    (subst (λ v. IsWithinLimit v t c.args.limit) c.in_ok-matcher.ensures c.in_default.ensures)
    c.find_solution.result c.find_solution.ensures.solved

pub returns-clause-certificate : goal.returns-clause-certificate
returns-clause-certificate c =
    let w = world_view c.args.world.now in
    let q = plan_view c.args.plan in
    let t = tree_view c.in_ok-tree.tree in
    explains w q t c.args.limit
    (reaches_goal w q t c.args.limit c.in-Ok.trace (ground_actions_view c.actions.result.now)
    c.in_ok-tree.ensures.ok c.actions.ensures c.in-Ok.ensures.plan
    c.in-Ok.ensures.ran c.goal_holds.result c.goal_holds.ensures c.if-not-goal_holds.false)
    (subst (λ v. IsWithinLimit v t c.args.limit) c.in_ok-matcher.ensures c.in_default.ensures)
    c.args.explain c.find_solution.result c.find_solution.ensures.certificate

pub returns-clause-err : goal.returns-clause-err
returns-clause-err c =
    let w = world_view c.args.world.now in
    let q = plan_view c.args.plan in
    let t = tree_view c.in_ok-tree.tree in
    not_solved w q t c.args.limit
    (reaches_goal w q t c.args.limit c.in-Ok.trace (ground_actions_view c.actions.result.now)
    c.in_ok-tree.ensures.ok c.actions.ensures c.in-Ok.ensures.plan
    c.in-Ok.ensures.ran c.goal_holds.result c.goal_holds.ensures c.if-not-goal_holds.false)
    (subst (λ v. IsWithinLimit v t c.args.limit) c.in_ok-matcher.ensures c.in_default.ensures)
    c.find_solution.result c.find_solution.ensures.err
