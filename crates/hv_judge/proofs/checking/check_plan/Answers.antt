use Rattle.std.proofs.Common.{is_none, ◌≡◌, ◌<◌, ◌+◌, length, ◌∙◌, ap, subst, arith}
use Rattle.hv_lists.proofs.Pairs.{same_length}
use Rattle.hv_world.specs.Bindings.{ground_actions_view}
use Rattle.hv_world.specs.WorldViews.{world_view}
use Rattle.hv_state.specs.declared.trace.Stop.TheVariants as stops
use Rattle.hv_plan.specs.BuiltTrees.{tree_view}
use Rattle.hv_plan.specs.LineViews.{plan_view}
use Rattle.hv_plan.specs.Causes.{IsTreeFault}
use Rattle.hv_plan.specs.PlanTrees.{IsActionOf}
use Rattle.hv_judge.specs.Checked.{count_of}
use Rattle.hv_judge.proofs.LawPlans.{LawsOfPlans}
use Rattle.hv_judge.proofs.CheckLemmas.{fails, tells_solves, no_tree_reaches, stopped_reaches, false_reaches, no_line_told, line_told, told_none, as_many_actions, one_at_most, stops_at, counts_run, counts_goal, counts_all, small_sum}
use Rattle.hv_judge.proofs.VerdictLemmas.{no_run, goal_false, no_goal, reaches_goal, run_is}
use Rattle.hv_judge.proofs.checking.check_plan.Goals as goal

pub returns-in-Err-Inapplicable-clause-certified : goal.returns-in-Err-Inapplicable-clause-certified
returns-in-Err-Inapplicable-clause-certified c =
    let w = world_view c.args.world.now in
    let q = plan_view c.args.plan in
    let t = tree_view c.in-Ok.tree in
    let laws : LawsOfPlans = record {
      one_tree = c.a_plan_has_one_tree.ensures;
      no_cause = c.a_tree_or_a_cause.ensures.no_cause;
      one_cause = c.a_tree_or_a_cause.ensures.one_cause;
      one_count = c.counts_are_one.ensures;
      certified = c.certified_plans_are_solved.ensures;
    } in
    fails laws w q c.args.certificate.now _
    (no_run w q t 0 (stops.Inapplicable c.in-Err-Inapplicable.action)
    c.in-Ok.ensures.ok
    (stops_at w (ground_actions_view c.actions.result.now) t.actions c.in-Err-Inapplicable.field-0 c.in-Err-Inapplicable.action
    c.actions.ensures c.in-Err-Inapplicable.field-0-is c.in-Err-Inapplicable.ensures.stop))
    _ c.no_plan-in-Err-Inapplicable.ensures.certified

pub returns-then-not-goal_holds-clause-certified : goal.returns-then-not-goal_holds-clause-certified
returns-then-not-goal_holds-clause-certified c =
    let w = world_view c.args.world.now in
    let q = plan_view c.args.plan in
    let t = tree_view c.in-Ok.tree in
    let laws : LawsOfPlans = record {
      one_tree = c.a_plan_has_one_tree.ensures;
      no_cause = c.a_tree_or_a_cause.ensures.no_cause;
      one_cause = c.a_tree_or_a_cause.ensures.one_cause;
      one_count = c.counts_are_one.ensures;
      certified = c.certified_plans_are_solved.ensures;
    } in
    fails laws w q c.args.certificate.now _
    (no_goal w q t 0 c.in-Ok-run.trace (ground_actions_view c.actions.result.now)
    c.in-Ok.ensures.ok c.actions.ensures c.in-Ok-run.ensures.plan
    c.in-Ok-run.ensures.ran c.goal_holds.result c.goal_holds.ensures c.if-not-goal_holds.true)
    _ c.no_plan-then-not-goal_holds.ensures.certified

pub certifies-requires-clause-small : goal.certifies-requires-clause-small
certifies-requires-clause-small c =
    let w = world_view c.args.world.now in
    let q = plan_view c.args.plan in
    let t = tree_view c.in-Ok.tree in
    subst (λ n. n < 4294967295)
    (same_length (IsActionOf w) q.actions t.actions
    c.in-Ok.ensures.ok.is_tree.actions)
    (omega (arith, c.requires.small))

pub returns-in-Ok-certifies-clause-certified : goal.returns-in-Ok-certifies-clause-certified
returns-in-Ok-certifies-clause-certified c =
    let w = world_view c.args.world.now in
    let q = plan_view c.args.plan in
    let t = tree_view c.in-Ok.tree in
    let laws : LawsOfPlans = record {
      one_tree = c.a_plan_has_one_tree.ensures;
      no_cause = c.a_tree_or_a_cause.ensures.no_cause;
      one_cause = c.a_tree_or_a_cause.ensures.one_cause;
      one_count = c.counts_are_one.ensures;
      certified = c.certified_plans_are_solved.ensures;
    } in
    rw (told_none c.in-Ok-certifies.found.misfit c.is_none.result c.is_none.ensures)
    (tells_solves laws w q c.args.certificate.now t c.in-Ok-run.trace (is_none c.in-Ok-certifies.found.misfit)
    (reaches_goal w q t 0 c.in-Ok-run.trace (ground_actions_view c.actions.result.now)
    c.in-Ok.ensures.ok c.actions.ensures c.in-Ok-run.ensures.plan
    c.in-Ok-run.ensures.ran c.goal_holds.result c.goal_holds.ensures c.if-not-goal_holds.false)
    (run_is w q t 0 c.in-Ok-run.trace (ground_actions_view c.actions.result.now)
    c.in-Ok.ensures.ok c.actions.ensures c.in-Ok-run.ensures.plan
    c.in-Ok-run.ensures.ran c.goal_holds.result c.goal_holds.ensures)
    c.in-Ok-certifies.ensures.certified)

-- how many formulas were evaluated

pub overflow_add-action : goal.overflow_add-action
overflow_add-action c =
    let w = world_view c.args.world.now in
    let q = plan_view c.args.plan in
    let t = tree_view c.in-Ok.tree in
    let same = as_many_actions w q t c.in-Ok.ensures.ok in
    let stop = stops_at w (ground_actions_view c.actions.result.now) t.actions c.in-Err-Inapplicable.field-0 c.in-Err-Inapplicable.action
    c.actions.ensures c.in-Err-Inapplicable.field-0-is c.in-Err-Inapplicable.ensures.stop in
    let less : c.in-Err-Inapplicable.action < length t.actions = stop.0 in
    let small : length q.actions + length q.decompositions < 4294967295 = c.requires.small in
    omega (arith, less, same, small)

pub returns-in-Err-Inapplicable-clause-evaluated : goal.returns-in-Err-Inapplicable-clause-evaluated
returns-in-Err-Inapplicable-clause-evaluated c =
    let w = world_view c.args.world.now in
    let q = plan_view c.args.plan in
    let t = tree_view c.in-Ok.tree in
    let stop = stops_at w (ground_actions_view c.actions.result.now) t.actions c.in-Err-Inapplicable.field-0 c.in-Err-Inapplicable.action
    c.actions.ensures c.in-Err-Inapplicable.field-0-is c.in-Err-Inapplicable.ensures.stop in
    let same = c.in-Err-Inapplicable.action-is in
    let found = c.no_plan-in-Err-Inapplicable.ensures.evaluated in
    counts_run w q t c.in-Ok.ensures.ok c.in-Err-Inapplicable.action c.no_plan-in-Err-Inapplicable.result.recheck stop.0
    c.no_plan-in-Err-Inapplicable.ensures.certified (omega (arith, same, found))

pub overflow_add-evaluated : goal.overflow_add-evaluated
overflow_add-evaluated c =
    let w = world_view c.args.world.now in
    let q = plan_view c.args.plan in
    let t = tree_view c.in-Ok.tree in
    let same = as_many_actions w q t c.in-Ok.ensures.ok in
    let actions : c.len.result ≡ length t.actions = c.len.ensures ∙ ap length c.actions-2.ensures in
    let goals : c.goal_count.result ≡ count_of w.goal = c.goal_count.ensures in
    let one = one_at_most w.goal in
    let small : length q.actions + length q.decompositions < 4294967295 = c.requires.small in
    omega (arith, same, actions, goals, one, small)

pub returns-then-not-goal_holds-clause-evaluated : goal.returns-then-not-goal_holds-clause-evaluated
returns-then-not-goal_holds-clause-evaluated c =
    let w = world_view c.args.world.now in
    let q = plan_view c.args.plan in
    let t = tree_view c.in-Ok.tree in
    let actions : c.len.result ≡ length t.actions = c.len.ensures ∙ ap length c.actions-2.ensures in
    let goals : c.goal_count.result ≡ count_of w.goal = c.goal_count.ensures in
    let found : c.no_plan-then-not-goal_holds.result.recheck.evaluated ≡ c.len.result + c.goal_count.result =
    c.no_plan-then-not-goal_holds.ensures.evaluated in
    counts_goal w q t c.in-Ok.ensures.ok c.no_plan-then-not-goal_holds.result.recheck
    c.no_plan-then-not-goal_holds.ensures.certified (omega (arith, actions, goals, found))

pub overflow_add-result : goal.overflow_add-result
overflow_add-result c =
    let w = world_view c.args.world.now in
    let q = plan_view c.args.plan in
    let t = tree_view c.in-Ok.tree in
    let actions : c.len.result ≡ length t.actions = c.len.ensures ∙ ap length c.actions-2.ensures in
    let goals : c.goal_count.result ≡ count_of w.goal = c.goal_count.ensures in
    let sum = small_sum w q t c.in-Ok.ensures.ok (is_none c.in-Ok-certifies.found.misfit) c.in-Ok-certifies.found.evaluated
    c.in-Ok-certifies.ensures.evaluated c.requires.small in
    omega (arith, actions, goals, sum)

pub returns-in-Ok-certifies-clause-evaluated : goal.returns-in-Ok-certifies-clause-evaluated
returns-in-Ok-certifies-clause-evaluated c =
    let w = world_view c.args.world.now in
    let q = plan_view c.args.plan in
    let t = tree_view c.in-Ok.tree in
    let actions : c.len.result ≡ length t.actions = c.len.ensures ∙ ap length c.actions-2.ensures in
    let goals : c.goal_count.result ≡ count_of w.goal = c.goal_count.ensures in
    rw (told_none c.in-Ok-certifies.found.misfit c.is_none.result c.is_none.ensures)
    (counts_all w q t c.in-Ok.ensures.ok (is_none c.in-Ok-certifies.found.misfit) c.in-Ok-certifies.found.evaluated
    (c.len.result + c.goal_count.result + c.in-Ok-certifies.found.evaluated) c.in-Ok-certifies.ensures.evaluated
    (omega (arith, actions, goals)))

-- which line is told

pub returns-in-Err-Cause-clause-line : goal.returns-in-Err-Cause-clause-line
returns-in-Err-Cause-clause-line c =
    let w = world_view c.args.world.now in
    let q = plan_view c.args.plan in
    let laws : LawsOfPlans = record {
      one_tree = c.a_plan_has_one_tree.ensures;
      no_cause = c.a_tree_or_a_cause.ensures.no_cause;
      one_cause = c.a_tree_or_a_cause.ensures.one_cause;
      one_count = c.counts_are_one.ensures;
      certified = c.certified_plans_are_solved.ensures;
    } in
    no_line_told laws w q c.args.certificate.now c.no_plan.result.recheck.certified c.no_plan.result.misfit
    c.no_plan.ensures.certified c.no_plan.ensures.misfit
    (no_tree_reaches laws w q c.args.certificate.now c.in-Err-Cause.field-0-0
    (subst (IsTreeFault w q) c.in-Err-Cause.field-0-is c.in-Err-Cause.ensures.err))

pub returns-in-Err-Inapplicable-clause-line : goal.returns-in-Err-Inapplicable-clause-line
returns-in-Err-Inapplicable-clause-line c =
    let w = world_view c.args.world.now in
    let q = plan_view c.args.plan in
    let t = tree_view c.in-Ok.tree in
    let laws : LawsOfPlans = record {
      one_tree = c.a_plan_has_one_tree.ensures;
      no_cause = c.a_tree_or_a_cause.ensures.no_cause;
      one_cause = c.a_tree_or_a_cause.ensures.one_cause;
      one_count = c.counts_are_one.ensures;
      certified = c.certified_plans_are_solved.ensures;
    } in
    no_line_told laws w q c.args.certificate.now c.no_plan-in-Err-Inapplicable.result.recheck.certified
    c.no_plan-in-Err-Inapplicable.result.misfit c.no_plan-in-Err-Inapplicable.ensures.certified
    c.no_plan-in-Err-Inapplicable.ensures.misfit
    (stopped_reaches laws w q c.args.certificate.now t c.in-Ok.ensures.ok c.in-Err-Inapplicable.action
    (stops_at w (ground_actions_view c.actions.result.now) t.actions c.in-Err-Inapplicable.field-0 c.in-Err-Inapplicable.action
    c.actions.ensures c.in-Err-Inapplicable.field-0-is c.in-Err-Inapplicable.ensures.stop))

pub returns-then-not-goal_holds-clause-line : goal.returns-then-not-goal_holds-clause-line
returns-then-not-goal_holds-clause-line c =
    let w = world_view c.args.world.now in
    let q = plan_view c.args.plan in
    let t = tree_view c.in-Ok.tree in
    let laws : LawsOfPlans = record {
      one_tree = c.a_plan_has_one_tree.ensures;
      no_cause = c.a_tree_or_a_cause.ensures.no_cause;
      one_cause = c.a_tree_or_a_cause.ensures.one_cause;
      one_count = c.counts_are_one.ensures;
      certified = c.certified_plans_are_solved.ensures;
    } in
    no_line_told laws w q c.args.certificate.now c.no_plan-then-not-goal_holds.result.recheck.certified
    c.no_plan-then-not-goal_holds.result.misfit c.no_plan-then-not-goal_holds.ensures.certified
    c.no_plan-then-not-goal_holds.ensures.misfit
    (false_reaches laws w q c.args.certificate.now t c.in-Ok.ensures.ok
    (goal_false w q t 0 c.in-Ok-run.trace (ground_actions_view c.actions.result.now)
    c.in-Ok.ensures.ok c.actions.ensures c.in-Ok-run.ensures.plan
    c.in-Ok-run.ensures.ran c.goal_holds.result c.goal_holds.ensures c.if-not-goal_holds.true))

pub returns-in-Ok-certifies-clause-line : goal.returns-in-Ok-certifies-clause-line
returns-in-Ok-certifies-clause-line c =
    let w = world_view c.args.world.now in
    let q = plan_view c.args.plan in
    let t = tree_view c.in-Ok.tree in
    let laws : LawsOfPlans = record {
      one_tree = c.a_plan_has_one_tree.ensures;
      no_cause = c.a_tree_or_a_cause.ensures.no_cause;
      one_cause = c.a_tree_or_a_cause.ensures.one_cause;
      one_count = c.counts_are_one.ensures;
      certified = c.certified_plans_are_solved.ensures;
    } in
    line_told laws w q c.args.certificate.now t c.in-Ok-run.trace c.in-Ok-certifies.found.misfit
    (reaches_goal w q t 0 c.in-Ok-run.trace (ground_actions_view c.actions.result.now)
    c.in-Ok.ensures.ok c.actions.ensures c.in-Ok-run.ensures.plan
    c.in-Ok-run.ensures.ran c.goal_holds.result c.goal_holds.ensures c.if-not-goal_holds.false)
    (run_is w q t 0 c.in-Ok-run.trace (ground_actions_view c.actions.result.now)
    c.in-Ok.ensures.ok c.actions.ensures c.in-Ok-run.ensures.plan
    c.in-Ok-run.ensures.ran c.goal_holds.result c.goal_holds.ensures)
    c.in-Ok-certifies.ensures.misfit c.is_none.result c.text_line.result
    (told_none c.in-Ok-certifies.found.misfit c.is_none.result c.is_none.ensures) c.text_line.ensures
