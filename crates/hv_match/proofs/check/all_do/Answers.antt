use Rattle.std.proofs.Common.{ℕ, map, get_or, subst, sym, refl, arith}
use Rattle.std.proofs.lemmas.List.{take_all}
use Rattle.hv_lists.proofs.Pairs.{same_length}
use Rattle.hv_world.specs.Views.{subtask_view}
use Rattle.hv_world.specs.declared.formula.Subtask as code_subtask
use Rattle.hv_plan.specs.BuiltTrees.{tree_view}
use Rattle.hv_plan.specs.TreeViews.{child_view}
use Rattle.hv_match.specs.Candidates.{Does, child_task}
use Rattle.hv_match.proofs.Checking.{none, no, zip_at, zip_more, zip_to_right, zip_from_right}
use Rattle.hv_match.proofs.check.all_do.Goals as goal

pub returns-then-places-subtasks : goal.returns-then-places-subtasks
returns-then-places-subtasks c =
    let cs = map (child_task (tree_view c.args.tree.now)) (map child_view c.args.children.now) in
    no (λ a. c.if-places-subtasks.true (same_length (λ (x : ℕ) (s : code_subtask.Subtask). Does cs c.args.values.now x (subtask_view s)) c.args.places.now c.args.subtasks.now (zip_from_right subtask_view (Does cs c.args.values.now) c.args.places.now c.args.subtasks.now a)))

pub returns-then-not-does : goal.returns-then-not-does
returns-then-not-does c =
    let cs = map (child_task (tree_view c.args.tree.now)) (map child_view c.args.children.now) in
    no (λ a. none (c.does.ensures.1 (subst (λ (s : code_subtask.Subtask). Does cs c.args.values.now (get_or c.args.places.now c.loop-number.number 0) (subtask_view s)) (sym c.index-subtasks-number.is) (zip_at (λ (x : ℕ) (s : code_subtask.Subtask). Does cs c.args.values.now x (subtask_view s)) c.args.places.now c.args.subtasks.now c.loop-number.number _ _
    (zip_from_right subtask_view (Does cs c.args.values.now) c.args.places.now c.args.subtasks.now a) c.loop-number-test.true))) c.if-not-does.true)

pub loop-number-preserved : goal.loop-number-preserved
loop-number-preserved c =
    let cs = map (child_task (tree_view c.args.tree.now)) (map child_view c.args.children.now) in
    zip_more (λ (x : ℕ) (s : code_subtask.Subtask). Does cs c.args.values.now x (subtask_view s)) c.args.places.now c.args.subtasks.now c.loop-number.number _ _ c.loop-number-test.true (omega (arith, c.if-places-subtasks.false, c.loop-number-test.true)) c.loop-number.invariant (subst (λ (s : code_subtask.Subtask). Does cs c.args.values.now (get_or c.args.places.now c.loop-number.number 0) (subtask_view s)) c.index-subtasks-number.is (c.does.ensures.0 c.if-not-does.false))

pub returns : goal.returns
returns c =
    let cs = map (child_task (tree_view c.args.tree.now)) (map child_view c.args.children.now) in
    let i = rw (take_all c.loop-number.number c.args.places.now (omega (arith, c.loop-number-test.false)), take_all c.loop-number.number c.args.subtasks.now (omega (arith, c.if-places-subtasks.false, c.loop-number-test.false))) at c.loop-number.invariant in
    (λ e. zip_to_right subtask_view (Does cs c.args.values.now) c.args.places.now c.args.subtasks.now i, λ a. refl)
