use Rattle.std.proofs.Common.{◌≡◌, ◌∙◌, ◌<◌, Option, Some, None, length, slice_index, sym, ap, arith}
use Rattle.hv_world.specs.Alike.{subtask_instance}
use Rattle.hv_world.specs.Values.{Subtask}
use Rattle.hv_world.specs.Views.{subtask_view}
use Rattle.hv_plan.specs.BuiltTrees.{tree_view}
use Rattle.hv_plan.specs.TreeViews.{child_view}
use Rattle.hv_match.specs.Candidates.{child_task}
use Rattle.hv_match.specs.inside.Ranges.{as_subtask}
use Rattle.hv_match.specs.inside.Tables.{work_view}
use Rattle.hv_match.proofs.Checking.{no, child_there, does_says, says_does}
use Rattle.hv_match.proofs.check.does.Goals as goal

pub returns-in-None : goal.returns-in-None
returns-in-None c =
    let t = tree_view c.args.tree.now in
    let lt : c.args.place < length c.args.children.now = omega (arith, c.if-place-children.false) in
    let there = child_there child_view (child_task t) c.args.children.now c.args.place _ lt in
    let none = c.in-None.ensures in
    no (λ d. (let f : Some None ≡ Some (Some (subtask_instance (slice_index c.args.values.now) (subtask_view c.args.subtask.now))) = ap (λ (o : Option Subtask). Some o) none ∙ sym there ∙ d in cc))

pub returns-in-Some : goal.returns-in-Some
returns-in-Some c =
    let t = tree_view c.args.tree.now in
    let lt : c.args.place < length c.args.children.now = omega (arith, c.if-place-children.false) in
    let there = child_there child_view (child_task t) c.args.children.now c.args.place _ lt in
    let w = work_view c.in-Some.work in
    let s = subtask_view c.args.subtask.now in
    let is = c.in-Some.ensures in (
      λ e. there ∙ ap (λ (o : Option Subtask). Some o) (sym is ∙ ap (λ (z : Subtask). Some z) (does_says w c.args.values.now s (sym c.work_does.ensures ∙ e))),
      λ d. c.work_does.ensures ∙ says_does w c.args.values.now s (let f : Some (Some (as_subtask w)) ≡ Some (Some (subtask_instance (slice_index c.args.values.now) s)) = ap (λ (o : Option Subtask). Some o) is ∙ sym there ∙ d in cc),
    )
