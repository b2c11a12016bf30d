use Rattle.std.proofs.Common.{◌≡◌, ℕ, ◌≤◌, map, ap, ◌∙◌, sym, subst, below_more}
use Rattle.std.specs.Prelude.{slice_index}
use Rattle.hv_world.specs.Orders.{IsDirect}
use Rattle.hv_plan.specs.TreeViews.{child_view}
use Rattle.hv_order.specs.Certificates.{subtask_start}
use Rattle.hv_order.specs.inside.Checks.{finish_in, child_at, AreOver, KeepsDirect}
use Rattle.hv_order.proofs.Checked.{tells_no, told_no}
use Rattle.hv_order.proofs.check.keeps_order.Goals as goal

pub returns-then-not-are_over : goal.returns-then-not-are_over
returns-then-not-are_over c =
    let xs = map child_view c.args.children.now in
    let M = c.args.places.now in
    let start : c.start_of-start.result ≡ subtask_start (slice_index c.args.starts.now) (child_at xs M c.loop-subtask.subtask) =
    c.start_of-start.ensures ∙ ap (subtask_start (slice_index c.args.starts.now)) c.child_for.ensures in
    tells_no (KeepsDirect c.args.starts.now c.args.finishes.now xs M c.args.order.now)
    (λ h. told_no (AreOver c.args.finishes.now xs M c.directly_before.result.now c.start_of-start.result) c.are_over.result c.are_over.ensures c.if-not-are_over.true
    (λ i m. let P : ℕ → Type 0 = λ s. finish_in c.args.finishes.now (child_at xs M i) ≤ s in
    subst P (sym start) (h i c.loop-subtask.subtask c.loop-subtask-test.true ((c.directly_before.ensures.direct i).0 m))))

pub loop-subtask-preserved : goal.loop-subtask-preserved
loop-subtask-preserved c = λ i.
    let xs = map child_view c.args.children.now in
    let M = c.args.places.now in
    let start : c.start_of-start.result ≡ subtask_start (slice_index c.args.starts.now) (child_at xs M c.loop-subtask.subtask) =
    c.start_of-start.ensures ∙ ap (subtask_start (slice_index c.args.starts.now)) c.child_for.ensures in
    let P : ℕ → Type 0 = λ s. finish_in c.args.finishes.now (child_at xs M i) ≤ s in
    below_more (λ j. IsDirect c.args.order.now i j → finish_in c.args.finishes.now (child_at xs M i) ≤ subtask_start (slice_index c.args.starts.now) (child_at xs M j))
    c.loop-subtask.subtask (λ j lt. c.loop-subtask.invariant i j lt)
    (λ d. subst P start (c.are_over.ensures.0 c.if-not-are_over.false i ((c.directly_before.ensures.direct i).1 d)))
