use Rattle.std.proofs.Common.{sym, ◌∙◌, arith, inl, inr}
use Rattle.hv_match.proofs.Steps.{alike_no, alike_yes, alike_end}
use Rattle.hv_match.proofs.puzzle.are_values.Goals as goal
use Rattle.hv_match.proofs.puzzle.are_values.Goals.{then-loop-at-test+else-at-objects, else-loop-at-test}

pub returns-then-value-objects : goal.returns-then-value-objects
returns-then-value-objects c =
    sym (c.loop-at.invariant.2 ∙ alike_no c.args.values.now c.args.terms.now c.args.objects.now c.loop-at.at _ _ c.loop-at-test.true c.if-at-objects.true c.value.result c.value.ensures c.if-value-objects.true)

pub loop-at-preserved : goal.loop-at-preserved
loop-at-preserved c = (
  omega (arith, c.loop-at-test.true),
  omega (arith, c.if-at-objects.true),
  c.loop-at.invariant.2 ∙ alike_yes c.args.values.now c.args.terms.now c.args.objects.now c.loop-at.at _ _ c.loop-at-test.true c.if-at-objects.true c.value.result c.value.ensures c.if-value-objects.false,
)

pub returns : goal.returns
returns c =
    let end = alike_end c.args.values.now c.args.terms.now c.args.objects.now c.loop-at.at c.loop-at.invariant.0 c.loop-at.invariant.1 in
    elim c.loop-at-test.branch [
      | then-loop-at-test+else-at-objects w ↦ sym (c.loop-at.invariant.2 ∙ end (inr w.if-at-objects.false))
      | else-loop-at-test w ↦ sym (c.loop-at.invariant.2 ∙ end (inl w.loop-at-test.false))
    ]
