use Rattle.std.proofs.Common.{List, arith, subst, map}
use Rattle.std.proofs.lemmas.List.{take_all}
use Rattle.hv_plan.specs.TreeViews.{child_view}
use Rattle.hv_plan.specs.declared.tree.Child.{Child}
use Rattle.hv_plan.specs.declared.tree.Child.TheVariants as children
use Rattle.hv_order.specs.inside.Checks.{IsLatest, finish_in}
use Rattle.std.proofs.Common.{ap, ◌∙◌}
use Rattle.std.specs.Prelude.{max}
use Rattle.hv_order.proofs.CheckSteps.{latest_more}
use Rattle.hv_order.proofs.check.latest.Goals as goal

pub loop-child-preserved : goal.loop-child-preserved
loop-child-preserved c =
    latest_more child_view c.args.at c.args.children.now c.loop-child.child-index (children.Action 0) (finish_in c.args.finishes.now)
    c.loop-child.latest c.max-latest.result c.loop-child-test.true c.loop-child.invariant
    (c.max-latest.ensures ∙ ap (λ f. max c.loop-child.latest f) c.finish_of.ensures)

pub returns : goal.returns
returns c =
    let P : List Child → Type 0 = λ xs. IsLatest c.args.at (map child_view xs) (finish_in c.args.finishes.now) c.loop-child.latest in
    subst P (take_all c.loop-child.child-index c.args.children.now (omega (arith, c.loop-child-test.false))) c.loop-child.invariant
