use Rattle.std.proofs.Common.{rules, ◌≡◌, ◌∙◌, false, List, map, sym, subst, slice_index_or}
use Rattle.std.proofs.lemmas.List.{take_all}
use Rattle.hv_plan.specs.TreeViews.{child_view}
use Rattle.hv_plan.specs.declared.tree.Child.{Child}
use Rattle.hv_plan.specs.declared.tree.Child.TheVariants as children
use Rattle.hv_order.specs.inside.Marks.{IsMarked}
use Rattle.hv_order.specs.inside.Plain.{AllPlain}
use Rattle.hv_order.proofs.PlainNodes.{none_plain, child_more}
use Rattle.hv_order.proofs.plain.are_plain.Goals as goal
use Rattle.hv_order.proofs.plain.are_plain.Goals.{in-Node+else-not-unwrap_or, in_default}

pub loop-child-init : goal.loop-child-init
loop-child-init c = none_plain c.args.plain.now

pub loop-child-preserved : goal.loop-child-preserved
loop-child-preserved c =
    child_more c.args.plain.now c.args.children.now c.loop-child.child-index (children.Action 0) c.loop-child-test.true c.loop-child.invariant
    (λ u e. elim c.match-child.branch [
      | in-Node+else-not-unwrap_or w ↦ (
          let is : w.unwrap_or.result ≡ slice_index_or c.args.plain.now w.in-Node.node false = search rules in
          let child : children.Node w.in-Node.node ≡ children.Node u = sym w.in-Node.is ∙ e in
          let same : w.in-Node.node ≡ u = cc in
          subst (λ v. IsMarked c.args.plain.now v) same (sym is ∙ w.if-not-unwrap_or.false)
          )
      | in_default w ↦ absurd (w.in_default.not-Node u e)
    ])

pub returns : goal.returns
returns c =
    let P : List Child → Type 0 = λ xs. AllPlain c.args.plain.now (map child_view xs) in
    λ yes. subst P (take_all c.loop-child.child-index c.args.children.now c.loop-child-test.false) c.loop-child.invariant
