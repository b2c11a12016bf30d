use Rattle.std.proofs.Common.{◌<◌, length, subst, arith}
use Rattle.hv_plan.specs.declared.tree.Child.{Child}
use Rattle.hv_plan.specs.declared.tree.Child.TheVariants as children
use Rattle.hv_order.specs.inside.Children.{IsNodeBelow}
use Rattle.hv_order.proofs.BeginChildren.{none_set, set_action, set_node}
use Rattle.hv_order.proofs.walk.begin_children.Goals as goal
use Rattle.hv_order.proofs.walk.begin_children.Goals.{in-Action, in-Node}

pub loop-subtask-init : goal.loop-subtask-init
loop-subtask-init c = none_set c.args.starts.now c.args.children.now c.args.begins.now

pub loop-subtask-preserved : goal.loop-subtask-preserved
loop-subtask-preserved c =
    let i = c.loop-subtask.subtask in
    let cs = c.args.children.now in
    let lt = c.loop-subtask-test.true in
    elim c.match-child.branch [
      | in-Action w ↦ rw w.starts-is (set_action c.args.starts.now cs c.args.begins.now i c.loop-subtask.starts w.in-Action.field-0 w.in-Action.is c.loop-subtask.invariant)
      | in-Node w ↦ (
          let P : Child → Type 0 = λ x. IsNodeBelow (length c.args.starts.now) x in
          let below : w.in-Node.node < length c.args.starts.now = subst P w.in-Node.is (c.requires.below i (children.Action 0) lt) in
          rw w.starts-is (set_node c.args.starts.now cs c.args.begins.now i c.loop-subtask.starts w.in-Node.node lt w.in-Node.is (omega (arith, below, c.loop-subtask.auto.starts)) c.requires.apart c.loop-subtask.invariant)
          )
    ]

pub returns : goal.returns
returns c =
    let all = c.loop-subtask-test.false in
    let inv = c.loop-subtask.invariant in
    record { begun = λ j u child. inv.begun j u (let lt = child.0 in omega arith) child; kept = inv.kept }
