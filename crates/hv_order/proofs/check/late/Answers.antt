use Rattle.std.proofs.Common.{◌≡◌, ◌-◌, length, ap, ◌∙◌, arith}
use Rattle.std.specs.Prelude.{slice_index}
use Rattle.hv_plan.specs.BuiltTrees.{tree_view}
use Rattle.hv_order.specs.inside.Checks.{late_child, late_root}
use Rattle.hv_order.proofs.check.late.Goals as goal

pub returns-then-finish_of-len : goal.returns-then-finish_of-len
returns-then-finish_of-len c =
    let t = tree_view c.args.tree.now in
    late_root
    (let root : c.finish_of.result ≡ slice_index c.args.finishes.now (length t.nodes - 1) = c.finish_of.ensures ∙ ap (λ n. slice_index c.args.finishes.now (n - 1)) c.node_count.ensures in
    let n : c.len.result ≡ length t.actions = c.len.ensures ∙ ap length c.actions.ensures in
    omega (arith, root, n, c.if-finish_of-len.true))

pub returns : goal.returns
returns c = late_child c.in_ok-node.node c.in_ok-node.ensures.order
