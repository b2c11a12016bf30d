use Rattle.std.proofs.Common.{sym, subst}
use Rattle.hv_plan.specs.declared.tree.Child.{Child}
use Rattle.hv_order.specs.inside.Facts.{IsNodeRun, IsChildRun}
use Rattle.hv_order.proofs.children.run_of_child.Goals as goal

pub returns-in-Known-clause-known : goal.returns-in-Known-clause-known
returns-in-Known-clause-known g c =
    let q = g.T.Table.facts c.args.table.now in
    let is : IsNodeRun q c.in-Node.node c.args.start c.in-Known.run' = rw c.in-Known.is at c.look_up.ensures.known in
    let P : Child → Type 0 = λ x. IsChildRun q x c.args.start c.in-Known.run' in
    subst P (sym c.in-Node.is) is
