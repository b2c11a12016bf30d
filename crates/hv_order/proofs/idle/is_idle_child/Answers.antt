use Rattle.std.proofs.Common.{sym, subst}
use Rattle.hv_plan.specs.declared.tree.Child.{Child}
use Rattle.hv_order.specs.inside.Idle.{IsIdleChild}
use Rattle.hv_order.proofs.Idling.{idle_child}
use Rattle.hv_order.proofs.idle.is_idle_child.Goals as goal

pub returns-in-Some : goal.returns-in-Some
returns-in-Some g c =
    let q = g.N.Nodes.facts c.args._nodes.now in
    let row = c.in-Some.row.now in
    let lookup = c.in-Some.ensures.lookup in
    λ e.
    let idle = idle_child q c.args.rows.now c.in-Node.node row c.requires.rows lookup.3.0 lookup.1 (c.is_idle.ensures.0 e) in
    let P : Child → Type 0 = λ x. IsIdleChild q x in
    subst P (sym c.in-Node.is) idle
