use Rattle.std.proofs.Common.{subst}
use Rattle.hv_order.specs.inside.Idle.{AreIdle}
use Rattle.hv_order.proofs.idle.is_idle_by.Goals as goal

pub returns : goal.returns
returns g c =
    let q = g.N.Nodes.facts c.args.nodes.now in
    λ e. record {
      children = subst (AreIdle q) c.deref.ensures.value (c.are_idle.ensures c.if-not-are_idle.false);
      holds = c.holds_throughout.ensures e;
    }
