use Rattle.std.proofs.Common.{subst}
use Rattle.hv_order.specs.Settings.{Setting}
use Rattle.hv_order.specs.inside.Nodes.{AreNodes}
use Rattle.hv_order.specs.inside.PlanFacts.{plan_facts}
use Rattle.hv_order.proofs.NodeFits.{plan_nodes}
use Rattle.hv_order.proofs.plan_nodes.PlanNodes.are_nodes.Goals as goal

pub returns : goal.returns
returns c =
    let P : Setting → Type 0 = λ q. AreNodes (plan_facts q) in
    subst P c.self.view_is (plan_nodes _ c.self.invariant.is_setting)
