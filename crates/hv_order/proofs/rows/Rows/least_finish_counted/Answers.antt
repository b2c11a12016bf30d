use Rattle.std.proofs.Common.{◌<◌, List, length, sym, subst}
use Rattle.hv_order.specs.LeastFinishes.{NodeCanBePlaced, IsLeastFinishOf, IsCounted}
use Rattle.hv_order.specs.Settings.{Setting, last}
use Rattle.hv_order.specs.inside.PlanFacts.{plan_facts}
use Rattle.hv_order.specs.inside.Runs.{AreRows}
use Rattle.hv_order.specs.declared.runs.Row.{Row}
use Rattle.hv_order.proofs.NodeFits.{plan_nodes}
use Rattle.hv_order.proofs.NodesPlaced.{least_placed, counted_placed}
use Rattle.hv_order.proofs.rows.Rows.least_finish_counted.Goals as goal

pub least_finish_counted-requires-clause-nodes : goal.least_finish_counted-requires-clause-nodes
least_finish_counted-requires-clause-nodes c = plan_nodes c.self.inside.nodes c.self.invariant.rows.setting

pub least_finish_counted-requires-clause-rows : goal.least_finish_counted-requires-clause-rows
least_finish_counted-requires-clause-rows c =
    let P : List Row → Type 0 = λ rs. AreRows (plan_facts c.self.inside.nodes) rs in
    subst P (sym c.deref.ensures.value) c.self.invariant.rows.each

pub returns-clause-finish : goal.returns-clause-finish
returns-clause-finish c =
    let q = c.self.inside.nodes in
    let Below : Setting → Type 0 = λ q. c.args.node < length q.tree.nodes in
    let below = subst Below (sym c.self.view_is) c.requires.node in
    let o = c.least_finish_counted.result.0 in
    let P : Setting → Type 0 = λ q. IsLeastFinishOf q c.args.node c.args.start o in
    subst P c.self.view_is (least_placed q c.self.invariant.rows.setting c.args.node below c.args.start o c.least_finish_counted.ensures.finish)

pub returns-clause-looked : goal.returns-clause-looked
returns-clause-looked c =
    let q = c.self.inside.nodes in
    let Below : Setting → Type 0 = λ q. c.args.node < length q.tree.nodes in
    let below = subst Below (sym c.self.view_is) c.requires.node in
    let looked = c.least_finish_counted.result.1 in
    let P : Setting → Type 0 = λ q. IsCounted (NodeCanBePlaced q c.args.node) (last q) looked in
    subst P c.self.view_is (counted_placed q c.self.invariant.rows.setting c.args.node below looked c.least_finish_counted.ensures.looked)
