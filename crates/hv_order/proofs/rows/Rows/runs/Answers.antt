use Rattle.std.proofs.Common.{◌<◌, List, length, sym, subst}
use Rattle.hv_order.specs.LeastFinishes.{NodeCanBePlaced, IsNumberOfAnswers}
use Rattle.hv_order.specs.Settings.{Setting, last}
use Rattle.hv_order.specs.inside.PlanFacts.{plan_facts}
use Rattle.hv_order.specs.inside.Runs.{AreRows}
use Rattle.hv_order.specs.declared.runs.Row.{Row}
use Rattle.hv_order.proofs.NodeFits.{plan_nodes}
use Rattle.hv_order.proofs.NodesPlaced.{number_placed}
use Rattle.hv_order.proofs.rows.Rows.runs.Goals as goal

pub count_runs-requires-clause-nodes : goal.count_runs-requires-clause-nodes
count_runs-requires-clause-nodes c = plan_nodes c.self.inside.nodes c.self.invariant.rows.setting

pub count_runs-requires-clause-rows : goal.count_runs-requires-clause-rows
count_runs-requires-clause-rows c =
    let P : List Row → Type 0 = λ rs. AreRows (plan_facts c.self.inside.nodes) rs in
    subst P (sym c.deref.ensures.value) c.self.invariant.rows.each

pub returns : goal.returns
returns c =
    let q = c.self.inside.nodes in
    let Below : Setting → Type 0 = λ q. c.args.node < length q.tree.nodes in
    let below = subst Below (sym c.self.view_is) c.requires.node in
    let P : Setting → Type 0 = λ q. IsNumberOfAnswers (NodeCanBePlaced q c.args.node) (last q) c.count_runs.result in
    subst P c.self.view_is (number_placed q c.self.invariant.rows.setting c.args.node below c.count_runs.result c.count_runs.ensures)
