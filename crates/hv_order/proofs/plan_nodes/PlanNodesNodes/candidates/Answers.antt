use Rattle.std.proofs.Common.{sym, ◌∙◌, subst, Ok, Err, IfOk, option_map}
use Rattle.std.specs.Prelude.{Result}
use Rattle.hv_world.specs.Worlds.{World}
use Rattle.hv_state.specs.Ever.{ever_rows}
use Rattle.hv_plan.specs.BuiltTrees.{tree_view}
use Rattle.hv_order.specs.Settings.{Setting, setting}
use Rattle.hv_order.specs.inside.Listers.{ListsAll, IsEver, still_listed}
use Rattle.hv_order.specs.inside.Nodes.{AreAllOf}
use Rattle.hv_order.specs.inside.PlanFacts.{plan_facts}
use Rattle.hv_order.specs.declared.lister.Lister.{Lister}
use Rattle.hv_order.specs.declared.memory.Memory.{Memory}
use Rattle.hv_order.proofs.ListedAll.{all_listed}
use Rattle.hv_order.proofs.plan_nodes.PlanNodesNodes.candidates.Goals as goal

if_listed : (r : Result Lister Memory) (P Q : Lister → Type 0) → ((l : Lister) → P l → Q l) → IfOk r P → IfOk r Q
if_listed (Ok l) P Q each h = each l h
if_listed (Err e) P Q each h = tt

pub returns : goal.returns
returns c =
    let q : Setting = setting (tree_view c.self.inside.tree.now) c.self.inside.trace.now c.self.inside.is_with in
    let known = c.self.invariant in
    let ever = option_map ever_rows c.ever_before-ever.result in
    let is_ever = subst (λ (x : Setting). IsEver x c.args.node c.args.start ever) (sym c.self.view_is) c.ever_before-ever.ensures in
    let begun = rw (sym c.self.view_is) at c.requires.start in
    let all : (w : World) → Type 0 = λ w. IfOk c.candidates_of.result (ListsAll w q.tree c.args.node ever) in
    let here = subst all (known.matcher_is ∙ sym known.world_is) c.candidates_of.ensures in
    let P : Setting → Type 0 = λ q. IfOk c.candidates_of.result (λ l. AreAllOf (plan_facts q) c.args.node c.args.start (still_listed l)) in
    subst P c.self.view_is
    (if_listed c.candidates_of.result (ListsAll q.plan.world q.tree c.args.node ever) (λ l. AreAllOf (plan_facts q) c.args.node c.args.start (still_listed l)) (λ l lists. all_listed q known.is_setting c.args.node c.args.start begun ever is_ever l lists) here)
