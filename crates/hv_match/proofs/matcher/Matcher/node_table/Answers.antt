use Rattle.std.proofs.Common.{◌≡◌, List, Bor, option_map, slice_get, sym, subst}
use Rattle.hv_world.specs.Worlds.{World}
use Rattle.hv_world.specs.WorldViews.{world_view}
use Rattle.hv_plan.specs.TreeViews.{node_view}
use Rattle.hv_match.specs.declared.table.MethodTable.{MethodTable}
use Rattle.hv_match.specs.inside.Ranges.{HasTable, IsTableAt}
use Rattle.hv_match.proofs.NodeTables.{top_table, numbered_table}
use Rattle.hv_match.proofs.matcher.Matcher.node_table.Goals as goal

pub returns-in-None : goal.returns-in-None
returns-in-None c =
    let m = c.self.inside in
    let n = node_view c.args.node.now in
    subst (λ (w : World). IsTableAt w n m.top) c.self.view_is (top_table (world_view m.world.now) n m.top m.methods.items (sym c.in-None.ensures) c.self.invariant)

pub returns-in-Some : goal.returns-in-Some
returns-in-Some c =
    let m = c.self.inside in
    let n = node_view c.args.node.now in
    let k = c.in-Some.method.0 in
    let table = c.table_at.result in
    let is = subst (λ (ts : List MethodTable). option_map (λ (t : Bor MethodTable). t.now) table ≡ slice_get ts k) c.deref.ensures.value c.table_at.ensures in
    subst (λ (w : World). HasTable w n table) c.self.view_is (numbered_table (world_view m.world.now) n k m.top m.methods.items table (sym c.in-Some.ensures) c.self.invariant is)
