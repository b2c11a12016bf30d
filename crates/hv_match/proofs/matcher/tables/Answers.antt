use Rattle.std.proofs.Common.{subst}
use Rattle.hv_world.specs.MethodViews.{method_view}
use Rattle.hv_world.specs.WorldViews.{world_view}
use Rattle.hv_world.specs.declared.method.Method as code_method
use Rattle.hv_match.specs.inside.Ranges.{IsTableOf}
use Rattle.hv_match.proofs.NodeTables.{more_tables}
use Rattle.hv_match.proofs.matcher.tables.Goals as goal

pub loop-method-preserved : goal.loop-method-preserved
loop-method-preserved c =
    let w = world_view c.args.world.now in
    let t = c.in_ok-table.table in
    let is = subst (λ (m : code_method.Method). IsTableOf w (method_view m) t) c.method-item.is c.in_ok-table.ensures in
    rw c.in_ok-push.ensures.items (more_tables w c.args.methods.now c.loop-method.method-index c.method-item.result c.loop-method.tables.items t c.loop-method-test.true c.loop-method.invariant is)
