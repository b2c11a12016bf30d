use Rattle.std.proofs.Common.{map, subst}
use Rattle.std.specs.Rc.{rc_value}
use Rattle.hv_lists.proofs.Places.{map_end}
use Rattle.hv_world.specs.MethodViews.{method_view}
use Rattle.hv_world.specs.declared.method.Method as code_method
use Rattle.hv_order.specs.inside.Sequencings.{IsSequencingOf}
use Rattle.hv_order.proofs.Writing.{zip_more}
use Rattle.hv_order.proofs.sequencing.all_shared.Goals as goal

pub loop-method-preserved : goal.loop-method-preserved
loop-method-preserved c =
    let s = c.in_ok-shared.field-0 in
    let is = subst (λ (m : code_method.Method). IsSequencingOf (method_view m) s.value) c.method-item.is c.in_ok-shared.ensures in
    let made = c.loop-method.made.items in
    rw (c.in_ok-push.ensures.items, map_end rc_value made s)
    (zip_more method_view IsSequencingOf c.args.methods.now c.loop-method.method-index c.method-item.result (map rc_value made) s.value c.loop-method-test.true c.loop-method.invariant is)
