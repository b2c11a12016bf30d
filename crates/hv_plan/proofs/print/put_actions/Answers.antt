use Rattle.std.proofs.Common.{refl}
use Rattle.std.specs.List.{flat_map}
use Rattle.hv_plan.specs.Canonical.{action_text}
use Rattle.hv_plan.proofs.HeadLists.{append_item}
use Rattle.hv_plan.proofs.print.put_actions.Goals as goal

pub loop-line-preserved : goal.loop-line-preserved
loop-line-preserved c =
    append_item (flat_map action_text) action_text (λ x xs. refl) _ _ _ c.loop-line.out.items c.put_action.new.out.items _ c.in-Some.ensures.steps c.in_ok-put_action.ensures
    c.loop-line.invariant
