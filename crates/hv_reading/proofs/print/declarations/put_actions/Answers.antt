use Rattle.std.proofs.Common.{arith}
use Rattle.hv_reading.specs.CanonicalSections.{action_section}
use Rattle.hv_syntax.specs.DeclarationViews.{action_view}
use Rattle.hv_reading.proofs.PrintLemmas.{put_line}
use Rattle.hv_reading.proofs.print.declarations.put_actions.Goals as goal

pub loop-action-preserved : goal.loop-action-preserved
loop-action-preserved c =
    let l = c.loop-action in
    put_line action_section action_view c.args.actions.now l.action-index c.action-item.result l.out.items _ (omega arith) c.action-item.is c.in_ok-put_action.ensures c.in_ok-push.ensures.items l.invariant
