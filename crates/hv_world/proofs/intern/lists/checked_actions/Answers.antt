use Rattle.std.proofs.Common.{arith}
use Rattle.hv_syntax.specs.DeclarationViews.{action_view as said_action}
use Rattle.hv_world.specs.declared.fault.Side.TheVariants as sides
use Rattle.hv_world.specs.SectionViews.{action_view}
use Rattle.hv_world.specs.StaticRules.{action_faults}
use Rattle.hv_world.specs.Worlds.{action_in}
use Rattle.hv_world.specs.inside.Tables.{known_by}
use Rattle.hv_world.proofs.CheckedLemmas.{one_more}
use Rattle.hv_world.proofs.intern.lists.checked_actions.Goals as goal

pub loop-action-preserved : goal.loop-action-preserved
loop-action-preserved c =
    let l = c.loop-action in
    let a = c.args in
    let k = known_by a.tables.now in
    one_more said_action (action_in k) action_view (action_faults k sides.Domain) a.actions.now l.action-index c.action-item.result l.numbered.value.items l.numbered.fault l.invariant (omega arith) c.action-item.is c.in_ok-checked_action.ensures.value c.in_ok-checked_action.ensures.fault c.in_ok-push.ensures.value c.in_ok-push.ensures.fault
