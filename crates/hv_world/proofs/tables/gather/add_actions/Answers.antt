use Rattle.std.proofs.Common.{map, arith, refl}
use Rattle.hv_syntax.specs.DeclarationViews.{action_view}
use Rattle.std.specs.List.{flat_map}
use Rattle.hv_world.specs.Eithers.{action_variables}
use Rattle.hv_world.specs.inside.Gathers.{lists_in}
use Rattle.hv_world.proofs.GatherLemmas.{gathered_next, gathered_end}
use Rattle.hv_world.proofs.tables.gather.add_actions.Goals as goal

pub loop-action-preserved : goal.loop-action-preserved
loop-action-preserved c =
    let l = c.loop-action in
    gathered_next action_view action_variables c.args.actions.now l.action-index (lists_in c.args.lists.now) (lists_in l.lists) c.action-item.result (lists_in c.add_action.new.lists) (omega arith) c.action-item.is l.invariant c.in_ok-add_action.ensures

pub returns : goal.returns
returns c =
    let l = c.loop-action in
    let xs = c.args.actions.now in
    gathered_end action_view action_variables xs l.action-index (lists_in c.args.lists.now) (lists_in l.lists) (flat_map action_variables (map action_view xs)) c.loop-action-test.false refl l.invariant
