use Rattle.hv_syntax.specs.DeclarationViews.{action_view as said_action}
use Rattle.hv_world.specs.declared.fault.Side.TheVariants as sides
use Rattle.hv_world.specs.SectionViews.{action_view}
use Rattle.hv_world.specs.StaticRules.{action_faults}
use Rattle.hv_world.specs.Worlds.{action_in}
use Rattle.hv_world.specs.inside.Tables.{known_by}
use Rattle.hv_world.proofs.CheckedLemmas.{AreChecked}
use Rattle.hv_world.proofs.intern.lists.checked_actions.Given as goal

abbrev pub invariant-loop-action : goal.invariant-loop-action
invariant-loop-action l = AreChecked said_action (action_in (known_by l.tables)) action_view (action_faults (known_by l.tables) sides.Domain) l.actions l.action-index l.numbered.value.items l.numbered.fault
