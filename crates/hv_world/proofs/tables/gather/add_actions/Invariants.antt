use Rattle.std.proofs.Common.{map, take}
use Rattle.std.specs.List.{flat_map}
use Rattle.hv_syntax.specs.DeclarationViews.{action_view}
use Rattle.hv_world.specs.Eithers.{action_variables}
use Rattle.hv_world.specs.inside.Gathers.{lists_in, AreGathered}
use Rattle.hv_world.proofs.tables.gather.add_actions.Given as goal

abbrev pub invariant-loop-action : goal.invariant-loop-action
invariant-loop-action l = AreGathered (lists_in l.initial.lists) (flat_map action_variables (map action_view (take l.action-index l.actions))) (lists_in l.lists)
