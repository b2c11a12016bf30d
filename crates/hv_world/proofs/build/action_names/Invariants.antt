use Rattle.std.proofs.Common.{◌≡◌, ◌++◌, drop, map}
use Rattle.hv_syntax.specs.Views.{word_view}
use Rattle.hv_syntax.specs.DeclarationViews.{action_view as said_action}
use Rattle.hv_world.specs.Names.{names}
use Rattle.hv_world.specs.Worlds.{said_action_names}
use Rattle.hv_world.proofs.build.action_names.Given as goal

abbrev pub invariant-loop-action : goal.invariant-loop-action
invariant-loop-action l = names (map word_view l.words.items) ++ said_action_names (map said_action (drop l.action-index l.actions)) ≡ said_action_names (map said_action l.actions)
