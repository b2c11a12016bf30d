use Rattle.std.proofs.Common.{◌≡◌, ◌++◌, drop, map}
use Rattle.hv_syntax.specs.DeclarationViews.{action_view}
use Rattle.hv_world.specs.Known.{action_declarations}
use Rattle.hv_world.specs.inside.Tables.{declaration_view}
use Rattle.hv_world.proofs.tables.sections.action_declarations.Given as goal

abbrev pub invariant-loop-number : goal.invariant-loop-number
invariant-loop-number l =
    map declaration_view l.found.items ++ action_declarations l.number (map action_view (drop l.number l.actions)) ≡ action_declarations 0 (map action_view l.actions)
