use Rattle.std.proofs.Common.{◌≡◌, ◌++◌, drop, map}
use Rattle.hv_syntax.specs.DeclarationViews.{task_view}
use Rattle.hv_world.specs.Known.{task_declarations}
use Rattle.hv_world.specs.inside.Tables.{declaration_view}
use Rattle.hv_world.proofs.tables.sections.task_declarations.Given as goal

abbrev pub invariant-loop-number : goal.invariant-loop-number
invariant-loop-number l =
    map declaration_view l.found.items ++ task_declarations l.number (map task_view (drop l.number l.tasks)) ≡ task_declarations 0 (map task_view l.tasks)
