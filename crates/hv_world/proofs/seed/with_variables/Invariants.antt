use Rattle.std.proofs.Common.{◌≡◌, drop, map}
use Rattle.hv_text.specs.Seeds.{start_of}
use Rattle.hv_syntax.specs.Views.{variable_view}
use Rattle.hv_world.specs.Known.{variables}
use Rattle.hv_world.specs.inside.Seeds.{with_taken_in}
use Rattle.hv_world.proofs.seed.with_variables.Given as goal

abbrev pub invariant-loop-variable : goal.invariant-loop-variable
invariant-loop-variable l =
    with_taken_in (start_of l.seed) (variables (map variable_view (drop l.variable-index l.list)))
    ≡ with_taken_in (start_of l.fn.start) (variables (map variable_view l.list))
