use Rattle.std.proofs.Common.{◌≡◌, map, take}
use Rattle.hv_syntax.specs.Views.{variable_view}
use Rattle.hv_world.specs.Names.{place_in}
use Rattle.hv_world.specs.inside.Tables.{places_by, seed_of}
use Rattle.hv_world.specs.Known.{variables}
use Rattle.hv_world.specs.inside.Seeds.{start_from}
use Rattle.hv_world.proofs.names.Names.of_variables.Given as goal

abbrev pub invariant-loop-place : goal.invariant-loop-place
invariant-loop-place l =
    (places_by l.names ≡ place_in (map (λ t. (variable_view t).name.text) (take l.place l.list)))
    × (seed_of l.names ≡ start_from (variables (map variable_view l.list)))
