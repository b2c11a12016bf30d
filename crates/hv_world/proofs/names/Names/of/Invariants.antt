use Rattle.std.proofs.Common.{◌≡◌, map, take}
use Rattle.hv_syntax.specs.Views.{word_view}
use Rattle.hv_world.specs.Names.{names, place_in}
use Rattle.hv_world.specs.inside.Tables.{places_by, seed_of}
use Rattle.hv_world.specs.inside.Seeds.{start_from}
use Rattle.hv_world.proofs.names.Names.of.Given as goal

abbrev pub invariant-loop-place : goal.invariant-loop-place
invariant-loop-place l =
    (places_by l.names ≡ place_in (names (map word_view (take l.place l.words))))
    × (seed_of l.names ≡ start_from (names (map word_view l.words)))
