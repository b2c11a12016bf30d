use Rattle.std.proofs.Common.{◌≡◌, ◌+◌, ◌++◌, drop, length, map}
use Rattle.hv_world.specs.inside.Tables.{known_by, names_in}
use Rattle.hv_world.specs.Worlds.{eithers_pairs}
use Rattle.hv_world.proofs.intern.lists.add_eithers_pairs.Given as goal

abbrev pub invariant-loop-place : goal.invariant-loop-place
invariant-loop-place l =
    map (λ p. (p.0.0, p.1.0)) l.pairs.items ++ eithers_pairs (known_by l.tables) (length (known_by l.tables).types + l.place) (map names_in (drop l.place l.eithers))
    ≡ map (λ p. (p.0.0, p.1.0)) l.initial.pairs.items ++ eithers_pairs (known_by l.tables) (length (known_by l.tables).types) (known_by l.tables).eithers
