use Rattle.std.proofs.Common.{◌≡◌, map, take, drop}
use Rattle.hv_syntax.specs.Views.{word_view}
use Rattle.hv_world.specs.Names.{names, repeated, repeated_after}
use Rattle.hv_world.specs.Faults.{earlier, faults_at, least}
use Rattle.hv_world.proofs.names.repeated_word.Given as goal

abbrev pub invariant-loop-place : goal.invariant-loop-place
invariant-loop-place l =
    earlier l.found (least (faults_at l.kind l.side (repeated_after (names (map word_view (take l.place l.words))) (map word_view (drop l.place l.words)))))
    ≡ least (faults_at l.kind l.side (repeated (map word_view l.words)))
