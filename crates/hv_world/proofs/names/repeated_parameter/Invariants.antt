use Rattle.std.proofs.Common.{◌≡◌, map}
use Rattle.hv_syntax.specs.Views.{variable_view}
use Rattle.hv_world.specs.Names.{repeated}
use Rattle.hv_world.specs.Known.{typed_words}
use Rattle.hv_world.specs.Faults.{earlier, faults_at, least}
use Rattle.hv_world.proofs.RepeatLemmas.{repeats_from, word_of}
use Rattle.hv_world.proofs.names.repeated_parameter.Given as goal

abbrev pub invariant-loop-place : goal.invariant-loop-place
invariant-loop-place l =
    earlier l.found (repeats_from word_of l.kind l.side l.list l.place) ≡ least (faults_at l.kind l.side (repeated (typed_words (map variable_view l.list))))
