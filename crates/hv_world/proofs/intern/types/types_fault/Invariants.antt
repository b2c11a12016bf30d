use Rattle.std.proofs.Common.{◌≡◌, drop, map}
use Rattle.hv_syntax.specs.Views.{word_view}
use Rattle.hv_world.specs.Faults.{earlier, least}
use Rattle.hv_world.specs.StaticRules.{types_faults}
use Rattle.hv_world.specs.inside.Tables.{known_by}
use Rattle.hv_world.proofs.intern.types.types_fault.Given as goal

abbrev pub invariant-loop-word : goal.invariant-loop-word
invariant-loop-word l =
    earlier l.found (least (types_faults (known_by l.tables) l.side (map word_view (drop l.word-index l.words)))) ≡ least (types_faults (known_by l.tables) l.side (map word_view l.words))
