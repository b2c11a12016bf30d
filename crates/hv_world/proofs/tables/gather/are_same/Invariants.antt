use Rattle.std.proofs.Common.{◌≡◌, map, drop}
use Rattle.hv_text.specs.Names.{text_of}
use Rattle.hv_syntax.specs.Views.{word_view}
use Rattle.hv_world.specs.Names.{names}
use Rattle.hv_world.specs.Eithers.{are_same}
use Rattle.hv_world.proofs.tables.gather.are_same.Given as goal

abbrev pub invariant-loop-place : goal.invariant-loop-place
invariant-loop-place l = are_same (map text_of (drop l.place l.list)) (names (map word_view (drop l.place l.words))) ≡ are_same (map text_of l.list) (names (map word_view l.words))
