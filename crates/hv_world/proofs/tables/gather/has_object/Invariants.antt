use Rattle.std.proofs.Common.{◌≡◌, map, drop, codes}
use Rattle.hv_syntax.specs.Views.{word_view}
use Rattle.hv_world.specs.Names.{names, is_among}
use Rattle.hv_world.proofs.tables.gather.has_object.Given as goal

abbrev pub invariant-loop-word : goal.invariant-loop-word
invariant-loop-word l = is_among (names (map word_view (drop l.word-index l.words))) (codes "object") ≡ is_among (names (map word_view l.words)) (codes "object")
