use Rattle.std.proofs.Common.{◌≡◌, drop, map}
use Rattle.hv_text.specs.Seeds.{start_of}
use Rattle.hv_syntax.specs.Views.{word_view}
use Rattle.hv_world.specs.Names.{names}
use Rattle.hv_world.specs.inside.Seeds.{with_taken_in}
use Rattle.hv_world.proofs.seed.with_words.Given as goal

abbrev pub invariant-loop-word : goal.invariant-loop-word
invariant-loop-word l =
    with_taken_in (start_of l.seed) (names (map word_view (drop l.word-index l.words)))
    ≡ with_taken_in (start_of l.fn.start) (names (map word_view l.words))
