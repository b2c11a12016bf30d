use Rattle.std.proofs.Common.{◌≡◌, ◌++◌, drop, map}
use Rattle.hv_reading.specs.Canonical.{spaced, each}
use Rattle.hv_reading.specs.Canonical.{word_expression}
use Rattle.hv_syntax.specs.Views.{word_view}
use Rattle.hv_reading.proofs.print.terms.put_words.Given as goal

abbrev pub invariant-loop-word : goal.invariant-loop-word
invariant-loop-word l = l.out.items ++ spaced (each word_expression (map word_view (drop l.word-index l.words))) ≡ l.initial.out.items ++ spaced (each word_expression (map word_view l.words))
