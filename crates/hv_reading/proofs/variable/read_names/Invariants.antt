use Rattle.std.proofs.Common.{◌≡◌, drop, map}
use Rattle.hv_text.specs.Trees.{trees}
use Rattle.hv_reading.specs.declared.word.Sort.TheVariants as sorts
use Rattle.hv_reading.specs.inside.Reading.{every, behind}
use Rattle.hv_reading.specs.inside.Words.{sorted_word_of}
use Rattle.hv_syntax.specs.Views.{word_view}
use Rattle.hv_reading.proofs.variable.read_names.Given as goal

abbrev pub invariant-loop-e : goal.invariant-loop-e
invariant-loop-e l = behind (map word_view l.names.items) (every (sorted_word_of sorts.Name) (trees (drop l.e-index l.es))) ≡ every (sorted_word_of sorts.Name) (trees l.es)
