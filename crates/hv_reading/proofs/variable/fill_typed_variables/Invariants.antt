use Rattle.std.proofs.Common.{◌≡◌, [], drop, map}
use Rattle.hv_text.specs.Trees.{trees}
use Rattle.hv_reading.specs.declared.word.Sort.TheVariants as sorts
use Rattle.hv_reading.specs.inside.Reading.{behind}
use Rattle.hv_reading.specs.inside.TypedLists.{typed_by, type_of, typed_variables_of}
use Rattle.hv_syntax.specs.Views.{variable_view, word_view}
use Rattle.hv_reading.proofs.variable.fill_typed_variables.Given as goal

-- what has its type, and behind it the rest of the list, where these variables wait
abbrev pub invariant-loop-e : goal.invariant-loop-e
invariant-loop-e l = behind (map variable_view l.found.items) (typed_by type_of [] sorts.Variable l.wanted (map word_view l.waiting.items) (trees (drop l.e-index l.es))) ≡ typed_variables_of (trees l.es)
