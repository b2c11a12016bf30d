use Rattle.std.proofs.Common.{◌≡◌, ◌++◌, drop, map}
use Rattle.hv_syntax.specs.Views.{word_view}
use Rattle.hv_syntax.specs.DeclarationViews.{predicate_view}
use Rattle.hv_world.specs.Known.{predicate_words}
use Rattle.hv_world.proofs.tables.words.predicate_words.Given as goal

abbrev pub invariant-loop-predicate : goal.invariant-loop-predicate
invariant-loop-predicate l = map word_view l.words.items ++ predicate_words (map predicate_view (drop l.predicate-index l.predicates)) ≡ predicate_words (map predicate_view l.predicates)
