use Rattle.std.proofs.Common.{◌≡◌, ◌++◌, drop, map}
use Rattle.hv_syntax.specs.Views.{word_view}
use Rattle.hv_syntax.specs.DeclarationViews.{method_view}
use Rattle.hv_world.specs.StaticRules.{method_words}
use Rattle.hv_world.proofs.tables.words.method_words.Given as goal

abbrev pub invariant-loop-method : goal.invariant-loop-method
invariant-loop-method l = map word_view l.words.items ++ method_words (map method_view (drop l.method-index l.methods)) ≡ method_words (map method_view l.methods)
