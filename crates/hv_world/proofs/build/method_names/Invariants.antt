use Rattle.std.proofs.Common.{◌≡◌, ◌++◌, drop, map}
use Rattle.hv_syntax.specs.Views.{word_view}
use Rattle.hv_syntax.specs.DeclarationViews.{method_view as said_method}
use Rattle.hv_world.specs.Names.{names}
use Rattle.hv_world.specs.Worlds.{said_method_names}
use Rattle.hv_world.proofs.build.method_names.Given as goal

abbrev pub invariant-loop-method : goal.invariant-loop-method
invariant-loop-method l = names (map word_view l.words.items) ++ said_method_names (map said_method (drop l.method-index l.methods)) ≡ said_method_names (map said_method l.methods)
