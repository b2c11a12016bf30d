use Rattle.std.proofs.Common.{◌≡◌, ◌++◌, drop, map}
use Rattle.hv_syntax.specs.Views.{word_view}
use Rattle.hv_world.specs.inside.Tables.{declaration_view}
use Rattle.hv_world.specs.Known.{declared_words}
use Rattle.hv_world.proofs.tables.words.declared_words.Given as goal

abbrev pub invariant-loop-declared : goal.invariant-loop-declared
invariant-loop-declared l = map word_view l.words.items ++ declared_words (map declaration_view (drop l.declared-index l.list)) ≡ declared_words (map declaration_view l.list)
