use Rattle.std.proofs.Common.{◌≡◌, map, take}
use Rattle.hv_syntax.specs.Views.{word_view}
use Rattle.hv_world.specs.Names.{names}
use Rattle.hv_world.specs.inside.Tables.{names_in}
use Rattle.hv_world.proofs.tables.gather.names_of.Given as goal

abbrev pub invariant-loop-word : goal.invariant-loop-word
invariant-loop-word l = names_in l.list ≡ names (map word_view (take l.word-index l.words))
