use Rattle.std.proofs.Common.{◌≡◌, ◌++◌, take, map}
use Rattle.hv_reading.specs.TypedLists.{with_type}
use Rattle.hv_syntax.specs.Views.{variable_view, word_view}
use Rattle.hv_reading.proofs.variable.give_type.Given as goal

abbrev pub invariant-loop-name : goal.invariant-loop-name
invariant-loop-name l = map variable_view l.found.items ≡ map variable_view l.initial.found.items ++ with_type (map word_view l.types.value.items) (map word_view (take l.name-index l.waiting))
