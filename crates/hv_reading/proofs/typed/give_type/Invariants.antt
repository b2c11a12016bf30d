use Rattle.std.proofs.Common.{◌≡◌, ◌++◌, take, map}
use Rattle.hv_reading.specs.TypedLists.{with_type}
use Rattle.hv_syntax.specs.Views.{typed_view, type_view, word_view}
use Rattle.hv_reading.proofs.typed.give_type.Given as goal

abbrev pub invariant-loop-name : goal.invariant-loop-name
invariant-loop-name l = map typed_view l.found.items ≡ map typed_view l.initial.found.items ++ with_type (type_view l.of) (map word_view (take l.name-index l.waiting))
