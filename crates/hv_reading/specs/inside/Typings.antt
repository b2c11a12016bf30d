-- How the code reads: a typed list as far as it is read.
use Rattle.std.specs.Prelude.{List, Option, map}
use Rattle.hv_text.specs.Trees.{Trees}
use Rattle.hv_reading.specs.declared.typed.Typing.{Typing}
use Rattle.hv_reading.specs.declared.word.Sort.TheVariants as sorts
use Rattle.hv_reading.specs.inside.Reading.{behind}
use Rattle.hv_reading.specs.inside.TypedLists.{typed_by, type_name_of}
use Rattle.hv_syntax.specs.Values.{Typed, no_type}
use Rattle.hv_syntax.specs.Views.{typed_view, word_view}

-- what has its type, and behind it what the rest of the list says
abbrev pub typed_behind : Typing → Trees → Option (List Typed)
typed_behind t ts =
    behind (map typed_view t.found.items)
    (typed_by type_name_of no_type sorts.Name t.wanted (map word_view t.waiting.items) ts)
