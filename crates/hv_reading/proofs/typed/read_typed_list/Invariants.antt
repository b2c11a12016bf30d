use Rattle.std.proofs.Common.{◌≡◌, drop}
use Rattle.hv_text.specs.Trees.{trees}
use Rattle.hv_reading.specs.inside.TypedLists.{typed_list_of}
use Rattle.hv_reading.specs.inside.Typings.{typed_behind}
use Rattle.hv_reading.proofs.typed.read_typed_list.Given as goal

-- what is read, and behind it the rest of the list
abbrev pub invariant-loop-e : goal.invariant-loop-e
invariant-loop-e l = typed_behind l.typing (trees (drop l.e-index l.es)) ≡ typed_list_of (trees l.es)
