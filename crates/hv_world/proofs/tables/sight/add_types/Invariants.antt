use Rattle.std.proofs.Common.{◌≡◌, drop, map}
use Rattle.std.specs.List.{flat_map}
use Rattle.hv_world.specs.Known.{both_types}
use Rattle.indexmap.specs.IndexSet.{hasher_of}
use Rattle.hv_text.specs.Names.{text_of}
use Rattle.hv_syntax.specs.Views.{typed_view}
use Rattle.hv_world.specs.Names.{with_names}
use Rattle.hv_world.proofs.tables.sight.add_types.Given as goal

abbrev pub invariant-loop-typed : goal.invariant-loop-typed
invariant-loop-typed l =
    (with_names (map text_of l.names.keys) (flat_map both_types (map typed_view (drop l.typed-index l.list)))
    ≡ with_names (map text_of l.initial.names.keys) (flat_map both_types (map typed_view l.list)))
    × (hasher_of l.names ≡ hasher_of l.initial.names)
