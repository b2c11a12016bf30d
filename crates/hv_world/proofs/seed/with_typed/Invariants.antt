use Rattle.std.proofs.Common.{◌≡◌, drop, map}
use Rattle.std.specs.List.{flat_map}
use Rattle.hv_text.specs.Seeds.{start_of}
use Rattle.hv_syntax.specs.Views.{typed_view}
use Rattle.hv_world.specs.inside.Seeds.{with_taken_in, written_names}
use Rattle.hv_world.proofs.seed.with_typed.Given as goal

abbrev pub invariant-loop-typed : goal.invariant-loop-typed
invariant-loop-typed l =
    with_taken_in (start_of l.seed) (flat_map written_names (map typed_view (drop l.typed-index l.list)))
    ≡ with_taken_in (start_of l.fn.start) (flat_map written_names (map typed_view l.list))
