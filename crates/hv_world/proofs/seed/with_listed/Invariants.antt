use Rattle.std.proofs.Common.{◌≡◌, drop, map}
use Rattle.hv_world.specs.Known.{variables}
use Rattle.hv_text.specs.Seeds.{start_of}
use Rattle.hv_syntax.specs.Views.{typed_view}
use Rattle.hv_world.specs.inside.Seeds.{with_taken_in}
use Rattle.hv_world.proofs.seed.with_listed.Given as goal

abbrev pub invariant-loop-typed : goal.invariant-loop-typed
invariant-loop-typed l =
    with_taken_in (start_of l.seed) (variables (map typed_view (drop l.typed-index l.list)))
    ≡ with_taken_in (start_of l.fn.start) (variables (map typed_view l.list))
