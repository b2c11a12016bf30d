use Rattle.std.proofs.Common.{◌≡◌, drop, map}
use Rattle.hv_syntax.specs.Views.{typed_view}
use Rattle.hv_world.specs.Faults.{earlier, least}
use Rattle.hv_world.specs.StaticRules.{typed_faults}
use Rattle.hv_world.specs.inside.Tables.{known_by}
use Rattle.hv_world.proofs.check.types.typed_fault.Given as goal

abbrev pub invariant-loop-typed : goal.invariant-loop-typed
invariant-loop-typed l =
    earlier l.found (least (typed_faults (known_by l.tables) l.side (map typed_view (drop l.typed-index l.list)))) ≡ least (typed_faults (known_by l.tables) l.side (map typed_view l.list))
