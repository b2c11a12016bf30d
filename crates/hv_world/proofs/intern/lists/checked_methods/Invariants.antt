use Rattle.std.proofs.Common.{◌≡◌, ◌++◌, None, drop, map}
use Rattle.std.specs.List.{flat_map}
use Rattle.hv_syntax.specs.DeclarationViews.{method_view as said_method}
use Rattle.hv_world.specs.declared.fault.Side.TheVariants as sides
use Rattle.hv_world.specs.Faults.{earlier, least}
use Rattle.hv_world.specs.MethodViews.{method_view}
use Rattle.hv_world.specs.StaticRules.{method_faults}
use Rattle.hv_world.specs.inside.Tables.{known_by}
use Rattle.hv_world.specs.Worlds.{method_in}
use Rattle.hv_world.proofs.intern.lists.checked_methods.Given as goal

abbrev pub invariant-loop-method : goal.invariant-loop-method
invariant-loop-method l =
    (l.found ≡ None
    → map method_view l.numbered.items ++ map (method_in (known_by l.tables)) (map said_method (drop l.method-index l.methods)) ≡ map (method_in (known_by l.tables)) (map said_method l.methods))
    × (earlier l.found (least (flat_map (method_faults (known_by l.tables) sides.Domain) (map said_method (drop l.method-index l.methods))))
    ≡ least (flat_map (method_faults (known_by l.tables) sides.Domain) (map said_method l.methods)))
