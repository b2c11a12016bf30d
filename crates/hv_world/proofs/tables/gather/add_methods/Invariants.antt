use Rattle.std.proofs.Common.{map, take}
use Rattle.std.specs.List.{flat_map}
use Rattle.hv_syntax.specs.DeclarationViews.{method_view}
use Rattle.hv_world.specs.Eithers.{method_variables}
use Rattle.hv_world.specs.inside.Gathers.{lists_in, AreGathered}
use Rattle.hv_world.proofs.tables.gather.add_methods.Given as goal

abbrev pub invariant-loop-method : goal.invariant-loop-method
invariant-loop-method l = AreGathered (lists_in l.initial.lists) (flat_map method_variables (map method_view (take l.method-index l.methods))) (lists_in l.lists)
