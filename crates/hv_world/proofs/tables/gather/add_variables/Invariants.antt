use Rattle.std.proofs.Common.{[], ◌∷◌, map, take}
use Rattle.std.specs.List.{flat_map}
use Rattle.hv_syntax.specs.Views.{variable_view}
use Rattle.hv_world.specs.inside.Gathers.{lists_in, AreGathered}
use Rattle.hv_world.proofs.tables.gather.add_variables.Given as goal

abbrev pub invariant-loop-variable : goal.invariant-loop-variable
invariant-loop-variable l = AreGathered (lists_in l.initial.lists) (flat_map (λ v. v ∷ []) (map variable_view (take l.variable-index l.variables))) (lists_in l.lists)
