use Rattle.std.proofs.Common.{map, take}
use Rattle.std.specs.List.{flat_map}
use Rattle.hv_syntax.specs.Views.{formula_view}
use Rattle.hv_world.specs.Eithers.{formula_variables}
use Rattle.hv_world.specs.inside.Gathers.{lists_in, AreGathered}
use Rattle.hv_world.proofs.tables.gather.+formula.Given as goal

abbrev pub invariant-add_formulas-loop-formula : goal.invariant-add_formulas-loop-formula
invariant-add_formulas-loop-formula l = AreGathered (lists_in l.initial.lists) (flat_map formula_variables (map formula_view (take l.formula-index l.formulas))) (lists_in l.lists)
