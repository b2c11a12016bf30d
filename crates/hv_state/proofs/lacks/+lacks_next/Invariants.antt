use Rattle.std.proofs.Common.{◌+◌, length, map, drop}
use Rattle.hv_world.specs.Bindings.{objects_in}
use Rattle.hv_world.specs.Values.{formulas_of}
use Rattle.hv_world.specs.Views.{formula_view}
use Rattle.hv_state.specs.inside.Lacks.{LackAll}
use Rattle.hv_state.proofs.Levels.{levels, most_levels}
use Rattle.hv_state.proofs.lacks.+lacks_next.Given as goal

abbrev pub decreases-lacks_next : goal.decreases-lacks_next
decreases-lacks_next l = levels (formula_view l.formula.now)

abbrev pub decreases-all_lack_next : goal.decreases-all_lack_next
decreases-all_lack_next l = most_levels (formulas_of (map formula_view l.parts.now)) + 1

-- what is left decides
abbrev pub invariant-all_lack_next-loop-part : goal.invariant-all_lack_next-loop-part
invariant-all_lack_next-loop-part l =
    LackAll (length (objects_in l.binding)) (formulas_of (map formula_view (drop l.part-index l.parts))) → LackAll (length (objects_in l.binding)) (formulas_of (map formula_view l.parts))
