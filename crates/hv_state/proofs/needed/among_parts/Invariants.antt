use Rattle.std.proofs.Common.{◌≡◌, ◌++◌, map, drop}
use Rattle.hv_world.specs.Values.{formulas_of}
use Rattle.hv_world.specs.Views.{atom_view, formula_view}
use Rattle.hv_state.specs.Needed.{needed_alone, of_parts}
use Rattle.hv_state.proofs.needed.among_parts.Given as goal

abbrev pub invariant-loop-part : goal.invariant-loop-part
invariant-loop-part l =
    map (λ a. atom_view a.now) l.atoms.items ++ of_parts needed_alone (formulas_of (map formula_view (drop l.part-index l.parts))) ≡ of_parts needed_alone (formulas_of (map formula_view l.parts))
