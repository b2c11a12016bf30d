use Rattle.std.proofs.Common.{◌≡◌, ◌↔◌, drop}
use Rattle.hv_state.specs.inside.Rows.{objects_with}
use Rattle.hv_state.proofs.rows.are_of_terms.Given as goal

-- what is left decides
abbrev pub invariant-loop-object : goal.invariant-loop-object
invariant-loop-object l = (drop l.object-index l.objects ≡ objects_with l.binding l.left) ↔ (l.objects ≡ objects_with l.binding l.terms)
