use Rattle.std.proofs.Common.{◌≡◌, ◌↔◌, drop}
use Rattle.hv_state.proofs.rows.are_numbers.Given as goal

-- what is left decides
abbrev pub invariant-loop-object : goal.invariant-loop-object
invariant-loop-object l = (drop l.object-index l.objects ≡ l.left) ↔ (l.objects ≡ l.numbers)
