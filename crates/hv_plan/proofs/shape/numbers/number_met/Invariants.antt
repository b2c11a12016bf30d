use Rattle.std.proofs.Common.{◌≡◌, ◌≤◌, length}
use Rattle.hv_plan.specs.inside.Shaping.{IsNumbering}
use Rattle.hv_plan.proofs.shape.numbers.number_met.Given as goal

abbrev pub invariant-met : goal.invariant-met
invariant-met l =
    (l.at ≤ length l.met.items)
    × (length l.numbering.numbers.items ≡ l.count)
    × IsNumbering l.actions l.at l.met.items l.numbering.lines.items l.numbering.numbers.items

abbrev pub decreases-met : goal.decreases-met
decreases-met l = l.at
