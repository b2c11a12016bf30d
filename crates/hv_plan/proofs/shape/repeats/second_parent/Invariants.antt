use Rattle.std.proofs.Common.{◌≡◌, ◌≤◌, None, get_or, length}
use Rattle.hv_plan.specs.inside.Shaping.{IsFirst, IsRepeat}
use Rattle.hv_plan.proofs.FirstLines.{IsTable}
use Rattle.hv_plan.proofs.shape.repeats.second_parent.Given as goal

abbrev pub invariant-loop-k : goal.invariant-loop-k
invariant-loop-k l =
    (l.k ≤ length l.places)
    × (length l.first_lines.items ≡ l.count)
    × IsTable l.places l.lines l.k (λ place. get_or l.first_lines.items place None)
    × IsFirst (IsRepeat l.places l.lines l.k) l.second
