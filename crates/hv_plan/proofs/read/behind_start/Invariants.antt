use Rattle.std.proofs.Common.{◌≡◌, length}
use Rattle.std.specs.List.{list_any}
use Rattle.hv_plan.specs.Lines.{is_start, behind_start}
use Rattle.hv_plan.specs.inside.Views.{lines_left, IsWithin}
use Rattle.hv_plan.proofs.read.behind_start.Given as goal

-- the lines that are left decide as all lines do
abbrev pub invariant-lines : goal.invariant-lines
invariant-lines l =
    IsWithin l.lines
    × (list_any is_start (lines_left l.lines) ≡ list_any is_start (lines_left l.fn.lines))
    × (behind_start (lines_left l.lines) ≡ behind_start (lines_left l.fn.lines))

abbrev pub decreases-lines : goal.decreases-lines
decreases-lines l = length l.lines.left.now
