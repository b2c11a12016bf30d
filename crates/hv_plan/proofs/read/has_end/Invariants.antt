use Rattle.std.proofs.Common.{◌≡◌, length}
use Rattle.std.specs.List.{list_any}
use Rattle.hv_plan.specs.Lines.{is_end}
use Rattle.hv_plan.specs.inside.Views.{lines_left, IsWithin}
use Rattle.hv_plan.proofs.read.has_end.Given as goal

-- the lines that are left decide as all lines do
abbrev pub invariant-lines : goal.invariant-lines
invariant-lines l = IsWithin l.lines × (list_any is_end (lines_left l.lines) ≡ list_any is_end (lines_left l.fn.lines))

abbrev pub decreases-lines : goal.decreases-lines
decreases-lines l = length l.lines.left.now
