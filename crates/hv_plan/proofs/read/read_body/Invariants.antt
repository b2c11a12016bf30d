use Rattle.std.proofs.Common.{◌≡◌, ◌++◌, length, is_some, false}
use Rattle.std.specs.List.{list_any}
use Rattle.hv_plan.specs.Lines.{before_end, is_end}
use Rattle.hv_plan.specs.inside.Views.{lines_left, IsWithin}
use Rattle.hv_plan.specs.LineViews.{actions_view, decompositions_view, AreTidy, AreTidyActions}
use Rattle.hv_plan.specs.Plans.{actions_of, decompositions_of, roots_of, fault_from}
use Rattle.hv_plan.proofs.Lemmas.{found_roots}
use Rattle.hv_plan.proofs.read.read_body.Given as goal

-- what was read and what is left give what the whole gives
abbrev pub invariant-lines : goal.invariant-lines
invariant-lines l =
    IsWithin l.lines
    × (list_any is_end (lines_left l.lines) ≡ list_any is_end (lines_left l.fn.lines))
    × (actions_view l.actions ++ actions_of (before_end (lines_left l.lines)) ≡ actions_of (before_end (lines_left l.fn.lines)))
    × (decompositions_view l.decompositions ++ decompositions_of (before_end (lines_left l.lines)) ≡ decompositions_of (before_end (lines_left l.fn.lines)))
    × (found_roots l.root ++ roots_of (before_end (lines_left l.lines)) ≡ roots_of (before_end (lines_left l.fn.lines)))
    × (fault_from (is_some l.root) (before_end (lines_left l.lines)) ≡ fault_from false (before_end (lines_left l.fn.lines)))
    × AreTidyActions l.actions
    × AreTidy l.decompositions

abbrev pub decreases-lines : goal.decreases-lines
decreases-lines l = length l.lines.left.now
