use Rattle.std.proofs.Common.{◌≤◌, length}
use Rattle.hv_plan.specs.LineViews.{plan_view}
use Rattle.hv_plan.specs.inside.Shaping.{lines_of_heads, IsFirst, IsRepeat}
use Rattle.hv_plan.specs.inside.Tables.{line_by, ArePlaces}
use Rattle.hv_plan.proofs.FirstLines.{IsTable}
use Rattle.hv_plan.proofs.shape.repeats.table_of.Given as goal

abbrev pub invariant-loop-place : goal.invariant-loop-place
invariant-loop-place l =
    (l.place ≤ length l.begins)
    × ArePlaces l.table l.begins l.place
    × IsTable l.begins (lines_of_heads (plan_view l.plan)) l.place (line_by l.table (lines_of_heads (plan_view l.plan)))
    × IsFirst (IsRepeat l.begins (lines_of_heads (plan_view l.plan)) l.place) l.repeat
