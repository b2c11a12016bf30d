use Rattle.std.proofs.Common.{Option, ℕ, subst}
use Rattle.hv_plan.specs.LineViews.{plan_view}
use Rattle.hv_plan.specs.Shapes.{ids}
use Rattle.hv_plan.specs.inside.Shaping.{lines_of_heads}
use Rattle.hv_plan.specs.inside.Tables.{IsLineRepeat}
use Rattle.hv_plan.proofs.PlaceTables.{no_repeat}
use Rattle.hv_plan.proofs.ShapeFaults.{none_below, repeats_are}
use Rattle.hv_plan.proofs.shape.known_lines.Goals as goal

pub none_at-requires-clause-below : goal.none_at-requires-clause-below
none_at-requires-clause-below c = none_below (plan_view c.args.plan.now)

pub none_at-requires-clause-first : goal.none_at-requires-clause-first
none_at-requires-clause-first c = repeats_are (plan_view c.args.plan.now) c.args.plan.now.order c.in_ok-table.field-0.repeat c.in_ok-table.ensures.repeat

pub returns-clause-once : goal.returns-clause-once
returns-clause-once c =
    let p = plan_view c.args.plan.now in
    let P : Option ℕ → Type 0 = IsLineRepeat p in
    no_repeat (ids p) (lines_of_heads p) (subst P c.in_ok-none_at.ensures.none c.in_ok-table.ensures.repeat)
