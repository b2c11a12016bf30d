use Rattle.std.proofs.Common.{arith}
use Rattle.hv_plan.specs.LineViews.{decomposition_view, plan_view}
use Rattle.hv_plan.proofs.HeadLists.{line_of_decomposition}
use Rattle.hv_plan.proofs.shape.begins.line_at.Goals as goal

pub returns-in-Some : goal.returns-in-Some
returns-in-Some c =
    line_of_decomposition (plan_view c.args.plan.now) c.args.place c.in-Some.line (decomposition_view c.at-in-Some.result) (omega (arith, c.in-Some.ensures, c.len.ensures.count)) c.at-in-Some.ensures
