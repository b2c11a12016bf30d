use Rattle.std.proofs.Common.{◌≡◌, false, is_some, rules}
use Rattle.std.proofs.lemmas.Result.{err_from_is_err_and}
use Rattle.hv_plan.specs.Lines.{is_end, before_end, lines}
use Rattle.hv_plan.specs.Plans.{IsBody}
use Rattle.hv_plan.specs.PlanLines.{plan_of}
use Rattle.hv_plan.specs.inside.Views.{line_view, lines_left}
use Rattle.hv_plan.proofs.Lemmas.{line_is_faulty}
use Rattle.hv_plan.proofs.TextOrder.{body_in_order}
use Rattle.hv_plan.proofs.read.read_body.Goals as goal

pub returns-in_err-read_line-clause-err : goal.returns-in_err-read_line-clause-err
returns-in_err-read_line-clause-err c =
    let p = err_from_is_err_and c.from_residual-in_err-read_line.result c.from_residual-in_err-read_line.ensures.1 in
    let other : is_end (line_view c.in-Some.line) ≡ false = cc (c.if-is_marker.false, c.is_marker.ensures) in
    rw (p.1, p.2)
    (line_is_faulty c.in_err-read_line.field-0.0 (is_some c.lines.root) (line_view c.in-Some.line) (lines_left c.next.new.self) (before_end (lines_left c.args.lines.now))
    c.in_err-read_line.ensures other (rw c.in-Some.ensures.line at c.lines.invariant.5))

pub invariant_of-result : goal.invariant_of-result
invariant_of-result c =
    let p = plan_of c.lines.actions c.in-Some-root.root.items c.in-Some-root.root_line c.lines.decompositions in
    let body : IsBody (before_end (lines_left c.args.lines.now)) p = search rules in
    record { order = body_in_order c.args.lines.now.number (lines c.args.lines.now.left.now) p body }
