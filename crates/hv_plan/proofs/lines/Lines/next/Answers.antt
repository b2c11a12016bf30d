use Rattle.std.proofs.Common.{◌≡◌, ◌==◌, length, false}
use Rattle.hv_plan.proofs.Lemmas.{next_line}
use Rattle.hv_plan.proofs.lines.Lines.next.Goals as goal

pub returns-clause-line : goal.returns-clause-line
returns-clause-line c =
    let some : (length c.args.self.now.left.now == 0) ≡ false = cc (c.if-is_empty.false, c.is_empty.ensures) in
    let next = next_line c.args.self.now.number c.args.self.now.left.now some in
    rw (c.behind-self.ensures) (rw (← c.line_end-end.ensures.end) at next)
