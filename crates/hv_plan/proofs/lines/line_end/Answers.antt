use Rattle.std.proofs.Common.{sym}
use Rattle.hv_plan.proofs.Lemmas.{line_ends_at, line_ends_last}
use Rattle.hv_plan.proofs.lines.line_end.Goals as goal

pub returns-in-Some-clause-end : goal.returns-in-Some-clause-end
returns-in-Some-clause-end c = sym (line_ends_at c.args.text.now c.in-Some.end c.in-Some.ensures.0 c.in-Some.ensures.1)

pub returns-in-None-clause-end : goal.returns-in-None-clause-end
returns-in-None-clause-end c = sym (line_ends_last c.args.text.now c.in-None.ensures)
