use Rattle.std.proofs.Common.{refl, ap}
use Rattle.hv_text.specs.Words.{piece_of}
use Rattle.hv_plan.proofs.Lemmas.{inside_right, inside_other}
use Rattle.hv_plan.proofs.task.inside.Goals as goal

pub returns-in-Right : goal.returns-in-Right
returns-in-Right c = inside_right c.in-Some.others.now c.args.words.now c.in-Some.last.now c.in-Right.field-0 c.in-Some.ensures.cases.0 (ap piece_of c.in-Right.is)

pub returns-in-Left : goal.returns-in-Left
returns-in-Left c = inside_other c.in-Some.others.now c.args.words.now c.in-Some.last.now c.in-Some.ensures.cases.0 (rw c.in-Left.is refl)

pub returns-in-Name : goal.returns-in-Name
returns-in-Name c = inside_other c.in-Some.others.now c.args.words.now c.in-Some.last.now c.in-Some.ensures.cases.0 (rw c.in-Name.is refl)
