use Rattle.hv_text.specs.Words.{pieces}
use Rattle.hv_plan.proofs.Lemmas.{not_only}
use Rattle.hv_plan.proofs.lines.begins_otherwise.Goals as goal

pub returns : goal.returns
returns c = λ apart.
    not_only c.in-Some-Some.letter c.in-Some-Some.first (pieces c.args.line.now) c.args.marker.now
    c.in-Some-Some.ensures.word c.in-Some-Some.ensures'.byte apart
