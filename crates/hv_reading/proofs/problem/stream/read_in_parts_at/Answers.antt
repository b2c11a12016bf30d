use Rattle.std.proofs.Common.{ap, map}
use Rattle.hv_text.specs.Names.{text_of}
use Rattle.hv_text.specs.Rests.{here}
use Rattle.hv_text.specs.Cursors.{rest_at}
use Rattle.hv_syntax.specs.ProblemViews.{problem_section_view}
use Rattle.hv_reading.proofs.StreamLemmas.{once_read}
use Rattle.hv_reading.proofs.problem.stream.read_in_parts_at.Goals as goal

pub returns-clause-read : goal.returns-clause-read
returns-clause-read c =
    let begun = c.in-Some.begun in
    let once = rw (c.in-Some-2.is) at c.in_ok-section.ensures.once in
    let says = rw (c.in-Some-2.is) at c.in_ok-section.ensures.section in
    let ends = rw (c.in-Some-2.is) at c.in_ok-section.ensures.end in
    let whole = c.in-Some-leave.ensures.some in
    once_read (problem_section_view c.in-Some-2.section) (map text_of c.args.heads.now) begun.start begun.place (text_of begun.name) (rest_at c.args.from) (rest_at begun.members) (rest_at c.in-Some-2.end)
    (rest_at c.in-Some-leave.after) c.in-Some-leave._past c.in-Some.ensures.begun once (c.may_stand.ensures c.if-not-may_stand.false)
    (says (ap here whole)) ends whole
