use Rattle.std.specs.Prelude.{codes}
use Rattle.hv_text.specs.Cursors.{rest_at}
use Rattle.hv_syntax.specs.Views.{word_view}
use Rattle.hv_reading.proofs.StreamLemmas.{definition_read, whole_read}
use Rattle.hv_reading.proofs.problem.stream.read_problem_at.Goals as goal

pub returns-in-Ok-clause-problem : goal.returns-in-Ok-clause-problem
returns-in-Ok-clause-problem c =
    let d = definition_read (codes "problem") (rest_at c.args.from) c.in_ok-begun.begun.start (word_view c.in_ok-begun.begun.name) c.in_ok-past_all.field-0 (rest_at c.in_ok-begun.begun.sections) (rest_at c.in_ok-parts.end)
    c.in_ok-begun.ensures c.in_ok-parts.ensures.end c.in_ok-past_all.ensures in
    rw (d, c.in_ok-parts.ensures.parts) c.in-Ok.ensures

pub returns-in-Ok-clause-whole : goal.returns-in-Ok-clause-whole
returns-in-Ok-clause-whole c =
    whole_read (codes "problem") (rest_at c.args.from) c.in_ok-begun.begun.start (word_view c.in_ok-begun.begun.name) c.in_ok-past_all.field-0 (rest_at c.in_ok-begun.begun.sections) (rest_at c.in_ok-parts.end)
    c.in_ok-begun.ensures c.in_ok-parts.ensures.end c.in_ok-past_all.ensures
