use Rattle.std.specs.Prelude.{codes}
use Rattle.hv_text.specs.Cursors.{rest_at}
use Rattle.hv_syntax.specs.Views.{word_view}
use Rattle.hv_reading.proofs.StreamLemmas.{definition_read, whole_read}
use Rattle.hv_reading.proofs.domain.stream.read_domain_at.Goals as goal

pub returns-clause-domain : goal.returns-clause-domain
returns-clause-domain c =
    let d = definition_read (codes "domain") (rest_at c.args.from) c.in_ok-begun.begun.start (word_view c.in_ok-begun.begun.name) c.in_ok-past_all.field-0 (rest_at c.in_ok-begun.begun.sections) (rest_at c.in_ok-domain.end)
    c.in_ok-begun.ensures c.in_ok-domain.ensures.end c.in_ok-past_all.ensures in
    rw d c.in_ok-domain.ensures.domain

pub returns-clause-whole : goal.returns-clause-whole
returns-clause-whole c =
    whole_read (codes "domain") (rest_at c.args.from) c.in_ok-begun.begun.start (word_view c.in_ok-begun.begun.name) c.in_ok-past_all.field-0 (rest_at c.in_ok-begun.begun.sections) (rest_at c.in_ok-domain.end)
    c.in_ok-begun.ensures c.in_ok-domain.ensures.end c.in_ok-past_all.ensures
