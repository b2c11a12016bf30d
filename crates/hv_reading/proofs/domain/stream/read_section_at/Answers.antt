use Rattle.std.proofs.Common.{map}
use Rattle.hv_text.specs.Names.{text_of}
use Rattle.hv_text.specs.Trees.{tree, trees}
use Rattle.hv_text.specs.Cursors.{rest_at}
use Rattle.hv_reading.specs.Standings.{domain_standing}
use Rattle.hv_reading.specs.inside.Domains.{domain_section_by}
use Rattle.hv_syntax.specs.DomainViews.{domain_section_view}
use Rattle.hv_reading.proofs.StreamLemmas.{listed_read}
use Rattle.hv_reading.proofs.domain.stream.read_section_at.Goals as goal

pub returns-clause-read : goal.returns-clause-read
returns-clause-read c =
    let n = rw (c.in-Some.is) at c.in_ok-e.ensures.some in
    listed_read domain_standing domain_section_by (map text_of c.args.heads.now) (tree c.in-Some.e) (rest_at c.args.from) (rest_at c.in-Some.after) (text_of c.in-Some-headed.head) (trees c.in-Some-headed.members.now)
    (domain_section_view c.in_ok-section.section) c.span_of.result c.standing_of.result n c.in-Some-headed.ensures c.standing_of.ensures (c.may_stand.ensures c.if-not-may_stand.false) c.span_of.ensures c.in_ok-section.ensures
