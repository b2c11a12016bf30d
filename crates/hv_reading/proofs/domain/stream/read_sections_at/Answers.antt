use Rattle.std.proofs.Common.{map}
use Rattle.std.proofs.lemmas.List.{map-append}
use Rattle.hv_text.specs.Names.{text_of}
use Rattle.hv_text.specs.Cursors.{rest_at}
use Rattle.hv_syntax.specs.DomainViews.{domain_section_view, domain_view}
use Rattle.hv_syntax.specs.Domains.{add_section}
use Rattle.hv_reading.specs.inside.Domains.{domain_section}
use Rattle.hv_reading.proofs.StreamLemmas.{section_more, section_ended}
use Rattle.hv_reading.proofs.domain.stream.read_sections_at.Goals as goal

pub sections-preserved : goal.sections-preserved
sections-preserved c =
    let r = rw (c.in-Some.is) at c.in_ok-read.ensures.read in
    let s = rw (c.deref.ensures.value) at r in
    let m = section_more domain_section add_section (map text_of c.sections.heads.items) (rest_at c.sections.cursor) (rest_at c.in-Some.read.after) (domain_section_view c.in-Some.read.section) (text_of c.in-Some.read.head) (domain_view c.sections.domain) _ s c.sections.invariant.0 in (
      rw (c.in_ok-push.ensures.items, c.in_ok-add.ensures, map-append text_of c.sections.heads.items) m,
      section_ended domain_section (map text_of c.sections.heads.items) (rest_at c.sections.cursor) (rest_at c.in-Some.read.after) (domain_section_view c.in-Some.read.section) (text_of c.in-Some.read.head) _ s c.sections.invariant.1,
    )
