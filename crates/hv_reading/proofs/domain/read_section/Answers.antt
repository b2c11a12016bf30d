use Rattle.hv_text.specs.Names.{text_of}
use Rattle.std.proofs.Common.{map}
use Rattle.hv_text.specs.Trees.{tree, trees}
use Rattle.hv_reading.specs.Standings.{domain_standing}
use Rattle.hv_reading.specs.inside.Domains.{domain_section_by}
use Rattle.hv_reading.proofs.SectionLemmas.{unread_is}
use Rattle.hv_reading.proofs.domain.read_section.Goals as goal

pub returns-in-Err : goal.returns-in-Err
returns-in-Err c =
    unread_is domain_standing domain_section_by (map tree c.args.before.now) (tree c.args.e.now) (text_of c.in-Some.name) (trees c.in-Some.members.now) c.span_of-span.result
    c.in-Err.refusal c.unread.result c.standing_of.result c.span_of-span.ensures c.in-Some.ensures c.standing_of.ensures c.in-None.ensures c.in-Err.ensures c.unread.ensures
