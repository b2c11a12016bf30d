use Rattle.std.proofs.Common.{map}
use Rattle.std.proofs.lemmas.List.{map-append}
use Rattle.hv_text.specs.Names.{text_of}
use Rattle.hv_text.specs.Cursors.{rest_at}
use Rattle.hv_syntax.specs.ProblemViews.{problem_section_view, parts_view}
use Rattle.hv_syntax.specs.Problems.{add_part}
use Rattle.hv_reading.specs.inside.Problems.{problem_section}
use Rattle.hv_reading.proofs.StreamLemmas.{section_more, section_ended}
use Rattle.hv_reading.proofs.problem.stream.read_sections_at.Goals as goal

pub sections-preserved : goal.sections-preserved
sections-preserved c =
    let r = rw (c.in-Some.is) at c.in_ok-read.ensures.read in
    let s = rw (c.deref.ensures.value) at r in
    let m = section_more problem_section add_part (map text_of c.sections.heads.items) (rest_at c.sections.cursor) (rest_at c.in-Some.read.after) (problem_section_view c.in-Some.read.section) (text_of c.in-Some.read.head) (parts_view c.sections.parts) _ s c.sections.invariant.0 in (
      rw (c.in_ok-push.ensures.items, c.add.ensures, map-append text_of c.sections.heads.items) m,
      section_ended problem_section (map text_of c.sections.heads.items) (rest_at c.sections.cursor) (rest_at c.in-Some.read.after) (problem_section_view c.in-Some.read.section) (text_of c.in-Some.read.head) _ s c.sections.invariant.1,
    )
