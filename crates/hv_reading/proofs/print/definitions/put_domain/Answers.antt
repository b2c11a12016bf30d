use Rattle.std.proofs.Common.{codes}
use Rattle.hv_reading.specs.Canonical.{each, word_expression, typed_members}
use Rattle.hv_reading.specs.CanonicalSections.{unless_empty, section_of_each, predicate_expression, task_section, method_section, action_section}
use Rattle.hv_reading.proofs.PrintLemmas.{step, end_seen, padded, sections, and_sections, framed, grown}
use Rattle.hv_reading.proofs.print.definitions.put_domain.Goals as goal

pub returns : goal.returns
returns c =
    grown c.args.out.now.items
    (framed
    (step _ c.in_ok-extend_from_slice.ensures.items (padded (end_seen (λ w. w.text) c.name.ensures c.in_ok-put_word.ensures)))
    c.in_ok-extend_from_slice-2.ensures.items
    (and_sections (section_of_each action_section)
    (and_sections (section_of_each method_section)
    (and_sections (section_of_each task_section)
    (and_sections (λ ps. unless_empty (codes ":predicates") (each predicate_expression ps))
    (and_sections (λ vs. unless_empty (codes ":constants") (typed_members vs))
    (and_sections (λ vs. unless_empty (codes ":types") (typed_members vs))
    (sections (λ ws. unless_empty (codes ":requirements") (each word_expression ws)) c.requirements.ensures c.in_ok-put_requirements.ensures)
    c.types.ensures c.in_ok-put_typed_section.ensures)
    c.constants.ensures c.in_ok-put_typed_section-2.ensures)
    c.predicates.ensures c.in_ok-put_predicate_section.ensures)
    c.tasks.ensures c.in_ok-put_tasks.ensures)
    c.methods.ensures c.in_ok-put_methods.ensures)
    c.actions.ensures c.in_ok-put_actions.ensures)
    c.in_ok-extend_from_slice-3.ensures.items)
