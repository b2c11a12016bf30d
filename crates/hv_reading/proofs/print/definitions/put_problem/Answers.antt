use Rattle.std.proofs.Common.{[], ◌∷◌, codes}
use Rattle.hv_text.specs.Trees.{none, more}
use Rattle.hv_reading.specs.Canonical.{form, each, word_expression, typed_members, literal_expression}
use Rattle.hv_reading.specs.CanonicalSections.{unless_empty, htn_section, goal_section}
use Rattle.hv_reading.proofs.PrintLemmas.{step, end_seen, padded, sections, and_sections, framed, grown}
use Rattle.hv_reading.proofs.print.definitions.put_problem.Goals as goal

pub returns : goal.returns
returns c =
    grown c.args.out.now.items
    (framed
    (step _ c.in_ok-extend_from_slice.ensures.items (padded (end_seen (λ w. w.text) c.name.ensures c.in_ok-put_word.ensures)))
    c.in_ok-extend_from_slice-2.ensures.items
    (and_sections goal_section
    (and_sections (λ ls. form (codes ":init") (each literal_expression ls) ∷ [])
    (and_sections (λ h. htn_section h ∷ [])
    (and_sections (λ vs. unless_empty (codes ":objects") (typed_members vs))
    (and_sections (λ ws. unless_empty (codes ":requirements") (each word_expression ws))
    (sections (λ w. form (codes ":domain") (more (word_expression w) none) ∷ []) c.domain.ensures c.in_ok-put_domain_name.ensures)
    c.requirements.ensures c.in_ok-put_requirements.ensures)
    c.objects.ensures c.in_ok-put_typed_section.ensures)
    c.htn.ensures c.in_ok-put_htn_section.ensures)
    c.init.ensures c.in_ok-put_init.ensures)
    c.goal.ensures c.in_ok-put_goal.ensures)
    c.in_ok-extend_from_slice-3.ensures.items)
