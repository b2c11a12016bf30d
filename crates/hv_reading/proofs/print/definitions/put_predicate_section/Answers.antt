use Rattle.std.proofs.Common.{◌++◌, ap, ◌∙◌, codes, arith}
use Rattle.hv_reading.specs.CanonicalSections.{predicate_expression}
use Rattle.hv_syntax.specs.DeclarationViews.{predicate_view}
use Rattle.hv_reading.proofs.PrintLemmas.{step, end, grown, section_of_some}
use Rattle.hv_reading.proofs.print.definitions.put_predicate_section.Goals as goal

pub returns-in_ok-extend_from_slice-in-len1-up-2 : goal.returns-in_ok-extend_from_slice-in-len1-up-2
returns-in_ok-extend_from_slice-in-len1-up-2 c =
    grown c.args.out.now.items
    (step _ c.in_ok-extend_from_slice-in-len1-up.ensures.items (step _ c.in_ok-put_predicates-in-len1-up.ensures (end c.in_ok-extend_from_slice-in-len1-up-2.ensures.items)))
    ∙ ap (λ x. c.args.out.now.items ++ x) (section_of_some (codes ":predicates") predicate_expression predicate_view c.args.predicates.now (omega (arith, c.in-len1-up.len_at_least)))
