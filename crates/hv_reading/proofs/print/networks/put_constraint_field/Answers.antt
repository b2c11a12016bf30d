use Rattle.std.proofs.Common.{◌++◌, ap, ◌∙◌, codes, arith}
use Rattle.hv_reading.specs.Canonical.{constraint_expression}
use Rattle.hv_syntax.specs.NetworkViews.{constraint_view}
use Rattle.hv_reading.proofs.PrintLemmas.{step, end, padded, grown, field_of_some}
use Rattle.hv_reading.proofs.print.networks.put_constraint_field.Goals as goal

pub returns-in_ok-put_listed_constraints-in-len1-up : goal.returns-in_ok-put_listed_constraints-in-len1-up
returns-in_ok-put_listed_constraints-in-len1-up c =
    grown c.args.out.now.items (step _ c.in_ok-extend_from_slice-in-len1-up.ensures.items (padded (end c.in_ok-put_listed_constraints-in-len1-up.ensures)))
    ∙ ap (λ x. c.args.out.now.items ++ x) (field_of_some (codes ":constraints") constraint_expression constraint_view c.args.constraints.now (omega (arith, c.in-len1-up.len_at_least)))
