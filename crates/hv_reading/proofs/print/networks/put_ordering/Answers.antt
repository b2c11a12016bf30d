use Rattle.std.proofs.Common.{◌++◌, ap, ◌∙◌, codes, arith}
use Rattle.hv_reading.specs.Canonical.{pair_expression}
use Rattle.hv_syntax.specs.NetworkViews.{pair_view}
use Rattle.hv_reading.proofs.PrintLemmas.{step, end, padded, grown, field_of_some}
use Rattle.hv_reading.proofs.print.networks.put_ordering.Goals as goal

pub returns-in_ok-put_listed_pairs-in-len1-up : goal.returns-in_ok-put_listed_pairs-in-len1-up
returns-in_ok-put_listed_pairs-in-len1-up c =
    grown c.args.out.now.items (step _ c.in_ok-extend_from_slice-in-len1-up.ensures.items (padded (end c.in_ok-put_listed_pairs-in-len1-up.ensures)))
    ∙ ap (λ x. c.args.out.now.items ++ x) (field_of_some (codes ":ordering") pair_expression pair_view c.args.pairs.now (omega (arith, c.in-len1-up.len_at_least)))
