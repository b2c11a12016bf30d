use Rattle.std.proofs.Common.{◌++◌, ap, ◌∙◌, arith}
use Rattle.hv_reading.proofs.PrintLemmas.{step, end, grown, conjunction_of_items}
use Rattle.hv_reading.proofs.print.effects.put_conjunction.Goals as goal

pub returns-in_ok-push-in-len1-up : goal.returns-in_ok-push-in-len1-up
returns-in_ok-push-in-len1-up c =
    grown c.args.out.now.items
    (step _ c.in_ok-extend_from_slice-in-len1-up.ensures.items (step _ c.in_ok-put_items-in-len1-up.ensures (end c.in_ok-push-in-len1-up.ensures.items)))
    ∙ ap (λ x. c.args.out.now.items ++ x) (conjunction_of_items c.args.items.now (omega (arith, c.in-len1-up.len_at_least)))
