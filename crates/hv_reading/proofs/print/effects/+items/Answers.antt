use Rattle.std.proofs.Common.{◌++◌, ap, ◌∙◌, arith}
use Rattle.hv_reading.proofs.PrintLemmas.{step, end, grown, conjunction_of_several}
use Rattle.hv_reading.proofs.print.effects.+items.Goals as goal

pub put_conjunction_or_one-returns-in_ok-push-in-len2-up : goal.put_conjunction_or_one-returns-in_ok-push-in-len2-up
put_conjunction_or_one-returns-in_ok-push-in-len2-up t c =
    grown c.args.out.now.items
    (step _ c.in_ok-extend_from_slice-in-len2-up.ensures.items (step _ c.in_ok-put_items-in-len2-up.ensures (end c.in_ok-push-in-len2-up.ensures.items)))
    ∙ ap (λ x. c.args.out.now.items ++ x) (conjunction_of_several c.args.items.now (omega (arith, c.in-len2-up.len_at_least)))
