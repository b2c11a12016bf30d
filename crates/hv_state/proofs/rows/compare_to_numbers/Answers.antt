use Rattle.std.proofs.Common.{sym, ◌∙◌}
use Rattle.hv_state.proofs.TermLemmas.{more_numbers}
use Rattle.hv_state.proofs.rows.compare_to_numbers.Goals as goal

pub returns-in-empty : goal.returns-in-empty
returns-in-empty c =
    sym (more_numbers c.args.objects.now c.loop-object.object-index c.loop-object.left.now c.loop-object-test.true c.in-empty.len_below) ∙ c.loop-object.invariant
