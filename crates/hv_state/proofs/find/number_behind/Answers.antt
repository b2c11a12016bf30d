use Rattle.std.proofs.Common.{true≢false, sym, ◌∙◌}
use Rattle.hv_state.proofs.PassedLemmas.{others_of, behind_first}
use Rattle.hv_state.proofs.find.number_behind.Goals as goal

pub returns-else-are_numbers : goal.returns-else-are_numbers
returns-else-are_numbers c n more e =
    let split = behind_first c.args.before.now n more _ (others_of c.args.row.now c.args.predicate.0 _ e) in
    absurd (true≢false (sym (c.are_numbers.ensures.1 split.0) ∙ c.if-are_numbers.false))
