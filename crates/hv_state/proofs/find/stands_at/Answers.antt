use Rattle.std.proofs.Common.{sym, ◌∙◌}
use Rattle.hv_state.proofs.GuessLemmas.{row_there}
use Rattle.hv_state.proofs.find.stands_at.Goals as goal

-- the row that stands there is the atom's, or is not
pub returns-in-Some : goal.returns-in-Some
returns-in-Some g c =
    let (within, at) = row_there g.T.HasRow.numbers c.args.list.now c.args.place c.in-Some.it.now c.in-Some.ensures.lookup.3.0 c.in-Some.ensures.lookup.1 in
    (λ t. (within, at ∙ sym c.row.ensures ∙ c.is_row.ensures.0 t), λ p. c.is_row.ensures.1 (c.row.ensures ∙ sym at ∙ p.1))
