use Rattle.std.proofs.Common.{drop, ◌+◌, sym, subst}
use Rattle.std.specs.List.{Contains}
use Rattle.hv_lists.proofs.Contained.{none_in_empty}
use Rattle.hv_state.specs.inside.Rows.{rows_in}
use Rattle.hv_state.specs.inside.Bits.{Knows}
use Rattle.hv_state.proofs.RowLemmas.{rows_left, no_rows_left}
use Rattle.hv_state.proofs.BitLemmas.{knows_more}
use Rattle.hv_state.proofs.lit.knows_all.Goals as goal

pub loop-row-preserved : goal.loop-row-preserved
loop-row-preserved c =
    let rows = rows_in c.args.rows.now in
    let v = c.row-item.result in
    let rest = rows_in (drop (c.loop-row.row-index + 1) c.args.more.now) in
    let left = rows_left c.args.more.now c.loop-row.row-index v c.loop-row-test.true c.row-item.is in
    let there = subst (Contains rows) c.row.ensures (c.has_row.ensures.0 c.if-not-has_row.false) in
    λ known. c.loop-row.invariant (subst (Knows rows) (sym left) (knows_more rows v.numbers.items rest there known))

pub returns : goal.returns
returns c =
    λ t. c.loop-row.invariant (λ r m. absurd (none_in_empty r (subst (λ left. Contains left r) (no_rows_left c.args.more.now c.loop-row.row-index c.loop-row-test.false) m)))
