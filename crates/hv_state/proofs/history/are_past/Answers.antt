use Rattle.std.proofs.Common.{◌<◌, ◌≤◌, arith, ltb-true, subst}
use Rattle.hv_state.proofs.PastLemmas.{are_past}
use Rattle.hv_state.proofs.history.are_past.Goals as goal

pub returns-then-index-k : goal.returns-then-index-k
returns-then-index-k c t =
    let up_to = subst (λ n. n ≤ c.args.k) c.index.ensures c.if-index-k.true in
    let behind = subst (λ n. c.args.k < n) c.index-then-index-k.ensures (ltb-true _ _ t) in
    are_past c.args.list.now c.args.k c.args.count (record { number = 0 }) c.requires (omega (arith, c.if-count-eq0.false)) c.if-list-count.false up_to behind
