use Rattle.std.proofs.Common.{◌≡◌, Some, None, sym, ◌∙◌, arith}
use Rattle.hv_order.specs.inside.Walks.{said_of}
use Rattle.hv_order.proofs.RunLemmas.{same_or}
use Rattle.hv_order.proofs.memo.Memo.take_won.Goals as goal

pub returns-then-start-won-clause-taken : goal.returns-then-start-won-clause-taken
returns-then-start-won-clause-taken c =
    let kept : said_of c.args.self.now.won.items c.args.node ≡ Some c.in_ok-won.won =
    same_or c.args.self.now.won.items c.args.node None c.index_mut.result.now (omega (arith, c.len.ensures, c.if-len-node.false)) ∙ sym c.index_mut.ensures.value ∙ sym c.replace.ensures.value ∙ c.in_ok-won.was in
    record { start = c.in_ok-won.won.start; kept = kept; late = c.if-won-start.true; early = c.if-start-won.true }
