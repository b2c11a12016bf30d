use Rattle.std.proofs.Common.{subst}
use Rattle.hv_state.specs.inside.Histories.{IsLeast}
use Rattle.hv_state.proofs.NextLemmas.{next_in_some, next_in_none}
use Rattle.hv_state.proofs.history.next_in.Goals as goal

pub returns-in-Some : goal.returns-in-Some
returns-in-Some c =
    next_in_some c.args.list.now c.args.k c.past.result c.requires.rise c.past.ensures.1 c.in-Some.next.now (c.in-Some.ensures.lookup.3).0 (c.in-Some.ensures.lookup.1) c.args.end c.least.result c.requires.before (subst (λ n. IsLeast n c.args.end c.least.result) c.index.ensures c.least.ensures)

pub returns-in-None : goal.returns-in-None
returns-in-None c = next_in_none c.args.list.now c.args.k c.past.result c.requires.rise c.past.ensures.1 (c.in-None.ensures.lookup.3) c.args.end c.requires.before
