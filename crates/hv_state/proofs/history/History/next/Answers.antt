use Rattle.std.proofs.Common.{◌≤◌, map, sym, subst}
use Rattle.hv_state.specs.inside.Histories.{Rise, IsNextIn, IsLeast, change_view}
use Rattle.hv_state.proofs.GrowLemmas.{earlier_rises, next_is_earlier, next_is_last}
use Rattle.hv_state.proofs.history.History.next.Goals as goal

pub next_in-requires-then-index-k-clause-rise : goal.next_in-requires-then-index-k-clause-rise
next_in-requires-then-index-k-clause-rise c =
    subst (λ xs. Rise (map change_view xs)) (sym c.deref-then-index-k.ensures.value) (earlier_rises c.args.self.now c.in-Some.last c.in-Some.is c.requires.rise)

pub next_in-requires-else-index-k-clause-rise : goal.next_in-requires-else-index-k-clause-rise
next_in-requires-else-index-k-clause-rise c =
    subst (λ xs. Rise (map change_view xs)) (sym c.deref-else-index-k.ensures.value) (earlier_rises c.args.self.now c.in-Some.last c.in-Some.is c.requires.rise)

pub returns-then-index-k : goal.returns-then-index-k
returns-then-index-k c =
    let next = subst (λ xs. IsNextIn (map change_view xs) c.args.k c.args.end c.next_in-then-index-k.result) c.deref-then-index-k.ensures.value c.next_in-then-index-k.ensures in
    next_is_earlier c.args.self.now c.in-Some.last c.in-Some.is c.args.k c.args.end c.next_in-then-index-k.result (subst (λ n. n ≤ c.args.k) c.index.ensures c.if-index-k.true) next

pub returns-else-index-k : goal.returns-else-index-k
returns-else-index-k c =
    let next = subst (λ xs. IsNextIn (map change_view xs) c.args.k c.least.result c.next_in-else-index-k.result) c.deref-else-index-k.ensures.value c.next_in-else-index-k.ensures in
    next_is_last c.args.self.now c.in-Some.last c.in-Some.is c.args.k c.args.end c.least.result c.next_in-else-index-k.result (subst (λ n. IsLeast n c.args.end c.least.result) c.index-else-index-k.ensures c.least.ensures) next
