use Rattle.std.proofs.Common.{◌<◌, ◌≤◌, Some, map, ap, ◌∙◌, sym, subst}
use Rattle.hv_state.specs.Changes.{told}
use Rattle.hv_state.specs.inside.Histories.{Rise, change_view}
use Rattle.hv_state.proofs.GrowLemmas.{earlier_rises, told_is_last, told_is_earlier}
use Rattle.hv_state.proofs.history.History.told.Goals as goal

pub last_up_to-requires-else-index-k : goal.last_up_to-requires-else-index-k
last_up_to-requires-else-index-k c =
    subst (λ xs. Rise (map change_view xs)) (sym c.deref-else-index-k.ensures.value) (earlier_rises c.args.self.now c.in-Some.last c.in-Some.is c.requires)

pub returns-then-index-k : goal.returns-then-index-k
returns-then-index-k c = ap (λ b. Some b) c.is_true.ensures ∙ told_is_last c.args.self.now c.in-Some.last c.in-Some.is c.args.k (subst (λ n. n ≤ c.args.k) c.index.ensures c.if-index-k.true)

pub returns-else-index-k : goal.returns-else-index-k
returns-else-index-k c =
    c.last_up_to-else-index-k.ensures ∙ ap (λ xs. told c.args.k (map change_view xs)) c.deref-else-index-k.ensures.value ∙ told_is_earlier c.args.self.now c.in-Some.last c.in-Some.is c.args.k (subst (λ n. c.args.k < n) c.index.ensures c.if-index-k.false)
