use Rattle.std.proofs.Common.{map, length, refl, sym, subst, ap, ◌∙◌, true≢false}
use Rattle.std.proofs.lemmas.List.{map_push}
use Rattle.hv_state.specs.inside.Histories.{index_of, change_view, in_order, changes_of}
use Rattle.hv_state.specs.inside.Notes.{Before, EndsAt}
use Rattle.hv_state.proofs.GrowLemmas.{turned_behind, turned_popped, turned_not}
use Rattle.hv_state.proofs.history.History.turn.Goals as goal

pub returns-in_ok-push-clause-ok : goal.returns-in_ok-push-clause-ok
returns-in_ok-push-clause-ok c =
    let change = c.args.change in
    turned_behind (changes_of c.args.self.now) _ (change_view change) c.requires (subst (λ k. Before k (changes_of c.args.self.now)) c.index.ensures (c.is_before.ensures.0 c.if-is_before.true)) (ap (map change_view) c.in_ok-push.ensures.ok ∙ map_push change_view (in_order c.args.self.now) change)

pub returns-then-ends_at-clause-ok : goal.returns-then-ends_at-clause-ok
returns-then-ends_at-clause-ok c =
    let old = in_order c.args.self.now in
    turned_popped old _ (length old) c.args.change c.pop-undone.result refl c.requires (subst (λ k. EndsAt k (changes_of c.args.self.now)) c.index-else-is_before.ensures (c.ends_at.ensures.0 c.if-ends_at.true)) c.pop-undone.ensures.items c.pop-undone.ensures.some

pub returns-else-ends_at-clause-ok : goal.returns-else-ends_at-clause-ok
returns-else-ends_at-clause-ok c =
    let old = changes_of c.args.self.now in
    let change = c.args.change in
    let late = λ (h : Before (index_of change) old). true≢false (sym (c.is_before.ensures.1 (subst (λ k. Before k old) (sym c.index.ensures) h)) ∙ c.if-is_before.false) in
    let other = λ (h : EndsAt (index_of change) old). true≢false (sym (c.ends_at.ensures.1 (subst (λ k. EndsAt k old) (sym c.index-else-is_before.ensures) h)) ∙ c.if-ends_at.false) in
    turned_not old (change_view change) c.requires late other
