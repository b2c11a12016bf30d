use Rattle.std.proofs.Common.{map, sym, subst, ap, ◌∙◌, true≢false}
use Rattle.std.specs.List.{Contains}
use Rattle.hv_state.specs.Atoms.{row_of}
use Rattle.hv_state.specs.inside.Bits.{Has}
use Rattle.hv_state.specs.inside.Histories.{beside, history_view, rows_of}
use Rattle.hv_state.proofs.HistoryLemmas.{unflagged}
use Rattle.hv_state.proofs.changes.Changes.has_some_of.Goals as goal

pub returns-clause-unlisted : goal.returns-clause-unlisted
returns-clause-unlisted c = λ none g same m.
    let flags = c.self.inside.flags.items in
    let h : Has flags g.predicate = c.self.invariant.1 (row_of g) (subst (λ t. Contains (rows_of t) (row_of g)) (sym c.self.view_is) m) in
    true≢false (sym (c.has_bit.ensures.1 (subst (λ words. Has words c.args.predicate.0) (sym c.deref.ensures.value) (subst (Has flags) same h))) ∙ none)

pub returns-clause-none : goal.returns-clause-none
returns-clause-none c = λ none g same.
    let flags = c.self.inside.flags.items in
    let out = λ (h : Has flags g.predicate). true≢false (sym (c.has_bit.ensures.1 (subst (λ words. Has words c.args.predicate.0) (sym c.deref.ensures.value) (subst (Has flags) same h))) ∙ none) in
    sym (unflagged (map history_view c.self.inside.list.items) flags c.self.invariant.1 g out ∙ ap (λ t. beside t (row_of g)) c.self.view_is)
