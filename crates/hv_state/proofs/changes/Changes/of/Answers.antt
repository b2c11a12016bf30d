use Rattle.std.proofs.Common.{Ok, map, refl, sym, ap, ◌∙◌, subst}
use Rattle.std.specs.List.{Contains}
use Rattle.hv_state.specs.Atoms.{atom_read, row_of}
use Rattle.hv_state.specs.inside.Rows.{IsPlace}
use Rattle.hv_state.specs.inside.Histories.{beside, history_view}
use Rattle.hv_state.proofs.HistoryLemmas.{numbers_are, found_in, not_found_in, changes_beside, list_rises, lacking_beside}
use Rattle.hv_state.proofs.changes.Changes.of.Goals as goal

pub returns-then-not-has_some_of : goal.returns-then-not-has_some_of
returns-then-not-has_some_of c = c.has_some_of.ensures.none c.if-not-has_some_of.true (atom_read c.args.atom.now) refl

pub returns-in-Some : goal.returns-in-Some
returns-in-Some c =
    let hs = c.self.inside.list.items in
    let row = row_of (atom_read c.args.atom.now) in
    let found = found_in hs row c.in-Some.place (subst (λ rows. IsPlace rows row (Ok c.in-Some.place)) (sym (numbers_are hs c.args.self.now c.self.view_is)) c.in-Some.ensures) in
    let list = changes_beside hs row c.in-Some.place c.index.result.now c.self.invariant.0.rows found.0 found.1 c.index.ensures in
    (list_rises hs row c.in-Some.place c.index.result.now c.self.invariant.0.rows found.0 found.1 c.index.ensures c.self.invariant.0.lists, sym list ∙ ap (λ t. beside t row) c.self.view_is)

pub returns-in-None : goal.returns-in-None
returns-in-None c =
    let hs = c.self.inside.list.items in
    let row = row_of (atom_read c.args.atom.now) in
    let lacks = not_found_in hs row (subst (λ rows. Contains rows row → ⊥) (sym (numbers_are hs c.args.self.now c.self.view_is)) c.in-None.ensures) in
    sym (ap (λ t. beside t row) c.self.view_is) ∙ lacking_beside (map history_view hs) row lacks
