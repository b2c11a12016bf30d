use Rattle.std.proofs.Common.{Ok, MatchOption, map, sym, subst, ap, ◌∙◌}
use Rattle.std.specs.List.{Contains}
use Rattle.hv_state.specs.Atoms.{atom_read, row_of}
use Rattle.hv_state.specs.inside.Hashes.{TellRows}
use Rattle.hv_state.specs.inside.Rows.{Ascend, IsPlace}
use Rattle.hv_state.proofs.HistoryLemmas.{numbers, rows_are, numbers_are}
use Rattle.hv_state.proofs.changes.Changes.place_of.Goals as goal

pub look_up_at-found-requires-clause-ascend : goal.look_up_at-found-requires-clause-ascend
look_up_at-found-requires-clause-ascend c = subst (λ hs. Ascend (map numbers hs)) (sym c.deref.ensures.value) (subst Ascend (rows_are c.self.inside.list.items) c.self.invariant.0.rows)

pub look_up_at-found-requires-clause-told : goal.look_up_at-found-requires-clause-told
look_up_at-found-requires-clause-told c = subst (λ hs. TellRows c.self.inside.guesses.buckets.items (map numbers hs)) (sym c.deref.ensures.value) (subst (TellRows c.self.inside.guesses.buckets.items) (rows_are c.self.inside.list.items) c.self.invariant.2)

pub returns-in-Some : goal.returns-in-Some
returns-in-Some c =
    let row = row_of (atom_read c.args.atom.now) in
    let same = ap (map numbers) c.deref.ensures.value ∙ numbers_are c.self.inside.list.items c.args.self.now c.self.view_is in
    subst (λ rows. IsPlace rows row (Ok c.in-Some.place)) same c.in-Some.ensures

pub returns-in_default : goal.returns-in_default
returns-in_default c =
    let row = row_of (atom_read c.args.atom.now) in
    let same = ap (map numbers) c.deref.ensures.value ∙ numbers_are c.self.inside.list.items c.args.self.now c.self.view_is in
    subst (λ rows. MatchOption c.look_up_at-found.result (Contains rows row → ⊥) (λ place. IsPlace rows row (Ok place))) same c.look_up_at-found.ensures
