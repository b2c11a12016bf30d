use Rattle.std.proofs.Common.{◌++◌, ◌∷◌, [], map, refl, sym, subst, ap, ◌∙◌}
use Rattle.std.specs.List.{Contains}
use Rattle.hv_state.specs.inside.Hashes.{TellRows}
use Rattle.hv_state.specs.inside.Rows.{Ascend}
use Rattle.hv_state.proofs.HistoryLemmas.{numbers, rows_are, numbers_are}
use Rattle.hv_state.proofs.changes.Changes.next_touched.Goals as goal

pub next_guessed-requires-clause-ascend : goal.next_guessed-requires-clause-ascend
next_guessed-requires-clause-ascend c = subst (λ hs. Ascend (map numbers hs)) (sym c.deref.ensures.value) (subst Ascend (rows_are c.self.inside.list.items) c.self.invariant.0.rows)

pub next_guessed-requires-clause-told : goal.next_guessed-requires-clause-told
next_guessed-requires-clause-told c = subst (λ hs. TellRows c.self.inside.guesses.buckets.items (map numbers hs)) (sym c.deref.ensures.value) (subst (TellRows c.self.inside.guesses.buckets.items) (rows_are c.self.inside.list.items) c.self.invariant.2)

pub returns-then-has_some_of : goal.returns-then-has_some_of
returns-then-has_some_of c os o n e le lt m =
    let same = ap (map numbers) c.deref.ensures.value ∙ numbers_are c.self.inside.list.items c.args.self.now c.self.view_is in
    c.next_guessed.ensures os o n e le lt (subst (λ rows. Contains rows (c.args.atom.now.predicate.0 ∷ os ++ n ∷ [])) (sym same) m)

pub returns-else-has_some_of : goal.returns-else-has_some_of
returns-else-has_some_of c os o n e le lt m = c.has_some_of.ensures.unlisted c.if-has_some_of.false _ refl m
