use Rattle.std.proofs.Common.{◌++◌, ◌∷◌, [], sym, subst, ap, ◌∙◌}
use Rattle.std.specs.List.{Contains}
use Rattle.hv_state.specs.declared.guesses.Guesses.{Guesses}
use Rattle.hv_state.specs.inside.Bits.{Bits}
use Rattle.hv_state.specs.inside.Hashes.{TellRows}
use Rattle.hv_state.specs.inside.Rows.{rows_in}
use Rattle.hv_state.proofs.bit_state.BitState.next_known.Goals as goal

pub next_guessed-requires-clause-told : goal.next_guessed-requires-clause-told
next_guessed-requires-clause-told c =
    let was = ap rows_in (c.deref-2.ensures.value ∙ ap (λ v. v.items) c.deref.ensures) in
    subst (λ (guesses : Guesses). TellRows guesses.buckets.items (rows_in c.deref-2.result.now)) (sym c.deref-3.ensures) (subst (TellRows c.self.inside.guesses.value.buckets.items) (sym was) c.self.invariant.1)

pub returns : goal.returns
returns c os o n e le lt m =
    let same = ap rows_in (c.deref-2.ensures.value ∙ ap (λ v. v.items) c.deref.ensures) ∙ ap (λ (b : Bits). b.0) c.self.view_is in
    c.next_guessed.ensures os o n e le lt (subst (λ rows. Contains rows (c.args.atom.now.predicate.0 ∷ os ++ n ∷ [])) (sym same) m)
