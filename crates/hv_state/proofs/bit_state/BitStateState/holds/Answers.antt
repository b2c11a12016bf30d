use Rattle.std.proofs.Common.{◌↔◌, Ok, IsTrue, true≢false, sym, subst, ap, ◌∙◌}
use Rattle.std.specs.List.{Contains}
use Rattle.hv_state.specs.Atoms.{atom_read, row_of}
use Rattle.hv_state.specs.inside.Rows.{rows_in, IsPlace}
use Rattle.hv_state.specs.declared.guesses.Guesses.{Guesses}
use Rattle.hv_state.specs.inside.Bits.{Has, Lit}
use Rattle.hv_state.specs.inside.Hashes.{TellRows}
use Rattle.hv_state.proofs.LitLemmas.{found_lit, both_ways}
use Rattle.hv_state.proofs.bit_state.BitStateState.holds.Goals as goal

pub look_up_at-requires-clause-told : goal.look_up_at-requires-clause-told
look_up_at-requires-clause-told c =
    let was = ap rows_in (c.deref-2.ensures.value ∙ ap (λ v. v.items) c.deref.ensures) in
    subst (λ (guesses : Guesses). TellRows guesses.buckets.items (rows_in c.deref-2.result.now)) (sym c.deref-3.ensures) (subst (TellRows c.self.inside.guesses.value.buckets.items) (sym was) c.self.invariant.1)

pub returns-in-Some : goal.returns-in-Some
returns-in-Some c =
    let row = row_of (atom_read c.args.atom.now) in
    let rows = rows_in c.self.inside.table.value.items in
    let words = c.self.inside.words.items in
    let there = subst (λ xs. IsPlace xs row (Ok c.in-Some.number)) (ap rows_in (c.deref-2.ensures.value ∙ ap (λ v. v.items) c.deref.ensures)) c.in-Some.ensures in
    let bit = subst (λ ws. IsTrue c.has_bit.result ↔ Has ws c.in-Some.number) c.deref-in-Some.ensures.value c.has_bit.ensures in
    subst (λ b. IsTrue c.has_bit.result ↔ Lit b row) c.self.view_is (both_ways bit (found_lit rows words row c.in-Some.number c.self.invariant.0.order there.0 there.1))

pub returns-in-None : goal.returns-in-None
returns-in-None c =
    let row = row_of (atom_read c.args.atom.now) in
    let lacks = subst (λ xs. Contains xs row → ⊥) (ap rows_in (c.deref-2.ensures.value ∙ ap (λ v. v.items) c.deref.ensures)) c.in-None.ensures in (
      λ t. absurd (true≢false (sym t)),
      λ l. absurd (lacks (subst (λ b. Lit b row) (sym c.self.view_is) l).0),
    )
