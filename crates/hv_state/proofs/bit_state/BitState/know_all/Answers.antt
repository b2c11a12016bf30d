use Rattle.std.proofs.Common.{◌↔◌, List, ℕ, sym, subst, ap, ◌∙◌}
use Rattle.hv_state.specs.inside.Rows.{rows_in}
use Rattle.hv_state.specs.inside.Bits.{Bits, Lit, Knows}
use Rattle.hv_state.proofs.bit_state.BitState.know_all.Goals as goal

pub returns-in_ok-self-inside-clause-known : goal.returns-in_ok-self-inside-clause-known
returns-in_ok-self-inside-clause-known c = subst (λ (b : Bits). Knows b.0 (rows_in c.args.rows.now)) (sym c.drop.view_is) c.in_ok-self-inside.ensures.known

pub returns-in_ok-self-inside-clause-same : goal.returns-in_ok-self-inside-clause-same
returns-in_ok-self-inside-clause-same c = subst (λ b. (r : List ℕ) → Lit b r ↔ Lit c.args.self.now r) (sym c.drop.view_is) c.in_ok-self-inside.ensures.lit

pub returns-else-not-knows_all-clause-known : goal.returns-else-not-knows_all-clause-known
returns-else-not-knows_all-clause-known c =
    let was = ap rows_in (c.deref-2.ensures.value ∙ ap (λ v. v.items) c.deref.ensures) ∙ ap (λ (b : Bits). b.0) c.self.view_is in
    subst (λ rows. Knows rows (rows_in c.args.rows.now)) was (c.knows_all.ensures c.if-not-knows_all.false)
