use Rattle.std.proofs.Common.{◌↔◌, List, ℕ, IfOk, subst, ap, ◌∙◌}
use Rattle.std.specs.List.{Contains}
use Rattle.hv_state.specs.inside.Rows.{rows_in}
use Rattle.hv_state.specs.inside.Bits.{Lit, Knows}
use Rattle.hv_state.proofs.LitLemmas.{knows_last, both_ways, pair_is, if_ok}
use Rattle.hv_state.proofs.bit_state.BitState.with_rows.Goals as goal

pub returns-clause-known : goal.returns-clause-known
returns-clause-known c =
    let both = rows_in c.push_copies.new.rows.items in
    let known = subst (λ vs. IfOk c.over.result (λ s. Knows s.0 (rows_in vs))) c.deref-6.ensures.value c.over.ensures.known in
    if_ok c.over.result (λ s. Knows s.0 both) (λ s. Knows s.0 (rows_in c.args.more.now)) (λ s. knows_last s.0 (rows_in c.in_ok-rows.rows.items) (rows_in c.args.more.now) both c.in_ok-push_copies.ensures) known

pub returns-clause-lit : goal.returns-clause-lit
returns-clause-lit c =
    let rows = rows_in c.deref-2.result.now in
    let words = c.deref-3.result.now in
    let was = pair_is rows _ words _ (ap rows_in (c.deref-2.ensures.value ∙ ap (λ v. v.items) c.deref.ensures)) c.deref-3.ensures.value ∙ c.self.view_is in
    let lit = subst (λ b. (r : List ℕ) → Contains (rows_in c.in_ok-lit.lit.items) r ↔ Lit b r) was c.in_ok-lit.ensures in
    if_ok c.over.result _ (λ s. (r : List ℕ) → Lit s r ↔ Lit c.args.self.now r) (λ s h r. both_ways (h r) (lit r)) c.over.ensures.lit
