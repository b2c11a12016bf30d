use Rattle.std.proofs.Common.{◌↔◌, List, ℕ, sym, subst, ap, ◌∙◌}
use Rattle.hv_lists.proofs.Options.{on_err}
use Rattle.hv_state.specs.Atoms.{Same, row_of}
use Rattle.hv_state.specs.inside.Rows.{rows_in}
use Rattle.hv_state.specs.inside.Bits.{Bits, Lit, Shown, Knows, IsChanged}
use Rattle.hv_state.proofs.LitLemmas.{shown_changed}
use Rattle.hv_state.proofs.bit_state.BitStateState.apply.Goals as goal

pub returns-in_err-know_all-clause-err : goal.returns-in_err-know_all-clause-err
returns-in_err-know_all-clause-err c =
    let same : Same (Shown c.know_all.new.self) (Shown c.args.self.now) = λ g. c.know_all.ensures.same (row_of g) in
    on_err _ _ same

pub change-requires-clause-known : goal.change-requires-clause-known
change-requires-clause-known c =
    let known = subst (λ xs. Knows c.know_all.new.self.0 xs) (c.rows.ensures ∙ sym c.rows-3.ensures) c.in_ok-know_all.ensures.known in
    let table = ap (λ (b : Bits). b.0) (sym c.self.view_is) ∙ sym (ap rows_in (c.deref-2.ensures.value ∙ ap (λ v. v.items) c.deref.ensures)) in
    subst (λ rows. Knows rows (rows_in c.rows-3.result.now)) table known

pub returns-clause-ok : goal.returns-clause-ok
returns-clause-ok c =
    let mid : Bits = (rows_in c.self.inside.table.value.items, c.self.inside.words.items) in
    let gone = rows_in c.rows-2.result.now in
    let come = rows_in c.rows-3.result.now in
    let change = subst (λ rows. IsChanged rows c.self.inside.words.items gone come c.change.new.words.items) (ap rows_in (c.deref-2.ensures.value ∙ ap (λ v. v.items) c.deref.ensures)) c.change.ensures.lit in
    let same = subst (λ b. (r : List ℕ) → Lit b r ↔ Lit c.args.self.now r) (sym c.self.view_is) c.know_all.ensures.same in
    shown_changed c.args.self.now mid c.change.new.words.items gone come c.args.deletes.now c.args.adds.now c.rows-2.ensures c.rows-3.ensures same change
