use Rattle.std.proofs.Common.{rules, ◌≡◌, ◌++◌, ◌↔◌, ◌≤◌, ◌*◌, List, ℕ, length, sym, subst, ap, arith}
use Rattle.std.specs.List.{Contains}
use Rattle.std.specs.Vec.{vec_len}
use Rattle.std.proofs.lemmas.List.{length-map}
use Rattle.hv_state.specs.declared.guesses.Guesses.{Guesses}
use Rattle.hv_state.specs.declared.rows.Row.{Row}
use Rattle.hv_state.specs.inside.Rows.{rows_in}
use Rattle.hv_state.specs.inside.Bits.{Lit, Knows, AreBits, AreDark, AreLacking}
use Rattle.hv_state.specs.inside.Hashes.{TellRows}
use Rattle.hv_state.proofs.LitLemmas.{knows_more_rows, lit_but}
use Rattle.hv_state.proofs.bit_state.BitState.over.Goals as goal

pub invariant_of-result : goal.invariant_of-result
invariant_of-result c =
    let rows = ap (λ v. rows_in v.items) c.in_ok-table.ensures.ok in
    let told = subst (λ vs. TellRows c.in_ok-guesses_of.field-0.buckets.items (rows_in vs)) c.deref-5.ensures.value c.in_ok-guesses_of.ensures in
    let sorted = rows_in c.put_lacking.new.rows.items in
    let words = c.clear_all.new.words.items in
    let size : vec_len c.put_lacking.new.rows ≡ length c.put_lacking.new.rows.items = search rules in
    let long = length-map c.put_lacking.new.rows.items (λ (u : Row). u.numbers.items) in
    let room : length sorted ≤ 64 * length words = omega (arith, c.in_ok-words.ensures.room, c.len.ensures, size, long, c.clear_all.ensures.len) in
    let bits : AreBits sorted words = record { order = c.in_ok-put_lacking.ensures.ascend; room = room } in
    (subst (λ rs. AreBits rs words) (sym rows) bits, subst (λ (guesses : Guesses). TellRows guesses.buckets.items (rows_in c.in_ok-table.table.value.items)) (sym c.in_ok-guesses.ensures.ok) (subst (TellRows c.in_ok-guesses_of.field-0.buckets.items) (sym rows) told))

pub returns-clause-known : goal.returns-clause-known
returns-clause-known c =
    let rows = rows_in c.sort_distinct.new.rows.items in
    let more = rows_in c.args.more.now in
    let new = rows_in c.in_ok-dark.dark.items in
    let lack = subst (λ vs. AreLacking (rows_in vs) more new) c.deref.ensures.value c.in_ok-dark.ensures in
    let both = ap (λ vs. rows ++ rows_in vs) c.deref-2.ensures.value in
    let known = knows_more_rows (rows_in c.args.lit.items) rows more new (rows ++ rows_in c.deref-2.result.now) (rows_in c.put_lacking.new.rows.items) c.sort_distinct.ensures.exact lack both c.in_ok-put_lacking.ensures.exact in
    subst (λ vs. Knows (rows_in vs) more) (sym (ap (λ v. v.items) c.in_ok-table.ensures.ok)) known

pub returns-clause-lit : goal.returns-clause-lit
returns-clause-lit c =
    let rows = rows_in c.sort_distinct.new.rows.items in
    let more = rows_in c.args.more.now in
    let new = rows_in c.in_ok-dark.dark.items in
    let sorted = rows_in c.put_lacking.new.rows.items in
    let old = c.in_ok-words.words.items in
    let words = c.clear_all.new.words.items in
    let lack = subst (λ vs. AreLacking (rows_in vs) more new) c.deref.ensures.value c.in_ok-dark.ensures in
    let both = ap (λ vs. rows ++ rows_in vs) c.deref-2.ensures.value in
    let size : vec_len c.put_lacking.new.rows ≡ length c.put_lacking.new.rows.items = search rules in
    let long = length-map c.put_lacking.new.rows.items (λ (u : Row). u.numbers.items) in
    let dark = subst (λ vs. AreDark (rows_in vs) old new words) c.deref-3.ensures.value (subst (λ vs. AreDark (rows_in c.deref-3.result.now) old (rows_in vs) words) c.deref-4.ensures.value c.clear_all.ensures.dark) in
    let lit = lit_but (rows_in c.args.lit.items) rows more new (rows ++ rows_in c.deref-2.result.now) sorted c.sort_distinct.ensures.exact lack both c.in_ok-put_lacking.ensures.exact old words (λ i lt. c.in_ok-words.ensures.all i (omega (arith, lt, long, size, c.len.ensures))) dark in
    subst (λ vs. (r : List ℕ) → Lit (rows_in vs, words) r ↔ Contains (rows_in c.args.lit.items) r) (sym (ap (λ v. v.items) c.in_ok-table.ensures.ok)) lit
