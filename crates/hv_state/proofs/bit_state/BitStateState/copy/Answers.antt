use Rattle.std.proofs.Common.{rules, sym, subst, ap, ◌∙◌}
use Rattle.std.specs.Global.{Vec}
use Rattle.hv_state.specs.declared.guesses.Guesses.{Guesses}
use Rattle.hv_state.specs.declared.rows.Row.{Row}
use Rattle.hv_state.specs.inside.Bits.{AreBits}
use Rattle.hv_state.specs.inside.Hashes.{TellRows}
use Rattle.hv_state.specs.inside.Rows.{rows_in}
use Rattle.hv_state.proofs.LitLemmas.{shown_same, pair_is}
use Rattle.hv_state.proofs.bit_state.BitStateState.copy.Goals as goal

pub invariant_of-result : goal.invariant_of-result
invariant_of-result c =
    let rows = ap (λ (v : Vec Row). rows_in v.items) c.in_ok-table.ensures.cases in
    let bits : AreBits (rows_in c.in_ok-table.table.value.items) c.in_ok-words.words.items = search rules in
    (bits, subst (λ (guesses : Guesses). TellRows guesses.buckets.items (rows_in c.in_ok-table.table.value.items)) (sym c.in_ok-guesses.ensures.cases) (subst (TellRows c.self.inside.guesses.value.buckets.items) (sym rows) c.self.invariant.1))

pub returns : goal.returns
returns c =
    let rows = rows_in c.in_ok-table.table.value.items in
    let words = c.in_ok-words.words.items in
    shown_same (rows, words) c.args.self.now (pair_is rows _ words _ (ap rows_in (ap (λ v. v.items) c.in_ok-table.ensures.cases)) (c.in_ok-words.ensures.items ∙ c.deref.ensures.value) ∙ c.self.view_is)
