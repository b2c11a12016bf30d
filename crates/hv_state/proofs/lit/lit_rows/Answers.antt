use Rattle.std.proofs.Common.{true≢false, sym, ap, ◌∙◌, arith}
use Rattle.std.proofs.lemmas.List.{length-map}
use Rattle.hv_state.specs.inside.Rows.{rows_in}
use Rattle.hv_state.specs.declared.rows.Row.{Row}
use Rattle.hv_state.proofs.LitLemmas.{push_lit, skip_dark, lit_of_all}
use Rattle.hv_state.proofs.lit.lit_rows.Goals as goal
use Rattle.hv_state.proofs.lit.lit_rows.Goals.{then-has_bit+in_ok-copy+in_ok-push, else-has_bit}

pub loop-number-preserved : goal.loop-number-preserved
loop-number-preserved c =
    let rows = c.args.rows.now in
    let words = c.args.words.now in
    let lit = c.loop-number.lit.items in
    let n = c.loop-number.number in
    elim c.if-has_bit.branch [
      | then-has_bit+in_ok-copy+in_ok-push w ↦
          push_lit rows words n c.loop-number-test.true lit c.loop-number.invariant w.index-rows-number.result w.in_ok-copy.field-0 c.if-has_bit.lit.items w.index-rows-number.is (ap (λ v. v.items) w.lit-is ∙ w.in_ok-push.ensures.items) w.in_ok-copy.ensures (c.has_bit.ensures.0 w.if-has_bit.true)
      | else-has_bit w ↦ skip_dark rows words n c.loop-number-test.true lit c.loop-number.invariant c.if-has_bit.lit.items (ap (λ v. v.items) w.lit-is) (λ h. absurd (true≢false (sym (c.has_bit.ensures.1 h) ∙ w.if-has_bit.false)))
    ]

pub returns : goal.returns
returns c =
    lit_of_all (rows_in c.args.rows.now, c.args.words.now) c.loop-number.number (rows_in c.loop-number.lit.items) (omega (arith, c.loop-number-test.false, length-map c.args.rows.now (λ (u : Row). u.numbers.items))) c.loop-number.invariant
