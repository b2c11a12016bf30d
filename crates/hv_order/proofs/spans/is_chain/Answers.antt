use Rattle.std.proofs.Common.{◌≡◌, ℕ, suc, ◌+◌, ◌-◌, ◌<◌, ◌≤◌, ◌⊎◌, inl, inr, [], ◌∷◌, sym, ap, ◌∙◌, arith}
use Rattle.std.proofs.lemmas.Bool.{cases_lt}
use Rattle.hv_order.specs.inside.Arrangements.{listed_before}
use Rattle.hv_order.proofs.spans.is_chain.Goals as goal

pub loop-latter-preserved : goal.loop-latter-preserved
loop-latter-preserved c = λ j lt. by j lt (cases_lt (suc j) c.loop-latter.latter)
  where
    by : (j : ℕ) → suc j < c.loop-latter.latter + 1 → (suc j < c.loop-latter.latter) ⊎ (c.loop-latter.latter ≤ suc j) → listed_before c.args.direct.now (suc j) ≡ j ∷ []
    by j lt (inl before) = c.loop-latter.invariant j before
    by j lt (inr behind) =
        let k = c.loop-latter.latter in
        let same : suc j ≡ k = omega (arith, lt, behind) in
        let number : k - 1 ≡ j = omega (arith, same) in
        let list : c.at.result.now ≡ (k - 1) ∷ [] = c.is_just.ensures c.if-not-is_just.false in
        ap (listed_before c.args.direct.now) same ∙ sym c.at.ensures ∙ list ∙ ap (λ n. n ∷ []) number
