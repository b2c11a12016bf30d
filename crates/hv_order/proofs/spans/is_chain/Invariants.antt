use Rattle.std.proofs.Common.{◌≡◌, ℕ, suc, ◌<◌, ◌∷◌, []}
use Rattle.hv_order.specs.inside.Arrangements.{listed_before}
use Rattle.hv_order.proofs.spans.is_chain.Given as goal

-- so it is with those so far
abbrev pub invariant-loop-latter : goal.invariant-loop-latter
invariant-loop-latter l = (j : ℕ) → suc j < l.latter → listed_before l.direct (suc j) ≡ j ∷ []
