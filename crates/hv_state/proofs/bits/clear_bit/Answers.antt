use Rattle.std.proofs.Common.{◌≡◌, ℕ, ◌/◌, ◌%◌, ◌*◌, ◌^◌, ◌↔◌, w64, bit_and, set, subst, sym}
use Rattle.std.proofs.lemmas.List.{get_or_read}
use Rattle.std.specs.Int.{bit_not}
use Rattle.hv_state.specs.inside.Bits.{Has}
use Rattle.hv_state.proofs.BitLemmas.{bit_cleared}
use Rattle.hv_state.proofs.bits.clear_bit.Goals as goal

pub returns-clause-cleared : goal.returns-clause-cleared
returns-clause-cleared c =
    let ws = c.args.words.now.items in
    let s = c.args.number in
    let word = get_or_read ws (s / 64) _ c.requires c.index_mut.ensures.value 0 in
    subst (λ w. (i : ℕ) → Has (set ws (s / 64) (bit_and w (bit_not w64 (1 * 2 ^ (s % 64) % 2 ^ 64)))) i ↔ (Has ws i × (i ≡ s → ⊥))) (sym word) (bit_cleared ws s c.requires)
