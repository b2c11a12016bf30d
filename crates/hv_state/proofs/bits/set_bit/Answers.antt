use Rattle.std.proofs.Common.{◌≡◌, ℕ, ◌/◌, ◌%◌, ◌*◌, ◌^◌, ◌↔◌, ◌⊎◌, bit_or, set, subst, sym}
use Rattle.std.proofs.lemmas.List.{get_or_read}
use Rattle.hv_state.specs.inside.Bits.{Has}
use Rattle.hv_state.proofs.BitLemmas.{bit_set}
use Rattle.hv_state.proofs.bits.set_bit.Goals as goal

pub returns-clause-set : goal.returns-clause-set
returns-clause-set c =
    let ws = c.args.words.now.items in
    let s = c.args.number in
    let word = get_or_read ws (s / 64) _ c.requires c.index_mut.ensures.value 0 in
    subst (λ w. (i : ℕ) → Has (set ws (s / 64) (bit_or w (1 * 2 ^ (s % 64) % 2 ^ 64))) i ↔ (Has ws i ⊎ (i ≡ s))) (sym word) (bit_set ws s c.requires)
