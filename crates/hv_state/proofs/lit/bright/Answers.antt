use Rattle.std.proofs.Common.{◌+◌, ◌/◌, refl, arith}
use Rattle.hv_state.proofs.BitLemmas.{each_set}
use Rattle.hv_state.proofs.lit.bright.Goals as goal

pub returns-clause-all : goal.returns-clause-all
returns-clause-all c = λ i lt.
    let none = c.new-words.ensures.len in
    each_set c.resize.new.self.items (c.args.count / 64 + 1) (λ k within. c.in_ok-resize.ensures.by_index.1 k 0 refl (omega (arith, none)) within) i (omega (arith, lt))
