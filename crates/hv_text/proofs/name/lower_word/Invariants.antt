use Rattle.std.proofs.Common.{◌≡◌, ◌++◌, ◌-◌, take}
use Rattle.std.proofs.Math.ListN.{replicate}
use Rattle.hv_text.specs.Bytes.{lower}
use Rattle.hv_text.proofs.name.lower_word.Given as goal

-- the bytes before this one, in lower case, and zeros behind them
abbrev pub invariant-loop-i : goal.invariant-loop-i
invariant-loop-i l = (l.word ≡ lower (take l.i l.bytes) ++ replicate (8 - l.i) 0)
