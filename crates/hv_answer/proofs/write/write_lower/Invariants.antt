use Rattle.std.proofs.Common.{◌≡◌, ◌≤◌, ◌-◌, length, take}
use Rattle.std.specs.Io.KnownBytes.{Appends}
use Rattle.hv_text.specs.Bytes.{lower}
use Rattle.hv_answer.proofs.write.write_lower.Given as goal

-- the bytes so far were written in lower case, and no write failed
abbrev pub invariant-parts : goal.invariant-parts
invariant-parts g l =
    (l.at ≤ length l.bytes)
    × Appends (g.W.Sink.taken l.fn.out) (g.W.Sink.taken l.out) (lower (take l.at l.bytes))
    × (g.W.Sink.failures l.out ≡ g.W.Sink.failures l.fn.out)

abbrev pub decreases-parts : goal.decreases-parts
decreases-parts g l = length l.bytes - l.at
