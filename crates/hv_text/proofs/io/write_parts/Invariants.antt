use Rattle.std.proofs.Common.{◌≡◌, take}
use Rattle.std.specs.Io.KnownBytes.{Appends}
use Rattle.std.specs.List.{flat_map}
use Rattle.hv_text.proofs.io.write_parts.Given as goal

-- the texts so far were written, and no write failed
abbrev pub invariant-loop-part : goal.invariant-loop-part
invariant-loop-part g l =
    Appends (g.W.Sink.taken l.fn.out) (g.W.Sink.taken l.out) (flat_map (λ p. p.now) (take l.part-index l.parts))
    × (g.W.Sink.failures l.out ≡ g.W.Sink.failures l.fn.out)
