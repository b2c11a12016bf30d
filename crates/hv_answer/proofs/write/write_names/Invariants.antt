use Rattle.std.proofs.Common.{◌≡◌, take}
use Rattle.std.specs.Io.KnownBytes.{Appends}
use Rattle.hv_certificate.specs.Texts.{names_text}
use Rattle.hv_answer.proofs.write.write_names.Given as goal

-- the texts so far were written, and no write failed
abbrev pub invariant-loop-name : goal.invariant-loop-name
invariant-loop-name g l =
    Appends (g.W.Sink.taken l.fn.out) (g.W.Sink.taken l.out) (names_text (take l.name-index l.names))
    × (g.W.Sink.failures l.out ≡ g.W.Sink.failures l.fn.out)
