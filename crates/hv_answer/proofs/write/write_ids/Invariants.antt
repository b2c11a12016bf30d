use Rattle.std.proofs.Common.{◌≡◌, take}
use Rattle.std.specs.Io.KnownBytes.{Appends}
use Rattle.hv_certificate.specs.Texts.{ids_text}
use Rattle.hv_answer.proofs.write.write_ids.Given as goal

-- the texts so far were written, and no write failed
abbrev pub invariant-loop-id : goal.invariant-loop-id
invariant-loop-id g l =
    Appends (g.W.Sink.taken l.fn.out) (g.W.Sink.taken l.out) (ids_text (take l.id-index l.ids))
    × (g.W.Sink.failures l.out ≡ g.W.Sink.failures l.fn.out)
