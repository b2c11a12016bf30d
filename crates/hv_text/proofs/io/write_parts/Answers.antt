use Rattle.std.proofs.Common.{refl}
use Rattle.hv_lists.proofs.Options.{on_err}
use Rattle.hv_text.proofs.WriteLemmas.{item_fails}
use Rattle.hv_text.proofs.io.write_parts.Goals as goal

pub returns-in_err-write_all-clause-err : goal.returns-in_err-write_all-clause-err
returns-in_err-write_all-clause-err g c =
    on_err c.from_residual.result _
    (item_fails (λ p. p.now) _ _ _ c.args.parts.now c.loop-part.part-index _ _ c.loop-part-test.true refl c.loop-part.invariant.0 c.in_err-write_all.ensures.err)
