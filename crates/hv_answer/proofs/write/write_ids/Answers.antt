use Rattle.std.proofs.Common.{rules}
use Rattle.hv_lists.proofs.Options.{on_err}
use Rattle.hv_certificate.specs.Texts.{id_text}
use Rattle.hv_answer.proofs.WriteLemmas.{item_fails}
use Rattle.hv_answer.proofs.write.write_ids.Goals as goal

pub returns-in_err-write_parts-clause-err : goal.returns-in_err-write_parts-clause-err
returns-in_err-write_parts-clause-err g c =
    on_err c.from_residual.result _
    (item_fails id_text _ _ _ c.args.ids.now c.loop-id.id-index 0 _ c.loop-id-test.true (search rules) c.loop-id.invariant.0 c.in_err-write_parts.ensures.err)
