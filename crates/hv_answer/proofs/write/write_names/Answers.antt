use Rattle.std.proofs.Common.{ap}
use Rattle.hv_lists.proofs.Options.{on_err}
use Rattle.hv_certificate.specs.Texts.{name_text}
use Rattle.hv_answer.proofs.WriteLemmas.{item_fails}
use Rattle.hv_answer.proofs.write.write_names.Goals as goal

pub returns-in_err-write_name-clause-err : goal.returns-in_err-write_name-clause-err
returns-in_err-write_name-clause-err g c =
    on_err c.from_residual.result _
    (item_fails name_text _ _ _ c.args.names.now c.loop-name.name-index c.name-item.result _ c.loop-name-test.true (ap name_text c.name-item.is) c.loop-name.invariant.0 c.in_err-write_name.ensures.err)
