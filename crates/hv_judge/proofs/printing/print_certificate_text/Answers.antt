use Rattle.std.proofs.Common.{◌++◌, ap, ◌∙◌}
use Rattle.hv_certificate.specs.Texts.{cert_text}
use Rattle.hv_answer.specs.declared.answer.Which.TheVariants as texts
use Rattle.hv_judge.specs.Prints.{IsPrint, IsDone, IsCertificateRejection}
use Rattle.hv_judge.proofs.PrintingLemmas.{printed_certificate, rejected_certificate}
use Rattle.hv_judge.proofs.RunLemmas.{wrote_as}
use Rattle.hv_judge.proofs.printing.print_certificate_text.Goals as goal

pub returns-in_ok-print_cert-in-Ok-clause-wrote : goal.returns-in_ok-print_cert-in-Ok-clause-wrote
returns-in_ok-print_cert-in-Ok-clause-wrote g c =
    wrote_as (IsDone c.deref.result.now) (IsPrint c.args.text.now texts.Certificate) g.W.Sink.taken _ _ c.write_canonical.result
    (printed_certificate c.args.text.now c.deref.result.now c.in-Ok.certificate c.in-Ok.ensures.ok
    (c.deref.ensures.value ∙ (c.in_ok-print_cert-in-Ok.ensures.ok ∙ ap (λ xs. xs ++ cert_text c.in-Ok.certificate) c.new-bytes.ensures.items)))
    c.write_canonical.ensures.wrote

pub returns-in-Err-clause-wrote : goal.returns-in-Err-clause-wrote
returns-in-Err-clause-wrote g c =
    wrote_as (IsCertificateRejection c.in-Err.fault) (IsPrint c.args.text.now texts.Certificate) g.W.Sink.taken _ _ c.reject_certificate.result
    (rejected_certificate c.args.text.now c.in-Err.fault c.in-Err.ensures.err) c.reject_certificate.ensures.wrote
