-- What the check answers where a text is not read.
use Rattle.std.specs.Prelude.{◌≡◌, ◌⊎◌, ℕ, List}
use Rattle.hv_certificate.specs.Forms.{IsCertFault}
use Rattle.hv_certificate.specs.declared.fault.CertFault.{CertFault}
use Rattle.hv_answer.specs.declared.answer.Which.TheVariants as which
use Rattle.hv_judge.specs.declared.checking.CheckFault.{CheckFault}
use Rattle.hv_judge.specs.declared.checking.CheckFault.TheVariants as faults
use Rattle.hv_judge.specs.declared.not_solved.NotSolved.{NotSolved}
use Rattle.hv_judge.specs.declared.not_solved.NotSolved.TheVariants as ends
use Rattle.hv_judge.specs.Rejections.{reported_cert}
use Rattle.hv_judge.specs.inside.Ends.{rejected_for}

-- a rejection stays one; nothing else but want of memory is found of a text
abbrev pub check_end : NotSolved → CheckFault
check_end (ends.Rejected w f) = faults.Rejected w f
check_end _ = faults.Memory

-- for a fault of the certificate's text
abbrev pub cert_end : CertFault → CheckFault
cert_end f = check_end (rejected_for which.Certificate (reported_cert f))

-- a line of the certificate's text is not of its form, or a growth of memory was refused
abbrev pub IsCertEnd : List ℕ → CheckFault → Type 0
IsCertEnd cert e = (e ≡ faults.Memory) ⊎ ((f : CertFault) × IsCertFault cert f × (e ≡ cert_end f))
