-- What is written where a text is printed.
use Rattle.std.specs.Prelude.{◌≡◌, ℕ, List, Option, Some}
use Rattle.hv_text.specs.Io.{IsRead}
use Rattle.hv_text.specs.declared.fault.TheConstants.{MOST_BYTES}
use Rattle.hv_text.specs.declared.span.Span.{Span}
use Rattle.hv_text.specs.declared.io.ReadFault.{ReadFault}
use Rattle.hv_text.specs.declared.io.ReadFault.TheVariants as reads
use Rattle.hv_reading.specs.declared.fault.SyntaxFault.{SyntaxFault}
use Rattle.hv_reading.specs.declared.fault.SyntaxKind.{SyntaxKind}
use Rattle.hv_syntax.specs.Values.{Domain, Problem}
use Rattle.hv_reading.specs.Texts.{IsDomainText, IsDomainFault, IsProblemText, IsProblemFault}
use Rattle.hv_reading.specs.CanonicalSections.{canonical_domain, canonical_problem}
use Rattle.hv_plan.specs.Values.{Plan}
use Rattle.hv_plan.specs.Spellings.{IsPlan, IsPlanFault}
use Rattle.hv_plan.specs.Canonical.{plan_text}
use Rattle.hv_plan.specs.declared.fault.PlanFault.{PlanFault}
use Rattle.hv_certificate.specs.Forms.{IsCertText, IsCertFault}
use Rattle.hv_certificate.specs.Texts.{cert_text}
use Rattle.hv_certificate.specs.declared.certificate.Certificate.{Certificate}
use Rattle.hv_certificate.specs.declared.fault.CertFault.{CertFault}
use Rattle.hv_answer.specs.declared.answer.Fault.{Fault}
use Rattle.hv_answer.specs.declared.answer.FaultKind.{FaultKind}
use Rattle.hv_answer.specs.declared.answer.FaultKind.TheVariants as faults
use Rattle.hv_answer.specs.declared.answer.Which.{Which}
use Rattle.hv_answer.specs.declared.answer.Which.TheVariants as which
use Rattle.hv_judge.specs.declared.printing.Printed.{Printed}
use Rattle.hv_judge.specs.declared.printing.Printed.TheVariants as ends
use Rattle.hv_answer.specs.Places.{fault_nowhere}
use Rattle.hv_judge.specs.Rejections.{fault_in, reported, reported_plan, reported_cert}
use Rattle.hv_judge.specs.Runs.{rejection, IsTooLong}

-- what is written of a text, and how that ends: the canonical text of what it says, or the line of
-- its rejection
pub data IsPrint (text : List ℕ) : Which → Printed → List ℕ → Type 0 where
  a_domain : (d : Domain) → IsDomainText text d
      → IsPrint text which.Domain ends.Done (canonical_domain d)
  a_problem : (p : Problem) → IsProblemText text p
      → IsPrint text which.Problem ends.Done (canonical_problem p)
  a_plan : (p : Plan) → IsPlan text p → IsPrint text which.Plan ends.Done (plan_text p)
  a_certificate : (c : Certificate) → IsCertText text c
      → IsPrint text which.Certificate ends.Done (cert_text c)
  no_domain : (kind : SyntaxKind) (s : Span) (k : FaultKind) → IsDomainFault text kind s
      → reported kind ≡ Some k
      → IsPrint text which.Domain ends.Rejected (rejection which.Domain (fault_in k text s))
  no_problem : (kind : SyntaxKind) (s : Span) (k : FaultKind) → IsProblemFault text kind s
      → reported kind ≡ Some k
      → IsPrint text which.Problem ends.Rejected (rejection which.Problem (fault_in k text s))
  no_plan : (f : PlanFault) (r : Fault) → IsPlanFault text f → reported_plan f ≡ Some r
      → IsPrint text which.Plan ends.Rejected (rejection which.Plan r)
  no_certificate : (f : CertFault) (r : Fault) → IsCertFault text f → reported_cert f ≡ Some r
      → IsPrint text which.Certificate ends.Rejected (rejection which.Certificate r)

-- what is written of a reader's bytes; a text that is too long is rejected
pub data IsPrintOf {R : Type 0} (w : Which) (left : R → Option (List ℕ)) (old new : R) : Printed
    → List ℕ → Type 0 where
  text_read : (text : List ℕ) (end : Printed) (bytes : List ℕ)
      → IsRead (left old) (left new) MOST_BYTES text → IsPrint text w end bytes
      → IsPrintOf w left old new end bytes
  text_too_long : IsTooLong (left old) (left new)
      → IsPrintOf w left old new ends.Rejected (rejection w (fault_nowhere faults.TooLong))

-- what the parts of the code do

-- these bytes are written, and the text is printed
abbrev pub IsDone : List ℕ → Printed → List ℕ → Type 0
IsDone text end bytes = (end ≡ ends.Done) × (bytes ≡ text)

-- the line of this rejection is written
abbrev pub IsRejection : Which → Fault → Printed → List ℕ → Type 0
IsRejection w f end bytes = (end ≡ ends.Rejected) × (bytes ≡ rejection w f)

-- the line of the rejection of a domain or a problem
abbrev pub IsTextRejection : Which → List ℕ → SyntaxFault → Printed → List ℕ → Type 0
IsTextRejection w text f end bytes = (k : FaultKind) × (reported f.kind ≡ Some k)
    × IsRejection w (fault_in k text f.span) end bytes

-- the line of the rejection of a plan
abbrev pub IsPlanRejection : PlanFault → Printed → List ℕ → Type 0
IsPlanRejection f end bytes = (r : Fault) × (reported_plan f ≡ Some r)
    × IsRejection which.Plan r end bytes

-- the line of the rejection of a certificate
abbrev pub IsCertificateRejection : CertFault → Printed → List ℕ → Type 0
IsCertificateRejection f end bytes = (r : Fault) × (reported_cert f ≡ Some r)
    × IsRejection which.Certificate r end bytes

-- the line of the rejection of a text that is too long
abbrev pub IsUnreadRejection : Which → ReadFault → Printed → List ℕ → Type 0
IsUnreadRejection w fault end bytes = (fault ≡ reads.TooLong)
    × IsRejection w (fault_nowhere faults.TooLong) end bytes
