-- What is written where a text is printed, from what the parts write.
use Rattle.std.proofs.Common.{◌≡◌, ℕ, List, Option, sym, subst}
use Rattle.hv_text.specs.Io.{IsRead, IsReadFault}
use Rattle.hv_text.specs.declared.fault.TheConstants.{MOST_BYTES}
use Rattle.hv_text.specs.declared.io.ReadFault.{ReadFault}
use Rattle.hv_reading.specs.declared.fault.SyntaxFault.{SyntaxFault}
use Rattle.hv_syntax.specs.Values.{Domain, Problem}
use Rattle.hv_reading.specs.Texts.{IsDomainText, IsDomainFault, IsProblemText, IsProblemFault}
use Rattle.hv_reading.specs.CanonicalSections.{canonical_domain, canonical_problem}
use Rattle.hv_plan.specs.Values.{Plan}
use Rattle.hv_plan.specs.Spellings.{IsPlan, IsPlanFault}
use Rattle.hv_plan.specs.Canonical.{plan_text}
use Rattle.hv_plan.specs.declared.fault.PlanFault.{PlanFault}
use Rattle.hv_certificate.specs.Forms.{IsCertText, IsCertFault}
use Rattle.hv_certificate.specs.Texts.{cert_text}
use Rattle.hv_certificate.specs.declared.certificate.Certificate.{Certificate}
use Rattle.hv_certificate.specs.declared.fault.CertFault.{CertFault}
use Rattle.hv_answer.specs.declared.answer.Which.{Which}
use Rattle.hv_answer.specs.declared.answer.Which.TheVariants as texts
use Rattle.hv_judge.specs.declared.printing.Printed.{Printed}
use Rattle.hv_judge.specs.declared.printing.Printed.TheVariants as ends
use Rattle.hv_judge.specs.Rejections.{fault_in}
use Rattle.hv_judge.specs.Runs.{rejection}
use Rattle.hv_judge.specs.Prints.{IsPrint, a_domain, a_problem, a_plan, a_certificate, no_domain, no_problem, no_plan, no_certificate, IsPrintOf, text_read, text_too_long, IsDone, IsTextRejection, IsPlanRejection, IsCertificateRejection, IsUnreadRejection}

-- bytes that are those of a constructor
as_print : (text : List ℕ) (w : Which) (end e : Printed) (bytes b : List ℕ) → end ≡ e → bytes ≡ b → IsPrint text w e b → IsPrint text w end bytes
as_print text w end e bytes b same equal h = subst (λ x. IsPrint text w x bytes) (sym same) (subst (λ y. IsPrint text w e y) (sym equal) h)

pub printed_domain : (text canonical : List ℕ) (d : Domain) → IsDomainText text d → canonical ≡ canonical_domain d
    → (end : Printed) (bytes : List ℕ) → IsDone canonical end bytes → IsPrint text texts.Domain end bytes
printed_domain text canonical d says is end bytes (done, are) = as_print text texts.Domain end ends.Done bytes canonical done are (subst (IsPrint text texts.Domain ends.Done) (sym is) (a_domain d says))

pub printed_problem : (text canonical : List ℕ) (p : Problem) → IsProblemText text p → canonical ≡ canonical_problem p
    → (end : Printed) (bytes : List ℕ) → IsDone canonical end bytes → IsPrint text texts.Problem end bytes
printed_problem text canonical p says is end bytes (done, are) = as_print text texts.Problem end ends.Done bytes canonical done are (subst (IsPrint text texts.Problem ends.Done) (sym is) (a_problem p says))

pub printed_plan : (text canonical : List ℕ) (p : Plan) → IsPlan text p → canonical ≡ plan_text p
    → (end : Printed) (bytes : List ℕ) → IsDone canonical end bytes → IsPrint text texts.Plan end bytes
printed_plan text canonical p says is end bytes (done, are) = as_print text texts.Plan end ends.Done bytes canonical done are (subst (IsPrint text texts.Plan ends.Done) (sym is) (a_plan p says))

pub printed_certificate : (text canonical : List ℕ) (c : Certificate) → IsCertText text c → canonical ≡ cert_text c
    → (end : Printed) (bytes : List ℕ) → IsDone canonical end bytes → IsPrint text texts.Certificate end bytes
printed_certificate text canonical c says is end bytes (done, are) = as_print text texts.Certificate end ends.Done bytes canonical done are (subst (IsPrint text texts.Certificate ends.Done) (sym is) (a_certificate c says))

pub rejected_domain : (text : List ℕ) (f : SyntaxFault) → IsDomainFault text f.kind f.span
    → (end : Printed) (bytes : List ℕ) → IsTextRejection texts.Domain text f end bytes → IsPrint text texts.Domain end bytes
rejected_domain text f bad end bytes (k, reported, (done, are)) =
    as_print text texts.Domain end ends.Rejected bytes (rejection texts.Domain (fault_in k text f.span)) done are (no_domain f.kind f.span k bad reported)

pub rejected_problem : (text : List ℕ) (f : SyntaxFault) → IsProblemFault text f.kind f.span
    → (end : Printed) (bytes : List ℕ) → IsTextRejection texts.Problem text f end bytes → IsPrint text texts.Problem end bytes
rejected_problem text f bad end bytes (k, reported, (done, are)) =
    as_print text texts.Problem end ends.Rejected bytes (rejection texts.Problem (fault_in k text f.span)) done are (no_problem f.kind f.span k bad reported)

pub rejected_plan : (text : List ℕ) (f : PlanFault) → IsPlanFault text f
    → (end : Printed) (bytes : List ℕ) → IsPlanRejection f end bytes → IsPrint text texts.Plan end bytes
rejected_plan text f bad end bytes (r, reported, (done, are)) =
    as_print text texts.Plan end ends.Rejected bytes (rejection texts.Plan r) done are (no_plan f r bad reported)

pub rejected_certificate : (text : List ℕ) (f : CertFault) → IsCertFault text f
    → (end : Printed) (bytes : List ℕ) → IsCertificateRejection f end bytes → IsPrint text texts.Certificate end bytes
rejected_certificate text f bad end bytes (r, reported, (done, are)) =
    as_print text texts.Certificate end ends.Rejected bytes (rejection texts.Certificate r) done are (no_certificate f r bad reported)

-- the text that was read: `handed` is what was handed on
pub printed_of : {R : Type 0} (w : Which) (left : R → Option (List ℕ)) (old new : R) (text handed : List ℕ) → handed ≡ text → IsRead (left old) (left new) MOST_BYTES text
    → (end : Printed) (bytes : List ℕ) → IsPrint handed w end bytes → IsPrintOf w left old new end bytes
printed_of w left old new text handed e read end bytes h = text_read text end bytes read (subst (λ t. IsPrint t w end bytes) e h)

pub unread_print : {R : Type 0} (w : Which) (left : R → Option (List ℕ)) (old new : R) (fault : ReadFault) → IsReadFault (left old) (left new) MOST_BYTES fault
    → (end : Printed) (bytes : List ℕ) → IsUnreadRejection w fault end bytes → IsPrintOf w left old new end bytes
unread_print w left old new fault h end bytes (long, (done, are)) =
    subst (λ x. IsPrintOf w left old new x bytes) (sym done)
    (subst (λ y. IsPrintOf w left old new ends.Rejected y) (sym are) (text_too_long (subst (IsReadFault (left old) (left new) MOST_BYTES) long h)))
