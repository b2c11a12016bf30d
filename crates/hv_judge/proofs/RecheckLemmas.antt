-- What the check of a certificate's text answers, and what is written of it.
use Rattle.std.proofs.Common.{◌≡◌, ◌<◌, ◌≤◌, inl, inr, ℕ, Bool, true, false, List, Option, None, Result, Ok, Err, IfOk, IfErr, length, sym, subst, arith}
use Rattle.hv_text.specs.Io.{IsRead, IsReadFault}
use Rattle.hv_text.specs.declared.fault.TheConstants.{MOST_BYTES}
use Rattle.hv_text.specs.declared.io.ReadFault.{ReadFault}
use Rattle.hv_world.specs.Worlds.{World}
use Rattle.hv_plan.specs.Values.{Plan}
use Rattle.hv_certificate.specs.Forms.{IsCertFault}
use Rattle.hv_judge.specs.declared.checking.CheckFault.{CheckFault}
use Rattle.hv_certificate.specs.declared.fault.CertFault.{CertFault}
use Rattle.hv_certificate.specs.declared.fault.CertFault.TheVariants as certificates
use Rattle.hv_answer.specs.declared.answer.Fault.{Fault}
use Rattle.hv_answer.specs.declared.answer.Which.{Which}
use Rattle.hv_judge.specs.declared.checking.Examined.{Examined}
use Rattle.hv_judge.specs.declared.not_solved.NotSolved.{NotSolved}
use Rattle.hv_judge.specs.declared.not_solved.NotSolved.TheVariants.{Rejected, Fails, Undecided, Memory}
use Rattle.hv_judge.specs.declared.rechecking.RecheckKind.{RecheckKind}
use Rattle.hv_judge.specs.declared.rechecking.RecheckKind.TheVariants as kinds
use Rattle.hv_judge.specs.declared.running.RunFault.{RunFault}
use Rattle.hv_judge.specs.Checked.{Rechecked, AreExamined, IsExaminedOf, IsRejectedOfFour, not_judged, not_of_form, IsRecheckFault}
use Rattle.hv_judge.specs.Rechecks.{IsRecheckLine, says_certified, says_not_certified, says_rejected, said_line, IsFoundLine}
use Rattle.hv_judge.specs.Rechecks.{IsHaltFrom, text_failed, text_given}
use Rattle.hv_judge.specs.Rejections.{first_too_long}
use Rattle.hv_judge.specs.Runs.{rejection, IsRejection, IsFailureOf}
use Rattle.hv_judge.specs.Verdicts.{IsSpelledAs, HasVerdict}
use Rattle.hv_judge.specs.inside.CheckEnds.{check_end, cert_end, IsCertEnd}
use Rattle.hv_judge.specs.inside.Ends.{Ends}
use Rattle.hv_judge.proofs.RunLemmas.{failed_read}

module _ (domain problem plan cert : List ℕ) where
  -- a rejection of one of the three texts is that of the judge
  pub judged_ends : (e : NotSolved) → first_too_long domain problem plan ≡ None
      → length cert ≤ MOST_BYTES → Ends (HasVerdict domain problem plan 0) e
      → IsRecheckFault domain problem plan cert (check_end e)
  judged_ends (Rejected w f) short few h = not_judged w f short few h
  judged_ends (Fails c) short few h = tt
  judged_ends (Undecided l) short few h = tt
  judged_ends Memory short few h = tt

  -- that of the certificate is for a line
  pub cert_ends : (f : CertFault) → length cert ≤ MOST_BYTES
      → IsSpelledAs domain problem plan (λ w q. Unit {0}) → IsCertFault cert f
      → IsRecheckFault domain problem plan cert (cert_end f)
  cert_ends certificates.TooLong few spelled h =
      absurd (let long : MOST_BYTES < length cert = h in omega (arith, few, long))
  cert_ends (certificates.BadCertificate line) few spelled h = not_of_form line spelled h
  cert_ends certificates.Memory few spelled h = tt

  pub text_ends : (e : CheckFault) → length cert ≤ MOST_BYTES
      → IsSpelledAs domain problem plan (λ w q. Unit {0}) → IsCertEnd cert e
      → IsRecheckFault domain problem plan cert e
  text_ends e few spelled (inl memory) = subst (λ x. IsRecheckFault domain problem plan cert x) (sym memory) tt
  text_ends e few spelled (inr (f, fault, is)) =
      subst (λ x. IsRecheckFault domain problem plan cert x) (sym is) (cert_ends f few spelled fault)

  -- what is found by the certificate's text
  pub ends_as : (r : Result Examined CheckFault) → length cert ≤ MOST_BYTES
      → IsSpelledAs domain problem plan (λ w q. Unit {0}) → IfErr r (IsCertEnd cert)
      → IfErr r (IsRecheckFault domain problem plan cert)
  ends_as (Ok found) few spelled h = tt
  ends_as (Err e) few spelled h = text_ends e few spelled h

  pub finds_as : (r : Result Examined CheckFault) (w : World) (q : Plan)
      → ((found : Examined) → IsExaminedOf cert found w q → AreExamined domain problem plan cert found)
      → IfOk r (λ found. IsExaminedOf cert found w q) → IfOk r (AreExamined domain problem plan cert)
  finds_as (Ok found) w q spelled h = spelled found h
  finds_as (Err e) w q spelled h = tt

  -- a line of a kind
  module _ (misfit : Bool) where
    as_line : (k x : RecheckKind) (text bytes : List ℕ) → k ≡ x → text ≡ bytes
        → IsRecheckLine misfit domain problem plan cert x bytes
        → IsRecheckLine misfit domain problem plan cert k text
    as_line k x text bytes same equal h =
        subst (λ y. IsRecheckLine misfit domain problem plan cert y text) (sym same)
        (subst (λ y. IsRecheckLine misfit domain problem plan cert x y) (sym equal) h)

    found_by : (b : Bool) (n : ℕ) (o : Option ℕ)
        → AreExamined domain problem plan cert
        (record { recheck = record { certified = b; evaluated = n }; misfit = o })
        → (k : RecheckKind) (text : List ℕ) → IsFoundLine b (said_line misfit o) k text
        → IsRecheckLine misfit domain problem plan cert k text
    found_by true n o h k text (kind, is) = as_line k kinds.Certified text _ kind is (says_certified n o h)
    found_by false n o h k text (kind, is) = as_line k kinds.NotCertified text _ kind is (says_not_certified n o h)

    pub found_as : (e : Examined) (o : Option ℕ) → AreExamined domain problem plan cert e
        → o ≡ said_line misfit e.misfit
        → (k : RecheckKind) (text : List ℕ) → IsFoundLine e.recheck.certified o k text
        → IsRecheckLine misfit domain problem plan cert k text
    found_as e o h line k text is =
        found_by e.recheck.certified e.recheck.evaluated e.misfit h k text
        (subst (λ x. IsFoundLine e.recheck.certified x k text) line is)

    pub rejected_as : (w : Which) (f : Fault) → IsRejectedOfFour domain problem plan cert w f
        → (k : RecheckKind) (text : List ℕ) → IsRejection kinds.Rejected w f k text
        → IsRecheckLine misfit domain problem plan cert k text
    rejected_as w f h k text (kind, is) = as_line k kinds.Rejected text (rejection w f) kind is (says_rejected w f h)

  -- the answer alone
  pub rechecked : (e : Examined) → AreExamined domain problem plan cert e → Rechecked domain problem plan cert e.recheck
  rechecked e (d, p, q, spelled, h) = (d, p, q, spelled, h.is_recheck)

-- a reader where nothing is written
pub halt_read : {R : Type 0} (w : Which) (left : R → Option (List ℕ)) (r r' : R) (Alone : Type 0)
    (Next : RunFault → Type 0) (text : List ℕ) → IsRead (left r) (left r') MOST_BYTES text
    → (f : RunFault) → Next f → IsHaltFrom w left r r' Alone Next f
halt_read w left r r' Alone Next text read f h = text_given text f read h

pub halt_unread : {R : Type 0} (w : Which) (left : R → Option (List ℕ)) (r r' : R) (Alone : Type 0)
    (Next : RunFault → Type 0) (fault : ReadFault)
    → IsReadFault (left r) (left r') MOST_BYTES fault → Alone
    → (f : RunFault) → IsFailureOf w fault f → IsHaltFrom w left r r' Alone Next f
halt_unread w left r r' Alone Next fault h alone f is =
    text_failed f (failed_read w (left r) (left r') fault h f is) alone
