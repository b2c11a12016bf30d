-- The check of a certificate: what may be answered of one that is given, as a value or as a text.
use Rattle.std.specs.Prelude.{◌≡◌, ◌+◌, ◌<◌, ◌≤◌, ℕ, Bool, true, false, List, length, Option, None, Some}
use Rattle.hv_text.specs.declared.fault.TheConstants.{MOST_BYTES}
use Rattle.hv_world.specs.Worlds.{World}
use Rattle.hv_plan.specs.Values.{Plan}
use Rattle.hv_plan.specs.PlanTrees.{PlanTree}
use Rattle.hv_match.specs.Candidates.{Tells}
use Rattle.hv_order.specs.Misfits.{IsMisfit}
use Rattle.hv_certificate.specs.Forms.{IsCertText, IsCertFault}
use Rattle.hv_certificate.specs.declared.certificate.Certificate.{Certificate}
use Rattle.hv_certificate.specs.declared.fault.CertFault.TheVariants as certificates
use Rattle.hv_answer.specs.declared.answer.Fault.{Fault}
use Rattle.hv_answer.specs.declared.answer.FaultKind.TheVariants as kinds
use Rattle.hv_answer.specs.declared.answer.Which.{Which}
use Rattle.hv_answer.specs.declared.answer.Which.TheVariants as which
use Rattle.hv_judge.specs.declared.checking.CheckFault.{CheckFault}
use Rattle.hv_judge.specs.declared.checking.CheckFault.TheVariants as faults
use Rattle.hv_judge.specs.declared.checking.Examined.{Examined}
use Rattle.hv_judge.specs.declared.checking.Recheck.{Recheck}
use Rattle.hv_answer.specs.Places.{fault_nowhere, fault_on}
use Rattle.hv_judge.specs.Rejections.{IsRejected, first_too_long}
use Rattle.hv_judge.specs.Solutions.{ReachesGoal, SolvesBy, judged_in}
use Rattle.hv_judge.specs.Verdicts.{IsSpelledAs}

-- The three texts spell a plan and the world that it is for, and the answer says whether the plan
-- solves its problem by the certificate
abbrev pub Checked : List ℕ → List ℕ → List ℕ → Certificate → Bool → Type 0
Checked domain problem plan c b = IsSpelledAs domain problem plan (λ w q. Tells (SolvesBy w q c) b)

-- one of the texts is rejected, or a growth of memory was refused
abbrev pub IsCheckFault : List ℕ → List ℕ → List ℕ → CheckFault → Type 0
IsCheckFault domain problem plan (faults.Rejected which fault) =
    IsRejected domain problem plan which fault
IsCheckFault domain problem plan faults.Memory = Unit {0}

-- one where there is something, else none
abbrev pub count_of : {A : Type 0} → Option A → ℕ
count_of None = 0
count_of (Some x) = 1

-- How many formulas are evaluated: at most one for each action line and for each decomposition
-- line, and the goal; on a yes just these, the goal where the problem has one
pub record CountsFormulas (w : World) (p : Plan) (r : Recheck) : Type 0 where
  pub within : r.evaluated ≤ length p.actions + length p.decompositions + 1
  pub whole :
      r.certified ≡ true
      → r.evaluated ≡ length p.actions + length p.decompositions + count_of w.goal

-- what the check of the text of a certificate says of a plan in a world
pub record IsRecheckOf (cert : List ℕ) (r : Recheck) (w : World) (p : Plan) : Type 0 where
  pub certificate : Certificate
  pub says : IsCertText cert certificate
  pub certified : Tells (SolvesBy w p certificate) r.certified
  pub evaluated : CountsFormulas w p r

-- A line of the text of a certificate that does not fit the plan, by its number in the text: the
-- plan reaches the goal, and what the line says of its node does not fit. The first line is
-- `solves`, and the others have the order of the nodes
pub record IsMisfitLine (w : World) (p : Plan) (c : Certificate) (line : ℕ) : Type 0 where
  pub tree : PlanTree
  pub reaches : ReachesGoal w p tree
  pub place : ℕ
  pub is_line : line ≡ place + 2
  pub misfit : IsMisfit (judged_in w tree) c place

-- which line is told where a plan solves its problem by the certificate, or does not; none where it
-- does, and where no certificate could help the plan
pub data TellsLine (w : World) (p : Plan) (c : Certificate) : Bool → Option ℕ → Type 0 where
  certified : TellsLine w p c true None
  no_plan : ((t : PlanTree) → ReachesGoal w p t → ⊥) → TellsLine w p c false None
  no_line : (line : ℕ) → IsMisfitLine w p c line → TellsLine w p c false (Some line)

-- what the examination of the text of a certificate says of a plan in a world
pub record IsExaminedOf (cert : List ℕ) (e : Examined) (w : World) (p : Plan) : Type 0 where
  pub is_recheck : IsRecheckOf cert e.recheck w p
  pub line : TellsLine w p is_recheck.certificate e.recheck.certified e.misfit

-- the same of three texts, which spell a plan and the world that it is for
abbrev pub AreExamined : List ℕ → List ℕ → List ℕ → List ℕ → Examined → Type 0
AreExamined domain problem plan cert e = IsSpelledAs domain problem plan (IsExaminedOf cert e)

-- The three texts spell a plan and the world that it is for, the fourth is the text of a
-- certificate, and the answer says whether the plan solves its problem by that certificate
abbrev pub Rechecked : List ℕ → List ℕ → List ℕ → List ℕ → Recheck → Type 0
Rechecked domain problem plan cert r = IsSpelledAs domain problem plan (IsRecheckOf cert r)

-- One of four texts is rejected: the first that is too long; else the domain, the problem or the
-- plan as where they are judged; else the certificate, for its first line that is not of its form
pub data IsRejectedOfFour (domain problem plan cert : List ℕ) : Which → Fault → Type 0 where
  too_long : (w : Which) → first_too_long domain problem plan ≡ Some w
      → IsRejectedOfFour domain problem plan cert w (fault_nowhere kinds.TooLong)
  certificate_too_long : first_too_long domain problem plan ≡ None → MOST_BYTES < length cert
      → IsRejectedOfFour domain problem plan cert which.Certificate (fault_nowhere kinds.TooLong)
  not_judged : (w : Which) (f : Fault) → first_too_long domain problem plan ≡ None
      → length cert ≤ MOST_BYTES → IsRejected domain problem plan w f
      → IsRejectedOfFour domain problem plan cert w f
  not_of_form : (line : ℕ) → IsSpelledAs domain problem plan (λ w q. Unit {0})
      → IsCertFault cert (certificates.BadCertificate line)
      → IsRejectedOfFour domain problem plan cert which.Certificate
      (fault_on kinds.BadCertificate line)

-- one of the four texts is rejected, or a growth of memory was refused
abbrev pub IsRecheckFault : List ℕ → List ℕ → List ℕ → List ℕ → CheckFault → Type 0
IsRecheckFault domain problem plan cert (faults.Rejected which fault) =
    IsRejectedOfFour domain problem plan cert which fault
IsRecheckFault domain problem plan cert faults.Memory = Unit {0}
