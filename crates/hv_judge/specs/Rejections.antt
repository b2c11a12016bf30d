-- Which texts are rejected, and with which fault at which place.
use Rattle.std.specs.Prelude.{◌≡◌, ◌==◌, ◌+◌, ℕ, Bool, not, nat_lt, List, length, take, count_by, Option, None, Some, if◌then◌else◌}
use Rattle.std.specs.List.{suffix_len}
use Rattle.hv_text.specs.declared.span.Span.{Span}
use Rattle.hv_text.specs.declared.fault.TextKind.TheVariants as texts
use Rattle.hv_text.specs.declared.fault.TheConstants.{MOST_BYTES}
use Rattle.hv_plan.specs.Spellings.{IsPlanFault}
use Rattle.hv_plan.specs.declared.fault.PlanFault.{PlanFault}
use Rattle.hv_plan.specs.declared.fault.PlanFault.TheVariants as plans
use Rattle.hv_certificate.specs.declared.fault.CertFault.{CertFault}
use Rattle.hv_certificate.specs.declared.fault.CertFault.TheVariants as certificates
use Rattle.hv_answer.specs.declared.answer.Which.{Which}
use Rattle.hv_answer.specs.declared.answer.Which.TheVariants as which
use Rattle.hv_answer.specs.declared.answer.FaultKind.{FaultKind}
use Rattle.hv_answer.specs.declared.answer.FaultKind.TheVariants as faults
use Rattle.hv_answer.specs.declared.answer.Fault.{Fault}
use Rattle.hv_answer.specs.declared.answer.Place.TheVariants.{At}
use Rattle.hv_answer.specs.Places.{fault_nowhere, fault_on}
use Rattle.hv_reading.specs.declared.fault.SyntaxKind.{SyntaxKind}
use Rattle.hv_reading.specs.declared.fault.SyntaxKind.TheVariants as kinds
use Rattle.hv_syntax.specs.Values.{Domain, Problem}
use Rattle.hv_reading.specs.Texts.{IsDomainText, IsDomainFault, IsProblemText, IsProblemFault}
use Rattle.hv_world.specs.declared.fault.Side.{Side}
use Rattle.hv_world.specs.declared.fault.Side.TheVariants as sides
use Rattle.hv_world.specs.declared.fault.StaticKind.{StaticKind}
use Rattle.hv_world.specs.declared.fault.StaticKind.TheVariants as statics
use Rattle.hv_world.specs.declared.fault.StaticFault.{StaticFault}
use Rattle.hv_world.specs.StaticRules.{IsStatic, first_fault}

-- the kind under which a fault of a domain's or a problem's text is reported; want of memory is
-- reported as none
abbrev pub reported : SyntaxKind → Option FaultKind
reported (kinds.Text texts.BadByte) = Some faults.BadByte
reported (kinds.Text texts.Unclosed) = Some faults.Unclosed
reported (kinds.Text texts.Unopened) = Some faults.Unopened
reported (kinds.Text texts.TooDeep) = Some faults.TooDeep
reported (kinds.Text texts.TooLong) = Some faults.TooLong
reported (kinds.Text texts.Memory) = None
reported kinds.NotDefine = Some faults.NotDefine
reported kinds.UnknownSection = Some faults.UnknownSection
reported kinds.RepeatedSection = Some faults.RepeatedSection
reported kinds.MissingSection = Some faults.MissingSection
reported kinds.BadShape = Some faults.BadShape
reported kinds.Unsupported = Some faults.Unsupported

-- the kind under which a static fault is reported; want of memory is reported as none
abbrev pub reported_static : StaticKind → Option FaultKind
reported_static statics.UnknownType = Some faults.UnknownType
reported_static statics.UnknownObject = Some faults.UnknownObject
reported_static statics.UnknownPredicate = Some faults.UnknownPredicate
reported_static statics.UnknownTask = Some faults.UnknownTask
reported_static statics.UnboundVariable = Some faults.UnboundVariable
reported_static statics.Arity = Some faults.Arity
reported_static statics.DuplicateName = Some faults.DuplicateName
reported_static statics.DuplicateVariable = Some faults.DuplicateVariable
reported_static statics.DuplicateLabel = Some faults.DuplicateLabel
reported_static statics.UnknownLabel = Some faults.UnknownLabel
reported_static statics.CyclicOrdering = Some faults.CyclicOrdering
reported_static statics.Memory = None

-- a byte that ends a line
abbrev pub is_line_end : ℕ → Bool
is_line_end b = b == 10

-- the line and the column of a place, which count from 1: lines by the ends of lines before the
-- place, columns by the bytes since the last of these
abbrev pub line_of : List ℕ → Span → ℕ
line_of text s = 1 + count_by is_line_end (take s.start text)

abbrev pub column_of : List ℕ → Span → ℕ
column_of text s = 1 + suffix_len (λ b. not (is_line_end b)) (take s.start text)

-- a fault at a place of a text
abbrev pub fault_in : FaultKind → List ℕ → Span → Fault
fault_in kind text s = record { kind = kind; place = At (line_of text s) (column_of text s) }

-- the fault that is reported for a plan's; want of memory is reported as none
abbrev pub reported_plan : PlanFault → Option Fault
reported_plan (plans.BadByte line) = Some (fault_on faults.BadByte line)
reported_plan plans.TooLong = Some (fault_nowhere faults.TooLong)
reported_plan plans.NoStart = Some (fault_nowhere faults.NoStart)
reported_plan plans.NoEnd = Some (fault_nowhere faults.NoEnd)
reported_plan (plans.BadLine line) = Some (fault_on faults.BadLine line)
reported_plan (plans.IdTooLarge line) = Some (fault_on faults.IdTooLarge line)
reported_plan plans.NoRoot = Some (fault_nowhere faults.NoRoot)
reported_plan (plans.RepeatedRoot line) = Some (fault_on faults.RepeatedRoot line)
reported_plan plans.Memory = None

-- the fault that is reported for a certificate's; want of memory is reported as none
abbrev pub reported_cert : CertFault → Option Fault
reported_cert certificates.TooLong = Some (fault_nowhere faults.TooLong)
reported_cert (certificates.BadCertificate line) = Some (fault_on faults.BadCertificate line)
reported_cert certificates.Memory = None

-- the first text that is too long
abbrev pub first_too_long : List ℕ → List ℕ → List ℕ → Option Which
first_too_long domain problem plan =
    if nat_lt MOST_BYTES (length domain) then Some which.Domain else
    if nat_lt MOST_BYTES (length problem) then Some which.Problem else
    if nat_lt MOST_BYTES (length plan) then Some which.Plan else None

-- the text that a static fault stands in
abbrev pub which_of : Side → Which
which_of sides.Domain = which.Domain
which_of sides.Problem = which.Problem

abbrev pub text_of_side : List ℕ → List ℕ → Side → List ℕ
text_of_side domain problem sides.Domain = domain
text_of_side domain problem sides.Problem = problem

-- a domain and a problem spell these values, which have no static fault
pub record AreRead (domain problem : List ℕ) (d : Domain) (p : Problem) : Type 0 where
  pub says_domain : IsDomainText domain d
  pub says_problem : IsProblemText problem p
  pub sound : IsStatic d p

-- A domain or a problem is rejected: the domain's text comes first, then the problem's, then the
-- first static fault of the two
pub data IsRejectedPair (domain problem : List ℕ) : Which → Fault → Type 0 where
  by_domain : (kind : SyntaxKind) (s : Span) (k : FaultKind)
      → IsDomainFault domain kind s → reported kind ≡ Some k
      → IsRejectedPair domain problem which.Domain (fault_in k domain s)
  by_problem : (d : Domain) (kind : SyntaxKind) (s : Span) (k : FaultKind)
      → IsDomainText domain d → IsProblemFault problem kind s → reported kind ≡ Some k
      → IsRejectedPair domain problem which.Problem (fault_in k problem s)
  by_statics : (d : Domain) (p : Problem) (f : StaticFault) (k : FaultKind)
      → IsDomainText domain d → IsProblemText problem p → first_fault d p ≡ Some f
      → reported_static f.kind ≡ Some k
      → IsRejectedPair domain problem (which_of f.side)
      (fault_in k (text_of_side domain problem f.side) f.span)

-- A text is rejected: the first that is too long; else the domain or the problem; else the plan
pub data IsRejected (domain problem plan : List ℕ) : Which → Fault → Type 0 where
  by_length : (w : Which) → first_too_long domain problem plan ≡ Some w
      → IsRejected domain problem plan w (fault_nowhere faults.TooLong)
  by_pair : (w : Which) (f : Fault) → first_too_long domain problem plan ≡ None
      → IsRejectedPair domain problem w f → IsRejected domain problem plan w f
  by_plan : (d : Domain) (p : Problem) (e : PlanFault) (f : Fault)
      → first_too_long domain problem plan ≡ None → AreRead domain problem d p
      → IsPlanFault plan e → reported_plan e ≡ Some f
      → IsRejected domain problem plan which.Plan f
