-- What a run over readers and a writer does.
use Rattle.std.specs.Prelude.{◌≡◌, ℕ, Bool, true, false, List, Option, Result, Ok, Err, if◌then◌else◌}
use Rattle.std.specs.Io.KnownBytes.{Appends}
use Rattle.hv_text.specs.Io.{IsRead, IsReadFault, AppendsBeginning}
use Rattle.hv_text.specs.declared.fault.TheConstants.{MOST_BYTES}
use Rattle.hv_text.specs.declared.io.ReadFault.{ReadFault}
use Rattle.hv_text.specs.declared.io.ReadFault.TheVariants as reads
use Rattle.hv_answer.specs.declared.answer.Answer.{Answer}
use Rattle.hv_answer.specs.declared.answer.Fault.{Fault}
use Rattle.hv_answer.specs.declared.answer.FaultKind.TheVariants as faults
use Rattle.hv_answer.specs.declared.answer.Verdict.{Verdict}
use Rattle.hv_answer.specs.declared.answer.Verdict.TheVariants as verdicts
use Rattle.hv_answer.specs.declared.answer.Which.{Which}
use Rattle.hv_answer.specs.declared.answer.Which.TheVariants as texts
use Rattle.hv_answer.specs.declared.answer.Kind.{Kind}
use Rattle.hv_answer.specs.declared.answer.Kind.TheVariants as kinds
use Rattle.hv_judge.specs.declared.running.RunFault.{RunFault}
use Rattle.hv_judge.specs.declared.running.RunFault.TheVariants as runs
use Rattle.hv_answer.specs.Kinds.{kind_of, verdict_of}
use Rattle.hv_answer.specs.Places.{fault_nowhere}
use Rattle.hv_answer.specs.Text.{verdict_text, answer_text}
use Rattle.hv_judge.specs.Verdicts.{HasVerdict, Judged}

-- the line of a rejection
abbrev pub rejection : Which → Fault → List ℕ
rejection w f = verdict_text (verdicts.Rejected w f)

-- more bytes were read than a text may have
abbrev pub IsTooLong : Option (List ℕ) → Option (List ℕ) → Type 0
IsTooLong old new = IsReadFault old new MOST_BYTES reads.TooLong

-- the same text
abbrev pub is_same : Which → Which → Bool
is_same texts.Domain texts.Domain = true
is_same texts.Domain texts.Problem = false
is_same texts.Domain texts.Plan = false
is_same texts.Domain texts.Certificate = false
is_same texts.Problem texts.Domain = false
is_same texts.Problem texts.Problem = true
is_same texts.Problem texts.Plan = false
is_same texts.Problem texts.Certificate = false
is_same texts.Plan texts.Domain = false
is_same texts.Plan texts.Problem = false
is_same texts.Plan texts.Plan = true
is_same texts.Plan texts.Certificate = false
is_same texts.Certificate texts.Domain = false
is_same texts.Certificate texts.Problem = false
is_same texts.Certificate texts.Plan = false
is_same texts.Certificate texts.Certificate = true

-- how many reads of a text failed in a run that ended so
abbrev pub reads_failed : {K : Type 0} → Which → Result K RunFault → ℕ
reads_failed w (Ok k) = 0
reads_failed w (Err (runs.Read v)) = if is_same w v then 1 else 0
reads_failed w (Err runs.Memory) = 0
reads_failed w (Err runs.Write) = 0

-- how many writes failed in a run that ended so
abbrev pub writes_failed : {K : Type 0} → Result K RunFault → ℕ
writes_failed (Ok k) = 0
writes_failed (Err (runs.Read w)) = 0
writes_failed (Err runs.Memory) = 0
writes_failed (Err runs.Write) = 1

-- what `P` allows was written, and its kind is given; a beginning of it, where the writer failed;
-- nothing was done with the writer, where a text was not read or memory was refused
abbrev pub Wrote : {W K : Type 0} → (K → List ℕ → Type 0) → (W → Option (List ℕ)) → W → W
    → Result K RunFault → Type 0
Wrote P taken old new (Ok k) = (text : List ℕ) × P k text × Appends (taken old) (taken new) text
Wrote P taken old new (Err (runs.Read w)) = new ≡ old
Wrote P taken old new (Err runs.Memory) = new ≡ old
Wrote {W} {K} P taken old new (Err runs.Write) = (k : K) × (text : List ℕ) × P k text
    × AppendsBeginning (taken old) (taken new) text

-- the text of a verdict, and its kind
abbrev pub IsTextOf : Verdict → Kind → List ℕ → Type 0
IsTextOf v k text = (k ≡ kind_of v) × (text ≡ verdict_text v)

-- the text of an answer with what explains it, and the kind of its verdict
abbrev pub IsExplained : Answer → Kind → List ℕ → Type 0
IsExplained a k text = (k ≡ kind_of (verdict_of a)) × (text ≡ answer_text a true)

-- what is written of three texts, and its kind: with explanation the text of an answer that the
-- judge may give, else that of their verdict
abbrev pub IsSaid : List ℕ → List ℕ → List ℕ → ℕ → Bool → Kind → List ℕ → Type 0
IsSaid domain problem plan limit true k text = (a : Answer) × Judged domain problem plan limit a
    × IsExplained a k text
IsSaid domain problem plan limit false k text = (v : Verdict)
    × HasVerdict domain problem plan limit v
    × IsTextOf v k text

-- what comes of one reader: what `Next` allows for the text that it gave, or the line of its
-- rejection where it gave too much, with the readers behind it left `Alone`
pub data ComesOf {R K : Type 0} (w : Which) (left : R → Option (List ℕ)) (r r' : R) (Alone : Type 0)
    (rejected : K) (Next : List ℕ → K → List ℕ → Type 0) : K → List ℕ → Type 0 where
  text_read : (text : List ℕ) (k : K) (line : List ℕ)
      → IsRead (left r) (left r') MOST_BYTES text → Next text k line
      → ComesOf w left r r' Alone rejected Next k line
  text_too_long : IsTooLong (left r) (left r') → Alone
      → ComesOf w left r r' Alone rejected Next rejected
      (rejection w (fault_nowhere faults.TooLong))

-- what is written after the domain and the problem were read, after the domain was read, and of all
-- three readers
abbrev pub IsRunOfPlan : {C : Type 0} → (C → Option (List ℕ)) → C → C → ℕ → Bool → List ℕ → List ℕ
    → Kind → List ℕ → Type 0
IsRunOfPlan left c c' limit explain domain problem =
    ComesOf texts.Plan left c c' (Unit {0}) kinds.Rejected
    (λ plan. IsSaid domain problem plan limit explain)

abbrev pub IsRunOfProblem : {B C : Type 0} → (B → Option (List ℕ)) → B → B
    → (C → Option (List ℕ)) → C → C → ℕ → Bool → List ℕ → Kind → List ℕ → Type 0
IsRunOfProblem left_b b b' left_c c c' limit explain domain =
    ComesOf texts.Problem left_b b b' (c' ≡ c) kinds.Rejected
    (IsRunOfPlan left_c c c' limit explain domain)

abbrev pub IsRunOf : {A B C : Type 0} → (A → Option (List ℕ)) → A → A
    → (B → Option (List ℕ)) → B → B → (C → Option (List ℕ)) → C → C → ℕ → Bool
    → Kind → List ℕ → Type 0
IsRunOf left_a a a' left_b b b' left_c c c' limit explain =
    ComesOf texts.Domain left_a a a' ((b' ≡ b) × (c' ≡ c)) kinds.Rejected
    (IsRunOfProblem left_b b b' left_c c c' limit explain)

-- a reader was not read to its end, for this reason: it failed itself, or a growth was refused on
-- the way. It has moved on by what it gave
abbrev pub IsFailedRead : Which → Option (List ℕ) → Option (List ℕ) → RunFault → Type 0
IsFailedRead w old new (runs.Read v) = (v ≡ w) × IsReadFault old new MOST_BYTES reads.Device
IsFailedRead w old new runs.Memory = IsReadFault old new MOST_BYTES reads.Memory
IsFailedRead w old new runs.Write = ⊥

-- the last reader where a run gives nothing: it was not read to its end, or it was, and a growth
-- was refused behind it
pub data IsHaltOfText {R : Type 0} (w : Which) (left : R → Option (List ℕ)) (r r' : R) : RunFault
    → Type 0 where
  text_failed : (fault : RunFault) → IsFailedRead w (left r) (left r') fault
      → IsHaltOfText w left r r' fault
  text_given : (text : List ℕ) → IsRead (left r) (left r') MOST_BYTES text
      → IsHaltOfText w left r r' runs.Memory

-- the readers of the problem and the plan where a run gives no verdict: nothing was done with the
-- one behind one that was not read to its end
pub data IsHaltOfProblem {B C : Type 0} (left_b : B → Option (List ℕ)) (b b' : B)
    (left_c : C → Option (List ℕ)) (c c' : C) : RunFault → Type 0 where
  problem_failed : (fault : RunFault) → IsFailedRead texts.Problem (left_b b) (left_b b') fault
      → c' ≡ c
      → IsHaltOfProblem left_b b b' left_c c c' fault
  problem_given : (problem : List ℕ) (fault : RunFault)
      → IsRead (left_b b) (left_b b') MOST_BYTES problem → IsHaltOfText texts.Plan left_c c c' fault
      → IsHaltOfProblem left_b b b' left_c c c' fault

-- the three readers where a run gives no verdict: nothing was done with those behind one that was
-- not read to its end
pub data IsHaltOf {A B C : Type 0} (left_a : A → Option (List ℕ)) (a a' : A)
    (left_b : B → Option (List ℕ)) (b b' : B) (left_c : C → Option (List ℕ)) (c c' : C) : RunFault
    → Type 0 where
  domain_failed : (fault : RunFault) → IsFailedRead texts.Domain (left_a a) (left_a a') fault
      → b' ≡ b → c' ≡ c
      → IsHaltOf left_a a a' left_b b b' left_c c c' fault
  domain_given : (domain : List ℕ) (fault : RunFault)
      → IsRead (left_a a) (left_a a') MOST_BYTES domain
      → IsHaltOfProblem left_b b b' left_c c c' fault
      → IsHaltOf left_a a a' left_b b b' left_c c c' fault

-- where a run gave nothing, `P` holds of the reason
abbrev pub IfHalted : {K : Type 0} → (RunFault → Type 0) → Result K RunFault → Type 0
IfHalted P (Ok k) = Unit {0}
IfHalted P (Err (runs.Read w)) = P (runs.Read w)
IfHalted P (Err runs.Memory) = P runs.Memory
IfHalted P (Err runs.Write) = Unit {0}

-- what the parts of the code do

-- why a run gives nothing where a text was not read
abbrev pub IsFailureOf : Which → ReadFault → RunFault → Type 0
IsFailureOf w reads.Device fault = fault ≡ runs.Read w
IsFailureOf w reads.TooLong fault = ⊥
IsFailureOf w reads.Memory fault = fault ≡ runs.Memory

-- a run without readers gives nothing only where a growth was refused
abbrev pub IsWant : RunFault → Type 0
IsWant fault = fault ≡ runs.Memory

-- how many reads failed where a text was not read
abbrev pub failures_of : ReadFault → ℕ
failures_of reads.Device = 1
failures_of reads.TooLong = 0
failures_of reads.Memory = 0

-- how many reads of one text failed where another, or the same, was not read
abbrev pub failures_at : Which → Which → ReadFault → ℕ
failures_at w which fault = if is_same w which then failures_of fault else 0

-- the line of a rejection, and its kind
abbrev pub IsRejection : {K : Type 0} → K → Which → Fault → K → List ℕ → Type 0
IsRejection rejected w f k text = (k ≡ rejected) × (text ≡ rejection w f)

-- that of a text that was not read: it is too long
abbrev pub IsUnread : {K : Type 0} → K → Which → ReadFault → K → List ℕ → Type 0
IsUnread rejected w fault k text =
    (fault ≡ reads.TooLong) × IsRejection rejected w (fault_nowhere faults.TooLong) k text
