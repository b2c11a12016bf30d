-- What a recheck over four readers and a writer does.
use Rattle.std.specs.Prelude.{◌≡◌, ℕ, Bool, true, false, List, Option, None, codes}
use Rattle.hv_text.specs.Io.{IsRead}
use Rattle.hv_text.specs.declared.fault.TheConstants.{MOST_BYTES}
use Rattle.hv_answer.specs.declared.answer.Fault.{Fault}
use Rattle.hv_answer.specs.declared.answer.Which.{Which}
use Rattle.hv_answer.specs.declared.answer.Which.TheVariants as texts
use Rattle.hv_judge.specs.declared.rechecking.RecheckKind.{RecheckKind}
use Rattle.hv_judge.specs.declared.rechecking.RecheckKind.TheVariants as kinds
use Rattle.hv_judge.specs.declared.running.RunFault.{RunFault}
use Rattle.hv_answer.specs.Text.{refusal_text}
use Rattle.hv_judge.specs.Checked.{AreExamined, IsRejectedOfFour}
use Rattle.hv_judge.specs.Runs.{rejection, ComesOf, IsFailedRead, IsWant}

-- the line of a certificate that is said, where it is asked for
abbrev pub said_line : Bool → Option ℕ → Option ℕ
said_line true line = line
said_line false line = None

-- the line that is written of four texts, and its kind; `misfit` asks for the certificate's line
pub data IsRecheckLine (misfit : Bool) (domain problem plan cert : List ℕ)
    : RecheckKind → List ℕ → Type 0 where
  says_certified : (n : ℕ) (line : Option ℕ)
      → AreExamined domain problem plan cert
      (record { recheck = record { certified = true; evaluated = n }; misfit = line })
      → IsRecheckLine misfit domain problem plan cert kinds.Certified (codes "certified\n")
  says_not_certified : (n : ℕ) (line : Option ℕ)
      → AreExamined domain problem plan cert
      (record { recheck = record { certified = false; evaluated = n }; misfit = line })
      → IsRecheckLine misfit domain problem plan cert kinds.NotCertified
      (refusal_text (said_line misfit line))
  says_rejected : (w : Which) (f : Fault) → IsRejectedOfFour domain problem plan cert w f
      → IsRecheckLine misfit domain problem plan cert kinds.Rejected (rejection w f)

-- the readers of the certificate, of the plan before it, of the problem before these, and of the
-- domain before these
abbrev pub IsRecheckOfCertificate : {D : Type 0} → (D → Option (List ℕ)) → D → D
    → Bool → List ℕ → List ℕ → List ℕ → RecheckKind → List ℕ → Type 0
IsRecheckOfCertificate left_d d d' misfit domain problem plan =
    ComesOf texts.Certificate left_d d d' (Unit {0}) kinds.Rejected
    (IsRecheckLine misfit domain problem plan)

abbrev pub IsRecheckOfPlan : {C D : Type 0} → (C → Option (List ℕ)) → C → C
    → (D → Option (List ℕ)) → D → D → Bool → List ℕ → List ℕ → RecheckKind → List ℕ → Type 0
IsRecheckOfPlan left_c c c' left_d d d' misfit domain problem =
    ComesOf texts.Plan left_c c c' (d' ≡ d) kinds.Rejected
    (IsRecheckOfCertificate left_d d d' misfit domain problem)

abbrev pub IsRecheckOfProblem : {B C D : Type 0} → (B → Option (List ℕ)) → B → B
    → (C → Option (List ℕ)) → C → C → (D → Option (List ℕ)) → D → D → Bool → List ℕ
    → RecheckKind → List ℕ → Type 0
IsRecheckOfProblem left_b b b' left_c c c' left_d d d' misfit domain =
    ComesOf texts.Problem left_b b b' ((c' ≡ c) × (d' ≡ d)) kinds.Rejected
    (IsRecheckOfPlan left_c c c' left_d d d' misfit domain)

abbrev pub IsRecheckOf : {A B C D : Type 0} → (A → Option (List ℕ)) → A → A
    → (B → Option (List ℕ)) → B → B → (C → Option (List ℕ)) → C → C
    → (D → Option (List ℕ)) → D → D → Bool → RecheckKind → List ℕ → Type 0
IsRecheckOf left_a a a' left_b b b' left_c c c' left_d d d' misfit =
    ComesOf texts.Domain left_a a a' ((b' ≡ b) × (c' ≡ c) × (d' ≡ d)) kinds.Rejected
    (IsRecheckOfProblem left_b b b' left_c c c' left_d d d' misfit)

-- one reader where nothing is written: it was not read to its end, and those behind it are left
-- `Alone`; or it was, and `Next` says why
pub data IsHaltFrom {R : Type 0} (w : Which) (left : R → Option (List ℕ)) (r r' : R)
    (Alone : Type 0) (Next : RunFault → Type 0) : RunFault → Type 0 where
  text_failed : (fault : RunFault) → IsFailedRead w (left r) (left r') fault → Alone
      → IsHaltFrom w left r r' Alone Next fault
  text_given : (text : List ℕ) (fault : RunFault) → IsRead (left r) (left r') MOST_BYTES text
      → Next fault → IsHaltFrom w left r r' Alone Next fault

-- the same four; behind the last a growth was refused
abbrev pub IsRecheckHaltOfCertificate : {D : Type 0} → (D → Option (List ℕ)) → D → D → RunFault
    → Type 0
IsRecheckHaltOfCertificate left_d d d' = IsHaltFrom texts.Certificate left_d d d' (Unit {0}) IsWant

abbrev pub IsRecheckHaltOfPlan : {C D : Type 0} → (C → Option (List ℕ)) → C → C
    → (D → Option (List ℕ)) → D → D → RunFault → Type 0
IsRecheckHaltOfPlan left_c c c' left_d d d' =
    IsHaltFrom texts.Plan left_c c c' (d' ≡ d) (IsRecheckHaltOfCertificate left_d d d')

abbrev pub IsRecheckHaltOfProblem : {B C D : Type 0} → (B → Option (List ℕ)) → B → B
    → (C → Option (List ℕ)) → C → C → (D → Option (List ℕ)) → D → D → RunFault → Type 0
IsRecheckHaltOfProblem left_b b b' left_c c c' left_d d d' =
    IsHaltFrom texts.Problem left_b b b' ((c' ≡ c) × (d' ≡ d))
    (IsRecheckHaltOfPlan left_c c c' left_d d d')

abbrev pub IsRecheckHaltOf : {A B C D : Type 0} → (A → Option (List ℕ)) → A → A
    → (B → Option (List ℕ)) → B → B → (C → Option (List ℕ)) → C → C
    → (D → Option (List ℕ)) → D → D → RunFault → Type 0
IsRecheckHaltOf left_a a a' left_b b b' left_c c c' left_d d d' =
    IsHaltFrom texts.Domain left_a a a' ((b' ≡ b) × (c' ≡ c) × (d' ≡ d))
    (IsRecheckHaltOfProblem left_b b b' left_c c c' left_d d d')

-- what the parts of the code do

-- the line of what was found of a certificate
abbrev pub found_kind : Bool → RecheckKind
found_kind true = kinds.Certified
found_kind false = kinds.NotCertified

abbrev pub found_text : Bool → Option ℕ → List ℕ
found_text true line = codes "certified\n"
found_text false line = refusal_text line

abbrev pub IsFoundLine : Bool → Option ℕ → RecheckKind → List ℕ → Type 0
IsFoundLine certified line k text = (k ≡ found_kind certified) × (text ≡ found_text certified line)
