-- The laws of verdicts and answers: three texts and a limit have one verdict, it says whether there
-- is a solution, and a text is rejected exactly where the three do not spell what is judged.
use Rattle.std.specs.Prelude.{◌≡◌, ◌⊎◌, ℕ, true, List}
use Rattle.hv_syntax.specs.Values.{Domain, Problem}
use Rattle.hv_plan.specs.Values.{Plan}
use Rattle.hv_certificate.specs.Forms.{HasNumbers}
use Rattle.hv_certificate.specs.Texts.{cert_text}
use Rattle.hv_certificate.specs.declared.certificate.Certificate.{Certificate}
use Rattle.hv_answer.specs.declared.answer.Answer.{Answer}
use Rattle.hv_answer.specs.declared.answer.Answer.TheVariants as answers
use Rattle.hv_answer.specs.declared.answer.Verdict.{Verdict}
use Rattle.hv_answer.specs.declared.answer.Verdict.TheVariants.{Solves, Fails}
use Rattle.hv_answer.specs.Kinds.{verdict_of}
use Rattle.hv_answer.specs.declared.answer.Cause.{Cause}
use Rattle.hv_answer.specs.declared.answer.Fault.{Fault}
use Rattle.hv_answer.specs.declared.answer.Which.{Which}
use Rattle.hv_judge.specs.declared.checking.Recheck.{Recheck}
use Rattle.hv_judge.specs.Checked.{Rechecked}
use Rattle.hv_judge.specs.Rejections.{IsRejected}
use Rattle.hv_judge.specs.Solutions.{IsSolution}
use Rattle.hv_answer.specs.Text.{answer_text}
use Rattle.hv_judge.specs.Verdicts.{AreSpelled, IsSpelledAs, HasVerdict, Judged}

-- three texts and a limit have one verdict: the bytes decide which text is rejected and where, what
-- is said of the plan, the cause and its line
abbrev pub OneVerdictLaw : Type 0
OneVerdictLaw =
    (domain problem plan : List ℕ) (limit : ℕ) (v u : Verdict)
    → HasVerdict domain problem plan limit v → HasVerdict domain problem plan limit u → v ≡ u

-- so two answers are one, their certificates aside
abbrev pub OneAnswerLaw : Type 0
OneAnswerLaw =
    (domain problem plan : List ℕ) (limit : ℕ) (a b : Answer)
    → Judged domain problem plan limit a → Judged domain problem plan limit b
    → verdict_of a ≡ verdict_of b

-- the verdict of an answer is that of the texts
abbrev pub VerdictOfAnswerLaw : Type 0
VerdictOfAnswerLaw =
    (domain problem plan : List ℕ) (limit : ℕ) (a : Answer)
    → Judged domain problem plan limit a → HasVerdict domain problem plan limit (verdict_of a)

-- where a plan is said to solve its problem, it is a solution
abbrev pub SolvesLaw : Type 0
SolvesLaw =
    (domain problem plan : List ℕ) (limit : ℕ)
    → HasVerdict domain problem plan limit Solves → IsSpelledAs domain problem plan IsSolution

-- where a plan is said to fail, it is none
abbrev pub FailsLaw : Type 0
FailsLaw =
    (domain problem plan : List ℕ) (limit : ℕ) (c : Cause)
    → HasVerdict domain problem plan limit (Fails c)
    → IsSpelledAs domain problem plan (λ w q. IsSolution w q → ⊥)

-- where a certificate is said to be right, the plan is a solution
abbrev pub CertifiedLaw : Type 0
CertifiedLaw =
    (domain problem plan cert : List ℕ) (r : Recheck) → Rechecked domain problem plan cert r
    → r.certified ≡ true → IsSpelledAs domain problem plan IsSolution

-- what is written of a plan that solves its problem, with its certificate, is the
-- certificate's text
abbrev pub ExplainedLaw : Type 0
ExplainedLaw = (c : Certificate) → answer_text (answers.Solves c) true ≡ cert_text c

-- four texts have one answer, whether the certificate is right
abbrev pub OneRecheckLaw : Type 0
OneRecheckLaw =
    (domain problem plan cert : List ℕ) (r s : Recheck) → Rechecked domain problem plan cert r
    → Rechecked domain problem plan cert s → r.certified ≡ s.certified

-- the text of the certificate of a plan that is said to solve its problem is right
abbrev pub ExplainedAgainLaw : Type 0
ExplainedAgainLaw =
    (domain problem plan : List ℕ) (limit : ℕ) (c : Certificate) (r : Recheck) → HasNumbers c
    → Judged domain problem plan limit (answers.Solves c)
    → Rechecked domain problem plan (cert_text c) r → r.certified ≡ true

-- three texts spell a domain, a problem and a plan, and no static rule is broken
abbrev pub HaveValues : List ℕ → List ℕ → List ℕ → Type 0
HaveValues domain problem plan =
    (d : Domain) × (p : Problem) × (q : Plan) × AreSpelled domain problem plan d p q

-- one of three texts is rejected, for a fault
abbrev pub HaveRejection : List ℕ → List ℕ → List ℕ → Type 0
HaveRejection domain problem plan = (w : Which) × (f : Fault) × IsRejected domain problem plan w f

-- any three texts spell values, or one of them is rejected
abbrev pub ValuesOrRejectionLaw : Type 0
ValuesOrRejectionLaw =
    (domain problem plan : List ℕ)
    → HaveValues domain problem plan ⊎ HaveRejection domain problem plan

-- no three texts do both
abbrev pub NeverBothLaw : Type 0
NeverBothLaw =
    (domain problem plan : List ℕ)
    → HaveValues domain problem plan → HaveRejection domain problem plan → ⊥

-- three texts spell at most one domain, one problem and one plan
abbrev pub OneSpellingLaw : Type 0
OneSpellingLaw =
    (domain problem plan : List ℕ) (d e : Domain) (p r : Problem) (q s : Plan)
    → AreSpelled domain problem plan d p q → AreSpelled domain problem plan e r s
    → (d ≡ e) × (p ≡ r) × (q ≡ s)

-- of three texts at most one is rejected, for one fault at one place
abbrev pub OneRejectionLaw : Type 0
OneRejectionLaw =
    (domain problem plan : List ℕ) (w v : Which) (f g : Fault)
    → IsRejected domain problem plan w f → IsRejected domain problem plan v g → (w ≡ v) × (f ≡ g)
