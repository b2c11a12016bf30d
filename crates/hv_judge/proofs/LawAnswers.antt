-- Three texts and a limit have one verdict, and it says whether there is a solution.
use Rattle.std.proofs.Common.{ℕ, List, refl}
use Rattle.hv_syntax.specs.Values.{Domain, Problem}
use Rattle.hv_world.specs.Worlds.{world_of}
use Rattle.hv_plan.specs.Values.{Plan}
use Rattle.hv_answer.specs.Kinds.{verdict_of}
use Rattle.hv_answer.specs.declared.answer.Verdict.{Verdict}
use Rattle.hv_answer.specs.declared.answer.Verdict.TheVariants.{Solves, Fails, Undecided, Rejected}
use Rattle.hv_judge.specs.Verdicts.{IsSpelledAs, IsVerdict, HasVerdict}
use Rattle.hv_judge.specs.Answers.{OneVerdictLaw, OneAnswerLaw, VerdictOfAnswerLaw, SolvesLaw, FailsLaw, CertifiedLaw, ExplainedLaw}
use Rattle.hv_judge.proofs.LawTexts.{LawsOfTexts, AtTexts, texts_one, rejected_step, spelled_step}
use Rattle.hv_judge.proofs.LawPlans.{LawsOfPlans, AtTree, tree_one, verdict_step, is_solution, no_solution}

-- behind the texts stand the steps of the plan in its world
abbrev Rest : ℕ → Domain → Problem → Plan → Verdict → Type 0
Rest limit d p q v = AtTree (world_of d p) q limit v

module _ (laws : LawsOfPlans) where
  module _ (domain problem plan : List ℕ) (limit : ℕ) where
    spelled_verdict : (v : Verdict) → IsSpelledAs domain problem plan (IsVerdict limit v)
        → AtTexts domain problem plan (Rest limit) v
    spelled_verdict v (d, p, q, spelled, verdict) =
        spelled_step domain problem plan (Rest limit) v d p q spelled
        (verdict_step laws (world_of d p) q limit v verdict)

    -- each verdict is that of one step
    texts_step : (v : Verdict) → HasVerdict domain problem plan limit v
        → AtTexts domain problem plan (Rest limit) v
    texts_step Solves h = spelled_verdict Solves h
    texts_step (Fails c) h = spelled_verdict (Fails c) h
    texts_step (Undecided line) h = spelled_verdict (Undecided line) h
    texts_step (Rejected w f) h = rejected_step domain problem plan (Rest limit) w f h

  module _ (texts : LawsOfTexts) where
    pub one_verdict : OneVerdictLaw
    one_verdict domain problem plan limit v u h g =
        texts_one texts domain problem plan (Rest limit)
        (λ d p q. tree_one laws (world_of d p) q limit) v u
        (texts_step domain problem plan limit v h) (texts_step domain problem plan limit u g)

    pub one_answer : OneAnswerLaw
    one_answer domain problem plan limit a b h g =
        one_verdict domain problem plan limit (verdict_of a) (verdict_of b) h.verdict g.verdict

  pub none_solves : FailsLaw
  none_solves domain problem plan limit c (d, p, q, spelled, cause) =
      (d, p, q, spelled, no_solution laws (world_of d p) q limit c cause)

  pub a_certified : CertifiedLaw
  a_certified domain problem plan cert r (d, p, q, spelled, is) on =
      (d, p, q, spelled, is_solution laws (world_of d p) q 0 is.certificate (is.certified.0 on))

pub of_answer : VerdictOfAnswerLaw
of_answer domain problem plan limit a h = h.verdict

pub a_solution : SolvesLaw
a_solution domain problem plan limit (d, p, q, spelled, (s, within)) = (d, p, q, spelled, s)

pub explained : ExplainedLaw
explained c = refl
