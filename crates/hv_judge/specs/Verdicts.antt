-- The verdict of three texts and a limit, and what the judge may answer.
use Rattle.std.specs.Prelude.{◌≡◌, ℕ, List, None}
use Rattle.hv_syntax.specs.Values.{Domain, Problem}
use Rattle.hv_reading.specs.Texts.{IsDomainText, IsProblemText}
use Rattle.hv_world.specs.StaticRules.{IsStatic}
use Rattle.hv_world.specs.Worlds.{World, world_of}
use Rattle.hv_plan.specs.Values.{Plan}
use Rattle.hv_plan.specs.Spellings.{IsPlan}
use Rattle.hv_plan.specs.PlanTrees.{PlanTree}
use Rattle.hv_certificate.specs.declared.certificate.Certificate.{Certificate}
use Rattle.hv_answer.specs.Kinds.{verdict_of}
use Rattle.hv_answer.specs.declared.answer.Answer.{Answer}
use Rattle.hv_answer.specs.declared.answer.Answer.TheVariants as answers
use Rattle.hv_answer.specs.declared.answer.Verdict.{Verdict}
use Rattle.hv_answer.specs.declared.answer.Verdict.TheVariants.{Solves, Fails, Undecided, Rejected}
use Rattle.hv_judge.specs.Solutions.{ReachesGoal, IsSolution, SolvesBy}
use Rattle.hv_judge.specs.Causes.{IsCauseOf, IsWithinLimit, IsFirstAbove}
use Rattle.hv_judge.specs.Rejections.{first_too_long, IsRejected}

-- the three texts spell a domain, a problem and a plan, and no static rule is broken
pub record AreSpelled (domain problem plan : List ℕ) (d : Domain) (p : Problem)
    (q : Plan) : Type 0 where
  pub short : first_too_long domain problem plan ≡ None
  pub says_domain : IsDomainText domain d
  pub says_problem : IsProblemText problem p
  pub sound : IsStatic d p
  pub says_plan : IsPlan plan q

-- the three texts spell a plan, and the world that it is for, of which this holds
abbrev pub IsSpelledAs : List ℕ → List ℕ → List ℕ → (World → Plan → Type 0) → Type 0
IsSpelledAs domain problem plan P =
    (d : Domain) × (p : Problem) × (q : Plan) × AreSpelled domain problem plan d p q
    × P (world_of d p) q

-- what may be said of a plan in a world: that it solves the problem, where it is a solution and no
-- node's count is above the limit; that it fails; or, where it reaches the goal and a node's count
-- is above the limit, nothing
abbrev pub IsVerdict : ℕ → Verdict → World → Plan → Type 0
IsVerdict limit Solves w q = (s : IsSolution w q) × IsWithinLimit w s.tree limit
IsVerdict limit (Fails c) w q = IsCauseOf w q limit c
IsVerdict limit (Undecided line) w q = (t : PlanTree) × ReachesGoal w q t
    × IsFirstAbove w t limit line
IsVerdict limit (Rejected which fault) w q = ⊥

-- the verdict of three texts and a limit: a text is rejected, or all three are spelled and it is
-- that of the plan
abbrev pub HasVerdict : List ℕ → List ℕ → List ℕ → ℕ → Verdict → Type 0
HasVerdict domain problem plan limit Solves =
    IsSpelledAs domain problem plan (IsVerdict limit Solves)
HasVerdict domain problem plan limit (Fails c) =
    IsSpelledAs domain problem plan (IsVerdict limit (Fails c))
HasVerdict domain problem plan limit (Undecided line) =
    IsSpelledAs domain problem plan (IsVerdict limit (Undecided line))
HasVerdict domain problem plan limit (Rejected which fault) =
    IsRejected domain problem plan which fault

-- the three texts spell a plan that solves its problem by this certificate
abbrev pub IsRight : List ℕ → List ℕ → List ℕ → Certificate → Type 0
IsRight domain problem plan c = IsSpelledAs domain problem plan (λ w q. SolvesBy w q c)

-- the certificate of an answer is right, where it has one
abbrev pub IsCertified : List ℕ → List ℕ → List ℕ → Answer → Type 0
IsCertified domain problem plan (answers.Solves c) = IsRight domain problem plan c
IsCertified domain problem plan (answers.Fails c) = Unit {0}
IsCertified domain problem plan (answers.Undecided line) = Unit {0}
IsCertified domain problem plan (answers.Rejected which fault) = Unit {0}

-- what the judge may answer: its verdict is that of the texts, and where it solves, its certificate
-- is right
pub record Judged (domain problem plan : List ℕ) (limit : ℕ) (a : Answer) : Type 0 where
  pub verdict : HasVerdict domain problem plan limit (verdict_of a)
  pub certified : IsCertified domain problem plan a
