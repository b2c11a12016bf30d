-- What the judge answers to three texts, from what it finds of each.
use Rattle.std.proofs.Common.{◌≡◌, ◌⊎◌, inl, inr, ℕ, Bool, true, false, List, Option, None, Some, Result, Ok, Err, IfOk, IfErr, refl, sym, subst}
use Rattle.hv_text.specs.declared.span.Span.{Span}
use Rattle.hv_syntax.specs.Values.{Domain, Problem}
use Rattle.hv_reading.specs.Texts.{IsDomainText, IsDomainFault, IsProblemText, IsProblemFault}
use Rattle.hv_reading.specs.declared.fault.SyntaxKind.{SyntaxKind}
use Rattle.hv_world.specs.Faults.{memory_fault}
use Rattle.hv_world.specs.StaticRules.{first_fault}
use Rattle.hv_world.specs.Worlds.{World, world_of}
use Rattle.hv_world.specs.declared.fault.StaticFault.{StaticFault}
use Rattle.hv_plan.specs.Values.{Plan}
use Rattle.hv_plan.specs.Spellings.{IsPlan, IsPlanFault}
use Rattle.hv_plan.specs.declared.fault.PlanFault.{PlanFault}
use Rattle.hv_certificate.specs.declared.certificate.Certificate.{Certificate}
use Rattle.hv_answer.specs.declared.answer.Answer.{Answer}
use Rattle.hv_answer.specs.declared.answer.Verdict.{Verdict}
use Rattle.hv_answer.specs.declared.answer.Verdict.TheVariants as verdicts
use Rattle.hv_answer.specs.declared.answer.Fault.{Fault}
use Rattle.hv_answer.specs.declared.answer.FaultKind.{FaultKind}
use Rattle.hv_answer.specs.declared.answer.Which.TheVariants as which
use Rattle.hv_judge.specs.declared.not_solved.NotSolved.{NotSolved}
use Rattle.hv_judge.specs.declared.not_solved.NotSolved.TheVariants.{Rejected, Fails, Undecided, Memory}
use Rattle.hv_judge.specs.Rejections.{reported, reported_static, reported_plan, first_too_long, which_of, text_of_side, by_domain, by_problem, by_statics, by_pair, by_plan}
use Rattle.hv_judge.specs.Solutions.{SolvesBy}
use Rattle.hv_judge.specs.Verdicts.{AreSpelled, IsVerdict, HasVerdict, IsRight, Judged}
use Rattle.hv_judge.specs.inside.Ends.{Ends, Explains, IsAnswerOf, IsVerdictOf, IsPairEnd, IsWorldOf, rejected_at, rejected_for, plan_end}

-- the domain's text, the problem's text, or a static rule

pub no_domain : (domain problem : List ℕ) (kind : SyntaxKind) (s : Span) (k : Option FaultKind)
    → reported kind ≡ k → IsDomainFault domain kind s
    → IsPairEnd domain problem (rejected_at which.Domain domain s k)
no_domain domain problem kind s None e h = tt
no_domain domain problem kind s (Some k) e h = by_domain kind s k h e

pub no_problem : (domain problem : List ℕ) (d : Domain) (kind : SyntaxKind) (s : Span)
    (k : Option FaultKind) → reported kind ≡ k → IsDomainText domain d
    → IsProblemFault problem kind s
    → IsPairEnd domain problem (rejected_at which.Problem problem s k)
no_problem domain problem d kind s None e says h = tt
no_problem domain problem d kind s (Some k) e says h = by_problem d kind s k says h e

no_world_for : (domain problem : List ℕ) (d : Domain) (p : Problem) (f : StaticFault)
    (k : Option FaultKind) → reported_static f.kind ≡ k → IsDomainText domain d
    → IsProblemText problem p → first_fault d p ≡ Some f
    → IsPairEnd domain problem
    (rejected_at (which_of f.side) (text_of_side domain problem f.side) f.span k)
no_world_for domain problem d p f None e says tells h = tt
no_world_for domain problem d p f (Some k) e says tells h = by_statics d p f k says tells h e

pub no_world : (domain problem : List ℕ) (d : Domain) (p : Problem) (f : StaticFault)
    → IsDomainText domain d → IsProblemText problem p
    → (f ≡ memory_fault) ⊎ (first_fault d p ≡ Some f)
    → IsPairEnd domain problem
    (rejected_at (which_of f.side) (text_of_side domain problem f.side) f.span
    (reported_static f.kind))
no_world domain problem d p f says tells (inl e) =
    subst (λ g. IsPairEnd domain problem
    (rejected_at (which_of g.side) (text_of_side domain problem g.side) g.span
    (reported_static g.kind)))
    (sym e) tt
no_world domain problem d p f says tells (inr h) =
    no_world_for domain problem d p f (reported_static f.kind) refl says tells h

-- the three texts

pub pair_rejected : (domain problem plan : List ℕ) (limit : ℕ) (e : NotSolved)
    → first_too_long domain problem plan ≡ None → IsPairEnd domain problem e
    → Ends (HasVerdict domain problem plan limit) e
pair_rejected domain problem plan limit (Rejected w f) short h = by_pair w f short h
pair_rejected domain problem plan limit (Fails c) short h = absurd h
pair_rejected domain problem plan limit (Undecided line) short h = absurd h
pair_rejected domain problem plan limit Memory short h = tt

plan_rejected_for : (domain problem plan : List ℕ) (limit : ℕ) (w : World) (f : PlanFault)
    (r : Option Fault) → reported_plan f ≡ r → first_too_long domain problem plan ≡ None
    → IsWorldOf domain problem w → IsPlanFault plan f
    → Ends (HasVerdict domain problem plan limit) (rejected_for which.Plan r)
plan_rejected_for domain problem plan limit w f None e short read h = tt
plan_rejected_for domain problem plan limit w f (Some r) e short read h =
    by_plan read.d read.p f r short read.are_read h e

pub plan_rejected : (domain problem plan : List ℕ) (limit : ℕ) (w : World) (f : PlanFault)
    → first_too_long domain problem plan ≡ None → IsWorldOf domain problem w
    → IsPlanFault plan f → Ends (HasVerdict domain problem plan limit) (plan_end f)
plan_rejected domain problem plan limit w f short read h =
    plan_rejected_for domain problem plan limit w f (reported_plan f) refl short read h

-- what is said of the plan in the world of the domain and the problem is said of the three texts
module _ (domain problem plan : List ℕ) (limit : ℕ) (w : World) (q : Plan)
    (short : first_too_long domain problem plan ≡ None) (read : IsWorldOf domain problem w)
    (says : IsPlan plan q) where
  pub spelled : (P : World → Plan → Type 0) → P w q
      → (d : Domain) × (p : Problem) × (r : Plan) × AreSpelled domain problem plan d p r × P (world_of d p) r
  spelled P h = (
    read.d,
    read.p,
    q,
    record {
      short = short;
      says_domain = read.are_read.says_domain;
      says_problem = read.are_read.says_problem;
      sound = read.are_read.sound;
      says_plan = says;
    },
    subst (λ v. P v q) read.is h,
  )

  pub plan_ends : (e : NotSolved) → Ends (λ v. IsVerdict limit v w q) e
      → Ends (HasVerdict domain problem plan limit) e
  plan_ends (Rejected which fault) h = absurd h
  plan_ends (Fails c) h = spelled (IsVerdict limit (verdicts.Fails c)) h
  plan_ends (Undecided line) h = spelled (IsVerdict limit (verdicts.Undecided line)) h
  plan_ends Memory h = tt

  plan_explains : (b : Bool) (o : Option Certificate) → Explains b (SolvesBy w q) o
      → Explains b (IsRight domain problem plan) o
  plan_explains true None h = h
  plan_explains true (Some c) h = spelled (λ v r. SolvesBy v r c) h
  plan_explains false o h = tt

  -- so it is with what the judge of a plan answers
  pub texts_solve : (r : Result (Option Certificate) NotSolved)
      → IfOk r (λ o. IsVerdict limit verdicts.Solves w q)
      → IfOk r (λ o. HasVerdict domain problem plan limit verdicts.Solves)
  texts_solve (Ok o) h = spelled (IsVerdict limit verdicts.Solves) h
  texts_solve (Err e) h = tt

  pub texts_explain : (b : Bool) (r : Result (Option Certificate) NotSolved)
      → IfOk r (Explains b (SolvesBy w q)) → IfOk r (Explains b (IsRight domain problem plan))
  texts_explain b (Ok o) h = plan_explains b o h
  texts_explain b (Err e) h = tt

  pub texts_end : (r : Result (Option Certificate) NotSolved)
      → IfErr r (Ends (λ v. IsVerdict limit v w q))
      → IfErr r (Ends (HasVerdict domain problem plan limit))
  texts_end (Ok o) h = tt
  texts_end (Err e) h = plan_ends e h

-- what is said where there is no solution
module _ (domain problem plan : List ℕ) (limit : ℕ) where
  judged_as : (e : NotSolved) (a : Answer) → Ends (HasVerdict domain problem plan limit) e
      → IsAnswerOf e a → Judged domain problem plan limit a
  judged_as (Rejected w f) a h is =
      subst (Judged domain problem plan limit) (sym is) (record { verdict = h; certified = tt })
  judged_as (Fails c) a h is =
      subst (Judged domain problem plan limit) (sym is) (record { verdict = h; certified = tt })
  judged_as (Undecided line) a h is =
      subst (Judged domain problem plan limit) (sym is) (record { verdict = h; certified = tt })
  judged_as Memory a h is = absurd is

  verdict_as : (e : NotSolved) (v : Verdict) → Ends (HasVerdict domain problem plan limit) e
      → IsVerdictOf e v → HasVerdict domain problem plan limit v
  verdict_as (Rejected w f) v h is = subst (HasVerdict domain problem plan limit) (sym is) h
  verdict_as (Fails c) v h is = subst (HasVerdict domain problem plan limit) (sym is) h
  verdict_as (Undecided line) v h is = subst (HasVerdict domain problem plan limit) (sym is) h
  verdict_as Memory v h is = absurd is

  pub answered : {E : Type 0} (e : NotSolved) (r : Result Answer E)
      → Ends (HasVerdict domain problem plan limit) e → IfOk r (IsAnswerOf e)
      → IfOk r (Judged domain problem plan limit)
  answered e (Ok a) h is = judged_as e a h is
  answered e (Err none) h is = tt

  pub decided : {E : Type 0} (e : NotSolved) (r : Result Verdict E)
      → Ends (HasVerdict domain problem plan limit) e → IfOk r (IsVerdictOf e)
      → IfOk r (HasVerdict domain problem plan limit)
  decided e (Ok v) h is = verdict_as e v h is
  decided e (Err none) h is = tt
