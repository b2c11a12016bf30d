-- Any three texts spell values or are rejected, and never both; and it is one thing that they
-- spell, or one fault.
use Rattle.std.proofs.Common.{◌≡◌, ◌⊎◌, inl, inr, ℕ, List, Option, Some, None, refl, sym, ◌∙◌, subst}
use Rattle.hv_text.specs.declared.fault.TextKind.TheVariants as texts
use Rattle.hv_reading.specs.declared.fault.SyntaxKind.{SyntaxKind}
use Rattle.hv_reading.specs.declared.fault.SyntaxKind.TheVariants as kinds
use Rattle.hv_syntax.specs.Values.{Domain, Problem}
use Rattle.hv_reading.specs.Texts.{IsDomainText, IsDomainFault, IsProblemText, IsProblemFault, SaysSome, HasFaultBy}
use Rattle.hv_world.specs.declared.fault.StaticFault.{StaticFault}
use Rattle.hv_world.specs.StaticRules.{first_fault}
use Rattle.hv_plan.specs.Values.{Plan}
use Rattle.hv_plan.specs.Spellings.{IsPlan, IsPlanFault}
use Rattle.hv_plan.specs.declared.fault.PlanFault.{PlanFault}
use Rattle.hv_plan.specs.declared.fault.PlanFault.TheVariants as plans
use Rattle.hv_answer.specs.declared.answer.Verdict.TheVariants.{Rejected}
use Rattle.hv_answer.specs.declared.answer.Fault.{Fault}
use Rattle.hv_answer.specs.declared.answer.FaultKind.{FaultKind}
use Rattle.hv_answer.specs.declared.answer.FaultKind.TheVariants as faults
use Rattle.hv_answer.specs.declared.answer.Which.{Which}
use Rattle.hv_answer.specs.declared.answer.Which.TheVariants as which
use Rattle.hv_answer.specs.Places.{fault_nowhere, fault_on}
use Rattle.hv_judge.specs.Rejections.{reported, reported_plan, fault_in, first_too_long, which_of, text_of_side, AreRead, IsRejectedPair, by_domain, by_problem, by_statics, IsRejected, by_length, by_pair, by_plan}
use Rattle.hv_judge.specs.Answers.{HaveValues, HaveRejection, ValuesOrRejectionLaw, NeverBothLaw, OneSpellingLaw, OneRejectionLaw}
use Rattle.hv_judge.specs.Verdicts.{AreSpelled}
use Rattle.hv_judge.proofs.LawStatics.{static_reported}
use Rattle.hv_judge.proofs.LawTexts.{LawsOfTexts, texts_one, rejected_step, long_or_short, read_or_unread, planned_or_unplanned}

-- what is known of any text: it says a value or has a fault of its own
pub record LawsOfValues : Type 0 where
  pub domain : (text : List ℕ) → SaysSome IsDomainText text ⊎ HasFaultBy IsDomainFault text
  pub problem : (text : List ℕ) → SaysSome IsProblemText text ⊎ HasFaultBy IsProblemFault text
  pub plan : (text : List ℕ) → ((p : Plan) × IsPlan text p)
      ⊎ ((f : PlanFault) × (f ≡ plans.Memory → ⊥) × IsPlanFault text f)

-- each fault but want of memory is reported

record IsReportedText (kind : SyntaxKind) : Type 0 where
  pub as_kind : FaultKind
  pub is : reported kind ≡ Some as_kind

text_reported : (kind : SyntaxKind) → (kind ≡ kinds.Text texts.Memory → ⊥) → IsReportedText kind
text_reported (kinds.Text texts.BadByte) own = record { as_kind = faults.BadByte; is = refl }
text_reported (kinds.Text texts.Unclosed) own = record { as_kind = faults.Unclosed; is = refl }
text_reported (kinds.Text texts.Unopened) own = record { as_kind = faults.Unopened; is = refl }
text_reported (kinds.Text texts.TooDeep) own = record { as_kind = faults.TooDeep; is = refl }
text_reported (kinds.Text texts.TooLong) own = record { as_kind = faults.TooLong; is = refl }
text_reported (kinds.Text texts.Memory) own = absurd (own refl)
text_reported kinds.NotDefine own = record { as_kind = faults.NotDefine; is = refl }
text_reported kinds.UnknownSection own = record { as_kind = faults.UnknownSection; is = refl }
text_reported kinds.RepeatedSection own = record { as_kind = faults.RepeatedSection; is = refl }
text_reported kinds.MissingSection own = record { as_kind = faults.MissingSection; is = refl }
text_reported kinds.BadShape own = record { as_kind = faults.BadShape; is = refl }
text_reported kinds.Unsupported own = record { as_kind = faults.Unsupported; is = refl }

record IsReportedPlan (e : PlanFault) : Type 0 where
  pub as_fault : Fault
  pub is : reported_plan e ≡ Some as_fault

plan_reported : (e : PlanFault) → (e ≡ plans.Memory → ⊥) → IsReportedPlan e
plan_reported (plans.BadByte line) own =
    record { as_fault = fault_on faults.BadByte line; is = refl }
plan_reported plans.TooLong own = record { as_fault = fault_nowhere faults.TooLong; is = refl }
plan_reported plans.NoStart own = record { as_fault = fault_nowhere faults.NoStart; is = refl }
plan_reported plans.NoEnd own = record { as_fault = fault_nowhere faults.NoEnd; is = refl }
plan_reported (plans.BadLine line) own =
    record { as_fault = fault_on faults.BadLine line; is = refl }
plan_reported (plans.IdTooLarge line) own =
    record { as_fault = fault_on faults.IdTooLarge line; is = refl }
plan_reported plans.NoRoot own = record { as_fault = fault_nowhere faults.NoRoot; is = refl }
plan_reported (plans.RepeatedRoot line) own =
    record { as_fault = fault_on faults.RepeatedRoot line; is = refl }
plan_reported plans.Memory own = absurd (own refl)

-- step by step, a text is rejected or says its value

abbrev Outcome : List ℕ → List ℕ → List ℕ → Type 0
Outcome domain problem plan = HaveValues domain problem plan ⊎ HaveRejection domain problem plan

module _ (domain problem plan : List ℕ) (short : first_too_long domain problem plan ≡ None) where
  rejected_pair : (w : Which) (f : Fault) → IsRejectedPair domain problem w f
      → Outcome domain problem plan
  rejected_pair w f is = inr (w, f, by_pair w f short is)

  plan_outcome : (d : Domain) (p : Problem) → AreRead domain problem d p
      → (((q : Plan) × IsPlan plan q)
      ⊎ ((e : PlanFault) × (e ≡ plans.Memory → ⊥) × IsPlanFault plan e))
      → Outcome domain problem plan
  plan_outcome d p read (inl (q, says)) =
      inl (
        d,
        p,
        q,
        record {
          short = short;
          says_domain = read.says_domain;
          says_problem = read.says_problem;
          sound = read.sound;
          says_plan = says;
        },
      )
  plan_outcome d p read (inr (e, own, fault)) =
      let r = plan_reported e own in
      inr (which.Plan, r.as_fault, by_plan d p e r.as_fault short read fault r.is)

  static_outcome : LawsOfTexts → LawsOfValues → (d : Domain) (p : Problem) → IsDomainText domain d
      → IsProblemText problem p
      → (o : Option StaticFault) → first_fault d p ≡ o → Outcome domain problem plan
  static_outcome texts values d p says_domain says_problem None e =
      let (sound, back) = texts.static d p in
      plan_outcome d p (record {
        says_domain = says_domain;
        says_problem = says_problem;
        sound = sound e;
      }) (values.plan plan)
  static_outcome texts values d p says_domain says_problem (Some f) e =
      let r = static_reported d p f e in
      rejected_pair (which_of f.side)
      (fault_in r.as_kind (text_of_side domain problem f.side) f.span)
      (by_statics d p f r.as_kind says_domain says_problem e r.is)

  problem_outcome : LawsOfTexts → LawsOfValues → (d : Domain) → IsDomainText domain d
      → SaysSome IsProblemText problem ⊎ HasFaultBy IsProblemFault problem
      → Outcome domain problem plan
  problem_outcome texts values d says (inl (p, says_problem)) =
      static_outcome texts values d p says says_problem (first_fault d p) refl
  problem_outcome texts values d says (inr (kind, s, (own, fault))) =
      let r = text_reported kind own in
      rejected_pair which.Problem (fault_in r.as_kind problem s)
      (by_problem d kind s r.as_kind says fault r.is)

  domain_outcome : LawsOfTexts → LawsOfValues → SaysSome IsDomainText domain
      ⊎ HasFaultBy IsDomainFault domain → Outcome domain problem plan
  domain_outcome texts values (inl (d, says)) =
      problem_outcome texts values d says (values.problem problem)
  domain_outcome texts values (inr (kind, s, (own, fault))) =
      let r = text_reported kind own in
      rejected_pair which.Domain (fault_in r.as_kind domain s)
      (by_domain kind s r.as_kind fault r.is)

length_outcome : LawsOfTexts → LawsOfValues → (domain problem plan : List ℕ) (o : Option Which)
    → first_too_long domain problem plan ≡ o → Outcome domain problem plan
length_outcome texts values domain problem plan None short =
    domain_outcome domain problem plan short texts values (values.domain domain)
length_outcome texts values domain problem plan (Some w) long =
    inr (w, fault_nowhere faults.TooLong, by_length w long)

pub values_or_rejection : LawsOfTexts → LawsOfValues → ValuesOrRejectionLaw
values_or_rejection texts values domain problem plan =
    length_outcome texts values domain problem plan (first_too_long domain problem plan) refl

module _ (laws : LawsOfTexts) where
  pub one_spelling : OneSpellingLaw
  one_spelling domain problem plan d e p r q s h g = (
    laws.one_domain domain d e h.says_domain g.says_domain,
    laws.one_problem problem p r
        h.says_problem g.says_problem,
    laws.one_plan plan q s h.says_plan g.says_plan,
  )

  pub one_rejection : OneRejectionLaw
  one_rejection domain problem plan w v f g h k =
      let both : Rejected w f ≡ Rejected v g =
      texts_one laws domain problem plan (λ d p q a. ⊥) (λ d p q a b here there. absurd here)
      (Rejected w f) (Rejected v g)
      (rejected_step domain problem plan (λ d p q a. ⊥) w f h)
      (rejected_step domain problem plan (λ d p q a. ⊥) v g k) in (cc, cc)

  module _ (domain problem plan : List ℕ) (d : Domain) (p : Problem) (q : Plan)
      (h : AreSpelled domain problem plan d p q) where
    spelled_or_pair : (w : Which) (f : Fault) → IsRejectedPair domain problem w f → ⊥
    spelled_or_pair _ _ (by_domain kind s k fault is) =
        read_or_unread IsDomainText IsDomainFault which.Domain domain (laws.no_faulty_domain domain)
        (Rejected which.Domain (fault_in k domain s)) d (kind, s, k, fault, is, refl) h.says_domain
    spelled_or_pair _ _ (by_problem e kind s k says fault is) =
        read_or_unread IsProblemText IsProblemFault which.Problem problem
        (laws.no_faulty_problem problem)
        (Rejected which.Problem (fault_in k problem s)) p (kind, s, k, fault, is, refl)
        h.says_problem
    spelled_or_pair _ _ (by_statics e r f k says_domain says_problem first is) =
        let of_domain : e ≡ d = laws.one_domain domain e d says_domain h.says_domain in
        let of_problem : r ≡ p = laws.one_problem problem r p says_problem h.says_problem in
        let here : first_fault d r ≡ Some f =
        subst (λ (x : Domain). first_fault x r ≡ Some f) of_domain first in
        let there : first_fault d p ≡ Some f =
        subst (λ (x : Problem). first_fault d x ≡ Some f) of_problem here in
        let (from, back) = laws.static d p in
        let both : None ≡ Some f = sym (back h.sound) ∙ there in cc

    spelled_or_rejected : (w : Which) (f : Fault) → IsRejected domain problem plan w f → ⊥
    spelled_or_rejected _ _ (by_length w long) =
        long_or_short domain problem plan (Rejected w (fault_nowhere faults.TooLong))
        (w, long, refl) h.short
    spelled_or_rejected _ _ (by_pair w f short is) = spelled_or_pair w f is
    spelled_or_rejected _ _ (by_plan e r fault f short read is_fault is) =
        planned_or_unplanned laws plan (Rejected which.Plan f) q (fault, f, is_fault, is, refl)
        h.says_plan

  pub never_both : NeverBothLaw
  never_both domain problem plan (d, p, q, spelled) (w, f, rejected) =
      spelled_or_rejected domain problem plan d p q spelled w f rejected
