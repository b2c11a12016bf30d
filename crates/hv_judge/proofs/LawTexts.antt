-- The steps by which three texts are read: one is rejected, or each says its value.
use Rattle.std.proofs.Common.{◌≡◌, ◌≢◌, inl, inr, ◌↔◌, ℕ, List, Some, None, refl, sym, ◌∙◌, ap, subst}
use Rattle.hv_text.specs.declared.fault.TextKind.TheVariants as texts
use Rattle.hv_text.specs.declared.span.Span.{Span}
use Rattle.hv_reading.specs.declared.fault.SyntaxKind.{SyntaxKind}
use Rattle.hv_reading.specs.declared.fault.SyntaxKind.TheVariants as kinds
use Rattle.hv_syntax.specs.Values.{Domain, Problem}
use Rattle.hv_reading.specs.Texts.{IsDomainText, IsDomainFault, IsProblemText, IsProblemFault, IsOwnFaultBy}
use Rattle.hv_world.specs.declared.fault.StaticFault.{StaticFault}
use Rattle.hv_world.specs.StaticRules.{IsStatic, first_fault}
use Rattle.hv_plan.specs.Values.{Plan}
use Rattle.hv_plan.specs.Spellings.{IsPlan, IsPlanFault}
use Rattle.hv_plan.specs.declared.fault.PlanFault.{PlanFault}
use Rattle.hv_plan.specs.declared.fault.PlanFault.TheVariants as plans
use Rattle.hv_answer.specs.declared.answer.Verdict.{Verdict}
use Rattle.hv_answer.specs.declared.answer.Verdict.TheVariants.{Rejected}
use Rattle.hv_answer.specs.declared.answer.Fault.{Fault}
use Rattle.hv_answer.specs.declared.answer.FaultKind.{FaultKind}
use Rattle.hv_answer.specs.declared.answer.FaultKind.TheVariants as faults
use Rattle.hv_answer.specs.declared.answer.Which.{Which}
use Rattle.hv_answer.specs.declared.answer.Which.TheVariants as which
use Rattle.hv_answer.specs.Places.{fault_nowhere}
use Rattle.hv_judge.specs.Rejections.{reported, reported_static, reported_plan, fault_in, first_too_long, which_of, text_of_side, IsRejectedPair, by_domain, by_problem, by_statics, IsRejected, by_length, by_pair, by_plan}
use Rattle.hv_judge.specs.Verdicts.{AreSpelled}
use Rattle.hv_judge.proofs.LawSteps.{Turn, one_turn, Step, one_step, one_there}

-- what is known of texts: each says one value or has one fault of its own
pub record LawsOfTexts : Type 0 where
  pub one_domain : (text : List ℕ) (d e : Domain) → IsDomainText text d → IsDomainText text e
      → d ≡ e
  pub no_faulty_domain : (text : List ℕ) (d : Domain) (k : SyntaxKind) (s : Span)
      → IsDomainText text d → IsOwnFaultBy IsDomainFault text k s → ⊥
  pub one_domain_fault : (text : List ℕ) (k l : SyntaxKind) (s p : Span)
      → IsOwnFaultBy IsDomainFault text k s → IsOwnFaultBy IsDomainFault text l p → (k ≡ l)
      × (s ≡ p)
  pub one_problem : (text : List ℕ) (p q : Problem) → IsProblemText text p → IsProblemText text q
      → p ≡ q
  pub no_faulty_problem : (text : List ℕ) (p : Problem) (k : SyntaxKind) (s : Span)
      → IsProblemText text p → IsOwnFaultBy IsProblemFault text k s → ⊥
  pub one_problem_fault : (text : List ℕ) (k l : SyntaxKind) (s p : Span)
      → IsOwnFaultBy IsProblemFault text k s → IsOwnFaultBy IsProblemFault text l p → (k ≡ l)
      × (s ≡ p)
  pub static : (d : Domain) (p : Problem) → (first_fault d p ≡ None) ↔ IsStatic d p
  pub one_plan : (text : List ℕ) (p q : Plan) → IsPlan text p → IsPlan text q → p ≡ q
  pub no_faulty_plan : (text : List ℕ) (p : Plan) (f : PlanFault) → IsPlan text p
      → IsPlanFault text f → f ≡ plans.Memory
  pub one_plan_fault : (text : List ℕ) (f g : PlanFault) → IsPlanFault text f → IsPlanFault text g
      → (f ≡ plans.Memory → ⊥) → (g ≡ plans.Memory → ⊥) → f ≡ g

-- a text is too long

abbrev pub IsTooLong : List ℕ → List ℕ → List ℕ → Verdict → Type 0
IsTooLong domain problem plan a =
    (w : Which) × (first_too_long domain problem plan ≡ Some w)
    × (a ≡ Rejected w (fault_nowhere faults.TooLong))

pub long_or_short : (domain problem plan : List ℕ) (a : Verdict) → IsTooLong domain problem plan a
    → first_too_long domain problem plan ≡ None → ⊥
long_or_short domain problem plan a (w, long, is) short =
    let both : None ≡ Some w = sym short ∙ long in cc

one_too_long : (domain problem plan : List ℕ) (a b : Verdict) → IsTooLong domain problem plan a
    → IsTooLong domain problem plan b → a ≡ b
one_too_long domain problem plan a b (w, long, is) (v, again, other) =
    is ∙ (ap (λ (x : Which). Rejected x (fault_nowhere faults.TooLong))
    (one_there (first_too_long domain problem plan) w v long again) ∙ sym other)

-- a domain's or a problem's text says no value

-- what is reported is a fault of the text itself
own : (kind : SyntaxKind) (k : FaultKind) → reported kind ≡ Some k → kind ≢ kinds.Text texts.Memory
own kind k is memory =
    let bad : None ≡ Some k = subst (λ (x : SyntaxKind). reported x ≡ Some k) memory is in cc

rejected_alike : (w : Which) (text : List ℕ) (k l : FaultKind) (s p : Span) → k ≡ l → s ≡ p
    → Rejected w (fault_in k text s) ≡ Rejected w (fault_in l text p)
rejected_alike w text k l s p kind place =
    ap (λ (x : FaultKind). Rejected w (fault_in x text s)) kind
    ∙ ap (λ (x : Span). Rejected w (fault_in l text x)) place

abbrev pub IsUnread : (List ℕ → SyntaxKind → Span → Type 0) → Which → List ℕ → Verdict → Type 0
IsUnread IsFault w text a =
    (kind : SyntaxKind) × (s : Span) × (k : FaultKind) × IsFault text kind s
    × (reported kind ≡ Some k) × (a ≡ Rejected w (fault_in k text s))

module _ {V : Type 0} (Says : List ℕ → V → Type 0) (IsFault : List ℕ → SyntaxKind → Span → Type 0)
    (w : Which) (text : List ℕ) where
  pub read_or_unread : ((v : V) (k : SyntaxKind) (s : Span) → Says text v → IsOwnFaultBy IsFault
      text k s → ⊥)
      → (a : Verdict) (v : V) → IsUnread IsFault w text a → Says text v → ⊥
  read_or_unread never a v (kind, s, k, fault, is, answers) says =
      never v kind s says (own kind k is, fault)

one_unread : (IsFault : List ℕ → SyntaxKind → Span → Type 0) (w : Which) (text : List ℕ)
    → ((k l : SyntaxKind) (s p : Span) → IsOwnFaultBy IsFault text k s
    → IsOwnFaultBy IsFault text l p → (k ≡ l) × (s ≡ p))
    → (a b : Verdict) → IsUnread IsFault w text a → IsUnread IsFault w text b → a ≡ b
one_unread IsFault w text one a b (kind, s, k, fault, is, answers)
    (kind', s', k', fault', is', answers') =
    let alike = one kind kind' s s' (own kind k is, fault) (own kind' k' is', fault') in
    let here : reported kind' ≡ Some k =
    subst (λ (x : SyntaxKind). reported x ≡ Some k) alike.0 is in
    answers ∙ (rejected_alike w text k k' s s' (one_there (reported kind') k k' here is') alike.1
    ∙ sym answers')

-- a static rule is broken

abbrev pub static_verdict : List ℕ → List ℕ → StaticFault → FaultKind → Verdict
static_verdict domain problem f k =
    Rejected (which_of f.side) (fault_in k (text_of_side domain problem f.side) f.span)

abbrev pub IsUnsound : List ℕ → List ℕ → Domain → Problem → Verdict → Type 0
IsUnsound domain problem d p a =
    (f : StaticFault) × (k : FaultKind) × (first_fault d p ≡ Some f)
    × (reported_static f.kind ≡ Some k) × (a ≡ static_verdict domain problem f k)

pub sound_or_unsound : LawsOfTexts
    → (domain problem : List ℕ) (d : Domain) (p : Problem) (a : Verdict)
    → IsUnsound domain problem d p a → IsStatic d p → ⊥
sound_or_unsound laws domain problem d p a (f, k, first, is, answers) sound =
    let (from, back) = laws.static d p in
    let both : None ≡ Some f = sym (back sound) ∙ first in cc

one_unsound : (domain problem : List ℕ) (d : Domain) (p : Problem) (a b : Verdict)
    → IsUnsound domain problem d p a → IsUnsound domain problem d p b → a ≡ b
one_unsound domain problem d p a b (f, k, first, is, answers) (g, l, first', is', answers') =
    let fault : f ≡ g = one_there (first_fault d p) f g first first' in
    let here : reported_static g.kind ≡ Some k =
    subst (λ (x : StaticFault). reported_static x.kind ≡ Some k) fault is in
    let kind : k ≡ l = one_there (reported_static g.kind) k l here is' in
    answers
    ∙ (ap (λ (x : StaticFault). static_verdict domain problem x k) fault
    ∙ (ap (λ (x : FaultKind). static_verdict domain problem g x) kind ∙ sym answers'))

-- a plan's text holds no plan

-- what is reported is a fault of the text itself
own_plan : (e : PlanFault) (f : Fault) → reported_plan e ≡ Some f → e ≡ plans.Memory → ⊥
own_plan e f is memory =
    let bad : None ≡ Some f = subst (λ (x : PlanFault). reported_plan x ≡ Some f) memory is in cc

abbrev pub IsUnplanned : List ℕ → Verdict → Type 0
IsUnplanned plan a =
    (e : PlanFault) × (f : Fault) × IsPlanFault plan e × (reported_plan e ≡ Some f)
    × (a ≡ Rejected which.Plan f)

pub planned_or_unplanned : LawsOfTexts → (plan : List ℕ) (a : Verdict) (q : Plan)
    → IsUnplanned plan a → IsPlan plan q → ⊥
planned_or_unplanned laws plan a q (e, f, fault, is, answers) says =
    own_plan e f is (laws.no_faulty_plan plan q e says fault)

one_unplanned : LawsOfTexts → (plan : List ℕ) (a b : Verdict) → IsUnplanned plan a
    → IsUnplanned plan b → a ≡ b
one_unplanned laws plan a b (e, f, fault, is, answers) (e', f', fault', is', answers') =
    let alike : e ≡ e' =
    laws.one_plan_fault plan e e' fault fault' (own_plan e f is) (own_plan e' f' is') in
    let here : reported_plan e' ≡ Some f =
    subst (λ (x : PlanFault). reported_plan x ≡ Some f) alike is in
    answers ∙ (ap (λ (x : Fault). Rejected which.Plan x)
    (one_there (reported_plan e') f f' here is') ∙ sym answers')

-- all of these, one after another: behind them the rest speaks of what the texts say

abbrev pub AtPlan : List ℕ → (Plan → Verdict → Type 0) → Verdict → Type 0
AtPlan plan Rest = Step Plan (IsPlan plan) (IsUnplanned plan) Rest

abbrev pub AtStatics : List ℕ → List ℕ → List ℕ → (Domain → Problem → Plan → Verdict → Type 0)
    → Domain → Problem → Verdict → Type 0
AtStatics domain problem plan Rest d p =
    Turn (IsStatic d p) (IsUnsound domain problem d p) (AtPlan plan (Rest d p))

abbrev pub AtProblem : List ℕ → List ℕ → List ℕ → (Domain → Problem → Plan → Verdict → Type 0)
    → Domain → Verdict → Type 0
AtProblem domain problem plan Rest d =
    Step Problem (IsProblemText problem) (IsUnread IsProblemFault which.Problem problem)
    (AtStatics domain problem plan Rest d)

abbrev pub AtDomain : List ℕ → List ℕ → List ℕ → (Domain → Problem → Plan → Verdict → Type 0)
    → Verdict → Type 0
AtDomain domain problem plan Rest =
    Step Domain (IsDomainText domain) (IsUnread IsDomainFault which.Domain domain)
    (AtProblem domain problem plan Rest)

abbrev pub AtTexts : List ℕ → List ℕ → List ℕ → (Domain → Problem → Plan → Verdict → Type 0)
    → Verdict → Type 0
AtTexts domain problem plan Rest =
    Turn (first_too_long domain problem plan ≡ None) (IsTooLong domain problem plan)
    (AtDomain domain problem plan Rest)

module _ (laws : LawsOfTexts) (domain problem plan : List ℕ)
    (Rest : Domain → Problem → Plan → Verdict → Type 0)
    (one : (d : Domain) (p : Problem) (q : Plan) (a b : Verdict) → Rest d p q a → Rest d p q b
    → a ≡ b) where
  plan_one : (d : Domain) (p : Problem) (a b : Verdict) → AtPlan plan (Rest d p) a
      → AtPlan plan (Rest d p) b → a ≡ b
  plan_one d p =
      one_step Plan (IsPlan plan) (IsUnplanned plan) (Rest d p) (laws.one_plan plan)
      (planned_or_unplanned laws plan)
      (one_unplanned laws plan) (λ q a b says. one d p q a b)

  statics_one : (d : Domain) (p : Problem) (a b : Verdict)
      → AtStatics domain problem plan Rest d p a → AtStatics domain problem plan Rest d p b
      → a ≡ b
  statics_one d p =
      one_turn (IsStatic d p) (IsUnsound domain problem d p) (AtPlan plan (Rest d p))
      (sound_or_unsound laws domain problem d p)
      (one_unsound domain problem d p) (plan_one d p)

  problem_one : (d : Domain) (a b : Verdict)
      → AtProblem domain problem plan Rest d a → AtProblem domain problem plan Rest d b
      → a ≡ b
  problem_one d =
      one_step Problem (IsProblemText problem) (IsUnread IsProblemFault which.Problem problem)
      (AtStatics domain problem plan Rest d)
      (laws.one_problem problem)
      (read_or_unread IsProblemText IsProblemFault which.Problem problem
      (laws.no_faulty_problem problem))
      (one_unread IsProblemFault which.Problem problem (laws.one_problem_fault problem))
      (λ p a b says. statics_one d p a b)

  domain_one : (a b : Verdict) → AtDomain domain problem plan Rest a
      → AtDomain domain problem plan Rest b → a ≡ b
  domain_one =
      one_step Domain (IsDomainText domain) (IsUnread IsDomainFault which.Domain domain)
      (AtProblem domain problem plan Rest)
      (laws.one_domain domain)
      (read_or_unread IsDomainText IsDomainFault which.Domain domain (laws.no_faulty_domain domain))
      (one_unread IsDomainFault which.Domain domain (laws.one_domain_fault domain))
      (λ d a b says. problem_one d a b)

  pub texts_one : (a b : Verdict) → AtTexts domain problem plan Rest a
      → AtTexts domain problem plan Rest b → a ≡ b
  texts_one =
      one_turn (first_too_long domain problem plan ≡ None) (IsTooLong domain problem plan)
      (AtDomain domain problem plan Rest)
      (long_or_short domain problem plan) (one_too_long domain problem plan) domain_one

-- texts that are rejected answer at one of these steps

module _ (domain problem plan : List ℕ) (Rest : Domain → Problem → Plan → Verdict → Type 0) where
  pair_step : (w : Which) (f : Fault) → IsRejectedPair domain problem w f
      → AtDomain domain problem plan Rest (Rejected w f)
  pair_step _ _ (by_domain kind s k fault is) = inl (kind, s, k, fault, is, refl)
  pair_step _ _ (by_problem d kind s k says fault is) =
      inr (d, says, inl (kind, s, k, fault, is, refl))
  pair_step _ _ (by_statics d p f k says_domain says_problem first is) =
      inr (d, says_domain, inr (p, says_problem, inl (f, k, first, is, refl)))

  pub rejected_step : (w : Which) (f : Fault) → IsRejected domain problem plan w f
      → AtTexts domain problem plan Rest (Rejected w f)
  rejected_step _ _ (by_length w long) = inl (w, long, refl)
  rejected_step _ _ (by_pair w f short is) = inr (short, pair_step w f is)
  rejected_step _ _ (by_plan d p e f short read fault is) =
      let at_plan : AtPlan plan (Rest d p) (Rejected which.Plan f) =
      inl (e, f, fault, is, refl) in
      inr (short, inr (d, read.says_domain, inr (p, read.says_problem, inr (read.sound, at_plan))))

  -- and texts that are spelled pass them all
  pub spelled_step : (a : Verdict) (d : Domain) (p : Problem) (q : Plan)
      → AreSpelled domain problem plan d p q → Rest d p q a → AtTexts domain problem plan Rest a
  spelled_step a d p q s rest =
      let at_plan : AtPlan plan (Rest d p) a = inr (q, s.says_plan, rest) in
      inr (s.short, inr (d, s.says_domain, inr (p, s.says_problem, inr (s.sound, at_plan))))
