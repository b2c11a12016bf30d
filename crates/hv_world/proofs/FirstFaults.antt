-- The fault that is reported, from the first of a domain and the first of its problem.
use Rattle.std.proofs.Common.{◌≡◌, List, [], Option, Some, None, refl, ap, sym, ◌∙◌, inl, inr, ◌⊎◌}
use Rattle.std.specs.Option.{option_or}
use Rattle.std.specs.Prelude.{MatchOption}
use Rattle.hv_syntax.specs.Values.{Domain, Problem}
use Rattle.hv_world.specs.declared.fault.StaticFault.{StaticFault}
use Rattle.hv_world.specs.Known.{Known, known_in}
use Rattle.hv_world.specs.Faults.{IsFirst, least}
use Rattle.hv_world.specs.StaticRules.{domain_faults, domain_faults_by, problem_faults, problem_faults_by, first_fault, IsStatic, IsFirstFault}
use Rattle.hv_world.proofs.CheckLemmas.{none_of, first_of_all}

module _ (d : Domain) (p : Problem) (k : Known) (is : k ≡ known_in d p) where
  pub first_in_domain : (o : Option StaticFault) (f : StaticFault) → o ≡ least (domain_faults_by k d) → o ≡ Some f → Some f ≡ first_fault d p
  first_in_domain o f found e = ap (λ x. option_or x (least (problem_faults d p))) (sym e ∙ found ∙ ap (λ x. least (domain_faults_by x d)) is)

  pub first_in_problem : (o q : Option StaticFault) → o ≡ least (domain_faults_by k d) → o ≡ None → q ≡ least (problem_faults_by k p) → q ≡ first_fault d p
  first_in_problem o q found e again =
      again ∙ ap (λ x. least (problem_faults_by x p)) is
      ∙ ap (λ x. option_or x (least (problem_faults d p))) (sym e ∙ found ∙ ap (λ x. least (domain_faults_by x d)) is)

-- of two lists, one behind the other
none_in : (fs gs : List StaticFault) (a b : Option StaticFault) → a ≡ least fs → b ≡ least gs → option_or a b ≡ None → (fs ≡ []) × (gs ≡ [])
none_in fs gs None b first second e = (none_of fs (sym first), none_of gs (sym second ∙ e))
none_in fs gs (Some f) b first second e = absurd (cc)

first_in : (fs gs : List StaticFault) (a b : Option StaticFault) (f : StaticFault) → a ≡ least fs → b ≡ least gs → option_or a b ≡ Some f → IsFirst fs f ⊎ ((fs ≡ []) × IsFirst gs f)
first_in fs gs None b f first second e = inr (none_of fs (sym first), first_of_all gs f (sym second ∙ e))
first_in fs gs (Some g) b f first second e = inl (first_of_all fs f (sym first ∙ e))

pub static_unless : (d : Domain) (p : Problem) → first_fault d p ≡ None → IsStatic d p
static_unless d p e = let both = none_in (domain_faults d p) (problem_faults d p) _ _ refl refl e in record { of_domain = both.0; of_problem = both.1 }

pub none_where_static : (d : Domain) (p : Problem) → IsStatic d p → first_fault d p ≡ None
none_where_static d p static = (λ i. option_or (least (static.of_domain i)) (least (static.of_problem i)))

pub some_is_first : (d : Domain) (p : Problem) (f : StaticFault) → first_fault d p ≡ Some f → IsFirstFault d p f
some_is_first d p f e = first_in (domain_faults d p) (problem_faults d p) _ _ f refl refl e

pub said : (d : Domain) (p : Problem) (o : Option StaticFault) → o ≡ first_fault d p → MatchOption o (IsStatic d p) (λ f. first_fault d p ≡ Some f)
said d p None e = static_unless d p (sym e)
said d p (Some f) e = sym e
