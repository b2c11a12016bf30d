-- The first fault by the table is the one that is reported.
use Rattle.std.proofs.Common.{◌≡◌, ℕ, Bool, true, false, List, [], ◌∷◌, ◌++◌, Option, Some, None, ◌↔◌, refl, sym, ap, ◌∙◌, subst, codes, inl, inr, ◌⊎◌}
use Rattle.std.specs.Prelude.{IfSome, IfOk, IfErr, Result, Ok, Err}
use Rattle.hv_text.specs.Trees.{Tree, Trees, none, more, place_of}
use Rattle.hv_text.specs.declared.span.Span.{Span}
use Rattle.hv_reading.specs.declared.section.Standing.{Standing}
use Rattle.hv_reading.specs.declared.section.Standing.TheVariants as standings
use Rattle.hv_reading.specs.declared.fault.SyntaxKind.{SyntaxKind}
use Rattle.hv_reading.specs.declared.fault.SyntaxKind.TheVariants as kinds
use Rattle.hv_syntax.specs.Values.{WordAt, Literal, Htn, Domain, Problem}
use Rattle.hv_reading.specs.Unsupported.{has_unsupported}
use Rattle.hv_reading.specs.Sections.{headed, occurs}
use Rattle.hv_reading.specs.inside.Sections.{refused, judged, at_place, section_by, section_of, sections_from, sections_of, ◌>>=◌}
use Rattle.hv_syntax.specs.Domains.{no_domain, add_section}
use Rattle.hv_reading.specs.Standings.{domain_standing}
use Rattle.hv_reading.specs.inside.Domains.{domain_section_by, domain_in, domain_of}
use Rattle.hv_syntax.specs.Problems.{Parts, no_parts, add_part}
use Rattle.hv_reading.specs.Standings.{problem_standing}
use Rattle.hv_reading.specs.inside.Problems.{problem_section_by, parts_from, whole_by, whole, problem_in, problem_of}
use Rattle.hv_reading.specs.Tables.{SpellsDomainSection, SpellsProblemSection, MayStand, for_the_first_time, as_often_as_wanted, SpellsSection, SpellSections, SpellsDefine, IsDomain, IsProblem}
use Rattle.hv_reading.specs.FirstFaults.{IsSectionFault, no_head, unknown_head, unsupported_head, a_second_time, unsupported_inside, no_spelling, IsFirstFault, it_is_here, it_comes_later, IsFaultyDomain, no_definition, faulty_section, Lacks, domain_lacks, htn_lacks, init_lacks, IsFaultyProblem, no_definition_of_it, a_faulty_section, a_missing_section}
use Rattle.hv_reading.proofs.TextSpellings.{stands, section_read, section_is, sections_read, sections_are, define_read, domain_section_read, domain_section_spelled, problem_section_read, problem_section_spelled, Defines, define_spelled, domain_if, domain_table, problem_if, problem_table}

-- nothing is spelled where nothing is read, and the other way round
none_read : {A : Type 0} (P : A → Type 0) (o : Option A) → IfSome o P → ((a : A) → P a → ⊥) → o ≡ None
none_read P None h never = refl
none_read P (Some a) h never = absurd (never a h)

some_is_not_none : {A : Type 0} (a : A) (o : Option A) → o ≡ Some a → o ≡ None → ⊥
some_is_not_none a o e f = cc

module _ {S V : Type 0} (standing : List ℕ → Standing) (spelled : List ℕ → Span → Trees → Option S) (Spells : List ℕ → Span → Trees → S → Type 0) (add : V → S → V)
    (read : (w : List ℕ) (s : Span) (ts : Trees) (x : S) → Spells w s ts x → spelled w s ts ≡ Some x) (found : (w : List ℕ) (s : Span) (ts : Trees) → IfSome (spelled w s ts) (Spells w s ts)) where
  fault_read : (before : List Tree) (t : Tree) (kind : SyntaxKind) → IsSectionFault standing Spells before t kind → section_of standing spelled before t ≡ Err (kind, place_of t)
  fault_read before _ _ (no_head t e) = rw e refl
  fault_read before _ _ (unknown_head t w ts e f) = rw (e, f) refl
  fault_read before _ _ (unsupported_head t w ts e f) = rw (e, f) refl
  fault_read before _ _ (a_second_time t w ts e f g) = rw (e, f, g) refl
  fault_read before _ _ (unsupported_inside t w ts e m never odd) =
      rw (e, stands standing spelled Spells add read found before w m, none_read (Spells w (place_of t) ts) (spelled w (place_of t) ts) (found w (place_of t) ts) never, odd) refl
  fault_read before _ _ (no_spelling t w ts e m never odd) =
      rw (e, stands standing spelled Spells add read found before w m, none_read (Spells w (place_of t) ts) (spelled w (place_of t) ts) (found w (place_of t) ts) never, odd) refl

  first_read : (v : V) (before : List Tree) (ts : Trees) (kind : SyntaxKind) (s : Span) → IsFirstFault standing Spells before ts kind s
      → sections_from (section_of standing spelled) add v before ts ≡ Err (kind, s)
  first_read v _ _ _ _ (it_is_here before t ts kind h) =
      ap (λ r. r >>= (λ y. sections_from (section_of standing spelled) add (add v y) (before ++ t ∷ []) ts)) (fault_read before t kind h)
  first_read v _ _ _ _ (it_comes_later before t ts x kind s h k) =
      ap (λ r. r >>= (λ y. sections_from (section_of standing spelled) add (add v y) (before ++ t ∷ []) ts)) (section_read standing spelled Spells add read found before t x h)
      ∙ first_read (add v x) (before ++ t ∷ []) ts kind s k

  abbrev IsFaultAt : List Tree → Tree → SyntaxKind × Span → Type 0
  IsFaultAt before t (kind, s) = IsSectionFault standing Spells before t kind × (s ≡ place_of t)

  inside_is : (before : List Tree) (t : Tree) (w : List ℕ) (ts : Trees) → headed t ≡ Some (w, ts) → MayStand standing before w → (odd : Bool) (o : Option S) → has_unsupported w ts ≡ odd
      → spelled w (place_of t) ts ≡ o → IfErr (at_place (place_of t) (judged None odd o)) (IsFaultAt before t)
  inside_is before t w ts e m true None f g = (unsupported_inside t w ts e m (λ x h. some_is_not_none x _ (read w (place_of t) ts x h) g) f, refl)
  inside_is before t w ts e m false None f g = (no_spelling t w ts e m (λ x h. some_is_not_none x _ (read w (place_of t) ts x h) g) f, refl)
  inside_is before t w ts e m odd (Some x) f g = tt

  head_is : (before : List Tree) (t : Tree) (w : List ℕ) (ts : Trees) → headed t ≡ Some (w, ts) → (k : Standing) (b : Bool) → standing w ≡ k → occurs w before ≡ b
      → IfErr (at_place (place_of t) (judged (refused k b) (has_unsupported w ts) (spelled w (place_of t) ts))) (IsFaultAt before t)
  head_is before t w ts e standings.Unknown b f g = (unknown_head t w ts e f, refl)
  head_is before t w ts e standings.Unsupported b f g = (unsupported_head t w ts e f, refl)
  head_is before t w ts e standings.Once true f g = (a_second_time t w ts e f g, refl)
  head_is before t w ts e standings.Once false f g = inside_is before t w ts e (for_the_first_time f g) (has_unsupported w ts) (spelled w (place_of t) ts) refl refl
  head_is before t w ts e standings.Often b f g = inside_is before t w ts e (as_often_as_wanted f) (has_unsupported w ts) (spelled w (place_of t) ts) refl refl

  fault_by : (before : List Tree) (t : Tree) (o : Option (List ℕ × Trees)) → headed t ≡ o → IfErr (at_place (place_of t) (section_by standing spelled before (place_of t) o)) (IsFaultAt before t)
  fault_by before t None e = (no_head t e, refl)
  fault_by before t (Some (w, ts)) e = head_is before t w ts e (standing w) (occurs w before) refl refl

  fault_is : (before : List Tree) (t : Tree) → IfErr (section_of standing spelled before t) (IsFaultAt before t)
  fault_is before t = fault_by before t (headed t) refl

  abbrev IsFirst : List Tree → Trees → SyntaxKind × Span → Type 0
  IsFirst before ts (kind, s) = IsFirstFault standing Spells before ts kind s

  later : (before : List Tree) (t : Tree) (ts : Trees) (x : S) → SpellsSection standing Spells before t x → (r : Result V (SyntaxKind × Span)) → IfErr r (IsFirst (before ++ t ∷ []) ts)
      → IfErr r (IsFirst before (more t ts))
  later before t ts x h (Ok u) k = tt
  later before t ts x h (Err (kind, s)) k = it_comes_later before t ts x kind s h k

  next_fault : (v : V) (before : List Tree) (t : Tree) (ts : Trees) (r : Result S (SyntaxKind × Span)) → section_of standing spelled before t ≡ r → IfErr r (IsFaultAt before t)
      → ((x : S) → IfErr (sections_from (section_of standing spelled) add (add v x) (before ++ t ∷ []) ts) (IsFirst (before ++ t ∷ []) ts))
      → IfErr (r >>= (λ y. sections_from (section_of standing spelled) add (add v y) (before ++ t ∷ []) ts)) (IsFirst before (more t ts))
  next_fault v before t ts (Err (kind, s)) e h k = subst (λ p. IsFirstFault standing Spells before (more t ts) kind p) (sym h.1) (it_is_here before t ts kind h.0)
  next_fault v before t ts (Ok x) e h k =
      later before t ts x (subst (λ r. IfOk r (SpellsSection standing Spells before t)) e (section_is standing spelled Spells add read found before t))
      (sections_from (section_of standing spelled) add (add v x) (before ++ t ∷ []) ts) (k x)

  first_is : (ts : Trees) (v : V) (before : List Tree) → IfErr (sections_from (section_of standing spelled) add v before ts) (IsFirst before ts)
  first_is none v before = tt
  first_is (more t ts) v before = next_fault v before t ts (section_of standing spelled before t) refl (fault_is before t) (λ x. first_is ts (add v x) (before ++ t ∷ []))

-- around the sections
nothing_defined : (kind : List ℕ) (es : Trees) → ((n : WordAt) (ts : Trees) (s : Span) → SpellsDefine kind es n ts s → ⊥) → sections_of kind es ≡ None
nothing_defined kind es never = none_read (Defines kind es) (sections_of kind es) (define_spelled kind es) (λ d h. never d.0 d.1 d.2 h)

defined_as : (kind : List ℕ) (es : Trees) (o : Option (WordAt × Trees × Span)) → sections_of kind es ≡ o → IfSome o (Defines kind es)
defined_as kind es o e = subst (λ r. IfSome r (Defines kind es)) e (define_spelled kind es)

-- domains
abbrev IsDomainFaultAt : Trees → SyntaxKind × Span → Type 0
IsDomainFaultAt es f = IsFaultyDomain es f.0 f.1

faulty_domain_read : (es : Trees) (kind : SyntaxKind) (s : Span) → IsFaultyDomain es kind s → domain_of es ≡ Err (kind, s)
faulty_domain_read _ _ _ (no_definition es never) = ap domain_in (nothing_defined (codes "domain") es never)
faulty_domain_read _ _ _ (faulty_section es n ts s kind p h k) =
    ap domain_in (define_read (codes "domain") es n ts s h)
    ∙ first_read domain_standing domain_section_by SpellsDomainSection add_section domain_section_read domain_section_spelled (no_domain n) [] ts kind p k

in_domain : (es : Trees) (n : WordAt) (ts : Trees) (s : Span) → SpellsDefine (codes "domain") es n ts s → (r : Result Domain (SyntaxKind × Span))
    → IfErr r (λ f. IsFirstFault domain_standing SpellsDomainSection [] ts f.0 f.1) → IfErr r (IsDomainFaultAt es)
in_domain es n ts s h (Ok d) k = tt
in_domain es n ts s h (Err (kind, p)) k = faulty_section es n ts s kind p h k

domain_faulty : (es : Trees) (o : Option (WordAt × Trees × Span)) → sections_of (codes "domain") es ≡ o → IfErr (domain_in o) (IsDomainFaultAt es)
domain_faulty es None e = no_definition es (λ n ts s h. some_is_not_none (n, ts, s) _ (define_read (codes "domain") es n ts s h) e)
domain_faulty es (Some (n, ts, s)) e =
    in_domain es n ts s (defined_as (codes "domain") es (Some (n, ts, s)) e) (domain_in (Some (n, ts, s)))
    (first_is domain_standing domain_section_by SpellsDomainSection add_section domain_section_read domain_section_spelled ts (no_domain n) [])

pub domain_fault_table : (es : Trees) (kind : SyntaxKind) (s : Span) → IsFaultyDomain es kind s ↔ (domain_of es ≡ Err (kind, s))
domain_fault_table es kind s =
    (faulty_domain_read es kind s, λ e. subst (λ r. IfErr r (IsDomainFaultAt es)) e (domain_faulty es (sections_of (codes "domain") es) refl))

-- problems
abbrev IsProblemFaultAt : Trees → SyntaxKind × Span → Type 0
IsProblemFaultAt es f = IsFaultyProblem es f.0 f.1

lacking : (s : Span) (n : WordAt) (p : Parts) (m : Option WordAt) (h : Option Htn) (ls : Option (List Literal)) → p.domain ≡ m → p.htn ≡ h → p.init ≡ ls → Lacks p
    → whole_by s n p m h ls ≡ Err (kinds.MissingSection, s)
lacking s n p None h ls a b c l = refl
lacking s n p (Some m) None ls a b c l = refl
lacking s n p (Some m) (Some h) None a b c l = refl
lacking s n p (Some m) (Some h) (Some ls) a b c (domain_lacks e) = absurd (some_is_not_none m _ a e)
lacking s n p (Some m) (Some h) (Some ls) a b c (htn_lacks e) = absurd (some_is_not_none h _ b e)
lacking s n p (Some m) (Some h) (Some ls) a b c (init_lacks e) = absurd (some_is_not_none ls _ c e)

faulty_problem_read : (es : Trees) (kind : SyntaxKind) (s : Span) → IsFaultyProblem es kind s → problem_of es ≡ Err (kind, s)
faulty_problem_read _ _ _ (no_definition_of_it es never) = ap problem_in (nothing_defined (codes "problem") es never)
faulty_problem_read _ _ _ (a_faulty_section es n ts s kind p h k) =
    let parts : parts_from no_parts [] ts ≡ Err (kind, p) =
    first_read problem_standing problem_section_by SpellsProblemSection add_part problem_section_read problem_section_spelled no_parts [] ts kind p k in
    ap problem_in (define_read (codes "problem") es n ts s h) ∙ ap (λ r. r >>= whole s n) parts
faulty_problem_read _ _ _ (a_missing_section es n ts s p h k l) =
    let parts : parts_from no_parts [] ts ≡ Ok p =
    sections_read problem_standing problem_section_by SpellsProblemSection add_part problem_section_read problem_section_spelled no_parts [] ts p k in
    ap problem_in (define_read (codes "problem") es n ts s h) ∙ ap (λ r. r >>= whole s n) parts ∙ lacking s n p p.domain p.htn p.init refl refl refl l

whole_lacks : (es : Trees) (n : WordAt) (ts : Trees) (s : Span) (p : Parts) (m : Option WordAt) (h : Option Htn) (ls : Option (List Literal)) → p.domain ≡ m → p.htn ≡ h → p.init ≡ ls
    → SpellsDefine (codes "problem") es n ts s → SpellSections problem_standing SpellsProblemSection add_part no_parts [] ts p → IfErr (whole_by s n p m h ls) (IsProblemFaultAt es)
whole_lacks es n ts s p None h ls a b c d k = a_missing_section es n ts s p d k (domain_lacks a)
whole_lacks es n ts s p (Some m) None ls a b c d k = a_missing_section es n ts s p d k (htn_lacks b)
whole_lacks es n ts s p (Some m) (Some h) None a b c d k = a_missing_section es n ts s p d k (init_lacks c)
whole_lacks es n ts s p (Some m) (Some h) (Some ls) a b c d k = tt

in_problem : (es : Trees) (n : WordAt) (ts : Trees) (s : Span) → SpellsDefine (codes "problem") es n ts s → (r : Result Parts (SyntaxKind × Span))
    → IfErr r (λ f. IsFirstFault problem_standing SpellsProblemSection [] ts f.0 f.1) → IfOk r (SpellSections problem_standing SpellsProblemSection add_part no_parts [] ts)
    → IfErr (r >>= whole s n) (IsProblemFaultAt es)
in_problem es n ts s h (Err (kind, p)) k l = a_faulty_section es n ts s kind p h k
in_problem es n ts s h (Ok p) k l = whole_lacks es n ts s p p.domain p.htn p.init refl refl refl h l

problem_faulty : (es : Trees) (o : Option (WordAt × Trees × Span)) → sections_of (codes "problem") es ≡ o → IfErr (problem_in o) (IsProblemFaultAt es)
problem_faulty es None e = no_definition_of_it es (λ n ts s h. some_is_not_none (n, ts, s) _ (define_read (codes "problem") es n ts s h) e)
problem_faulty es (Some (n, ts, s)) e =
    in_problem es n ts s (defined_as (codes "problem") es (Some (n, ts, s)) e) (parts_from no_parts [] ts)
    (first_is problem_standing problem_section_by SpellsProblemSection add_part problem_section_read problem_section_spelled ts no_parts [])
    (sections_are problem_standing problem_section_by SpellsProblemSection add_part problem_section_read problem_section_spelled ts no_parts [])

pub problem_fault_table : (es : Trees) (kind : SyntaxKind) (s : Span) → IsFaultyProblem es kind s ↔ (problem_of es ≡ Err (kind, s))
problem_fault_table es kind s =
    (faulty_problem_read es kind s, λ e. subst (λ r. IfErr r (IsProblemFaultAt es)) e (problem_faulty es (sections_of (codes "problem") es) refl))

-- a value or a fault, and only one of them
either_is : {A E : Type 0} (P : A → Type 0) (Q : E → Type 0) (r : Result A E) → IfOk r P → IfErr r Q → ((a : A) × P a) ⊎ ((e : E) × Q e)
either_is P Q (Ok a) h k = inl (a, h)
either_is P Q (Err e) h k = inr (e, k)

ok_is_no_fault : {A E : Type 0} (a : A) (e : E) (r : Result A E) → r ≡ Ok a → r ≡ Err e → ⊥
ok_is_no_fault a e r h k = cc

one_error : {A : Type 0} (k l : SyntaxKind) (s p : Span) → ◌≡◌ {A = Result A (SyntaxKind × Span)} (Err (k, s)) (Err (l, p)) → (k ≡ l) × (s ≡ p)
one_error k l s p e =
    let both : ◌≡◌ {A = SyntaxKind × Span} (k, s) (l, p) = cc in
    (ap (λ z. z.0) both, ap (λ z. z.1) both)

pub domain_or_fault : (es : Trees) → ((d : Domain) × IsDomain es d) ⊎ ((f : SyntaxKind × Span) × IsFaultyDomain es f.0 f.1)
domain_or_fault es = either_is (IsDomain es) (λ f. IsFaultyDomain es f.0 f.1) (domain_of es) (domain_if es) (domain_faulty es (sections_of (codes "domain") es) refl)

pub no_domain_at_fault : (es : Trees) (d : Domain) (kind : SyntaxKind) (s : Span) → IsDomain es d → IsFaultyDomain es kind s → ⊥
no_domain_at_fault es d kind s h k = ok_is_no_fault d (kind, s) (domain_of es) ((domain_table es d).0 h) (faulty_domain_read es kind s k)

pub one_domain_fault : (es : Trees) (k l : SyntaxKind) (s p : Span) → IsFaultyDomain es k s → IsFaultyDomain es l p → (k ≡ l) × (s ≡ p)
one_domain_fault es k l s p h g = one_error k l s p (sym (faulty_domain_read es k s h) ∙ faulty_domain_read es l p g)

pub problem_or_fault : (es : Trees) → ((p : Problem) × IsProblem es p) ⊎ ((f : SyntaxKind × Span) × IsFaultyProblem es f.0 f.1)
problem_or_fault es = either_is (IsProblem es) (λ f. IsFaultyProblem es f.0 f.1) (problem_of es) (problem_if es) (problem_faulty es (sections_of (codes "problem") es) refl)

pub no_problem_at_fault : (es : Trees) (p : Problem) (kind : SyntaxKind) (s : Span) → IsProblem es p → IsFaultyProblem es kind s → ⊥
no_problem_at_fault es p kind s h k = ok_is_no_fault p (kind, s) (problem_of es) ((problem_table es p).0 h) (faulty_problem_read es kind s k)

pub one_problem_fault : (es : Trees) (k l : SyntaxKind) (s p : Span) → IsFaultyProblem es k s → IsFaultyProblem es l p → (k ≡ l) × (s ≡ p)
one_problem_fault es k l s p h g = one_error k l s p (sym (faulty_problem_read es k s h) ∙ faulty_problem_read es l p g)
