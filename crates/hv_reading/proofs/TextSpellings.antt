-- What the table spells of sections and whole texts is what is read.
use Rattle.std.proofs.Common.{◌≡◌, ℕ, Bool, true, false, List, [], ◌∷◌, ◌++◌, Option, Some, None, ◌↔◌, option_map, refl, sym, ap, ◌∙◌, subst, codes, if◌then◌else◌}
use Rattle.std.specs.Prelude.{IfSome, IfOk, Result, Ok, Err}
use Rattle.hv_text.specs.Trees.{Tree, word, list, Trees, none, more}
use Rattle.hv_text.specs.declared.span.Span.{Span}
use Rattle.hv_reading.specs.declared.word.Sort.TheVariants as sorts
use Rattle.hv_reading.specs.declared.section.Standing.{Standing}
use Rattle.hv_reading.specs.declared.section.Standing.TheVariants as standings
use Rattle.hv_reading.specs.declared.fault.SyntaxKind.{SyntaxKind}
use Rattle.hv_reading.specs.Words.{is}
use Rattle.hv_reading.specs.inside.Words.{sorted_word_of}
use Rattle.hv_reading.specs.inside.Reading.{every}
use Rattle.hv_syntax.specs.Values.{WordAt, Literal, Htn, Domain, Problem}
use Rattle.hv_reading.specs.inside.TypedLists.{typed_list_of}
use Rattle.hv_reading.specs.inside.Formulas.{formula_of}
use Rattle.hv_reading.specs.inside.Literals.{ground_literal_of}
use Rattle.hv_reading.specs.inside.Declarations.{predicate_of, task_of, method_of, action_of}
use Rattle.hv_reading.specs.Unsupported.{has_unsupported}
use Rattle.hv_reading.specs.Sections.{occurs}
use Rattle.hv_reading.specs.inside.Sections.{refused, judged, at_place, section_of, sections_from, ◌>>=◌, keyword_of, one_name, title_of, defined_with, sections_of}
use Rattle.hv_syntax.specs.Domains.{DomainSection, has_requirements, has_types, has_constants, has_predicates, has_task, has_method, has_action, no_domain, add_section}
use Rattle.hv_reading.specs.Standings.{domain_standing}
use Rattle.hv_reading.specs.inside.Domains.{domain_section_by, domain_in, domain_of}
use Rattle.hv_syntax.specs.Problems as problems
use Rattle.hv_syntax.specs.Problems.{ProblemSection, is_for, has_objects, has_htn, has_init, has_goal, Parts, no_parts, add_part}
use Rattle.hv_reading.specs.Standings.{problem_standing}
use Rattle.hv_reading.specs.inside.Problems.{problem_section_by, htn_of, goal_of, parts_from, whole_by, whole, problem_in, problem_of}
use Rattle.hv_reading.specs.Spellings.{SpellsWord, SpellEach, SpellsTyped, SpellsFormula, SpellsGround}
use Rattle.hv_text.specs.Sexps.{AreExpressions}
use Rattle.hv_reading.specs.Texts.{IsSpelledBy}
use Rattle.hv_reading.specs.Tables as tables
use Rattle.hv_reading.specs.Tables.{SpellsPredicate, SpellsTask, SpellsMethod, SpellsAction, SpellsHtn, SpellsDomainSection, SpellsProblemSection, MayStand, for_the_first_time, as_often_as_wanted, SpellsSection, a_section, SpellSections, no_sections, more_sections, SpellsDefine, a_definition, IsDomain, a_domain, IsProblem, a_problem}
use Rattle.hv_reading.proofs.SpellingLemmas.{same_word, if_map, word_read, word_spelled, each_read, each_spelled, typed_list_read, typed_list_spelled, formula_is_read, formula_is_spelled}
use Rattle.hv_reading.proofs.PartSpellings.{ground_read, ground_spelled}
use Rattle.hv_reading.proofs.TableLemmas.{if_tested, predicates_read, predicates_spelled, task_read, task_spelled, method_read, method_spelled, action_read, action_spelled, htn_read, htn_spelled}

-- the contents behind each keyword of a domain
keywords_read : (ts : Trees) (ws : List WordAt) → SpellEach (SpellsWord sorts.Keyword) ts ws → every keyword_of ts ≡ Some ws
keywords_read = each_read keyword_of (SpellsWord sorts.Keyword) (word_read sorts.Keyword) (word_spelled sorts.Keyword)

keywords_spelled : (ts : Trees) → IfSome (every keyword_of ts) (SpellEach (SpellsWord sorts.Keyword) ts)
keywords_spelled = each_spelled keyword_of (SpellsWord sorts.Keyword) (word_read sorts.Keyword) (word_spelled sorts.Keyword)

grounds_read : (ts : Trees) (ls : List Literal) → SpellEach SpellsGround ts ls → every ground_literal_of ts ≡ Some ls
grounds_read = each_read ground_literal_of SpellsGround ground_read ground_spelled

grounds_spelled : (ts : Trees) → IfSome (every ground_literal_of ts) (SpellEach SpellsGround ts)
grounds_spelled = each_spelled ground_literal_of SpellsGround ground_read ground_spelled

pub domain_section_read : (w : List ℕ) (s : Span) (ts : Trees) (x : DomainSection) → SpellsDomainSection w s ts x → domain_section_by w s ts ≡ Some x
domain_section_read _ _ _ _ (tables.requirements s ts ws h) = ap (option_map has_requirements) (keywords_read ts ws h)
domain_section_read _ _ _ _ (tables.types s ts xs h) = ap (option_map has_types) (typed_list_read ts xs h)
domain_section_read _ _ _ _ (tables.constants s ts xs h) = ap (option_map has_constants) (typed_list_read ts xs h)
domain_section_read _ _ _ _ (tables.predicates s ts ps h) = ap (option_map has_predicates) (predicates_read ts ps h)
domain_section_read _ _ _ _ (tables.task_section s ts x h) = ap (option_map has_task) (task_read s ts x h)
domain_section_read _ _ _ _ (tables.method_section s ts x h) = ap (option_map has_method) (method_read s ts x h)
domain_section_read _ _ _ _ (tables.action_section s ts x h) = ap (option_map has_action) (action_read s ts x h)

-- one keyword after another
headed_so : {S : Type 0} (Spells : List ℕ → S → Type 0) (w v : List ℕ) (o r : Option S) (b : Bool) → is w v ≡ b → IfSome o (Spells v) → IfSome r (Spells w)
    → IfSome (if b then o else r) (Spells w)
headed_so Spells w v o r true e h k = subst (λ u. IfSome o (Spells u)) (sym (same_word w v e)) h
headed_so Spells w v o r false e h k = k

pub domain_section_spelled : (w : List ℕ) (s : Span) (ts : Trees) → IfSome (domain_section_by w s ts) (SpellsDomainSection w s ts)
domain_section_spelled w s ts =
    let Spells : List ℕ → DomainSection → Type 0 = λ v x. SpellsDomainSection v s ts x in
    headed_so Spells w (codes ":requirements") _ _ (is w (codes ":requirements")) refl
    (if_map has_requirements (SpellEach (SpellsWord sorts.Keyword) ts) (Spells (codes ":requirements")) (λ ws h. tables.requirements s ts ws h) (every keyword_of ts) (keywords_spelled ts))
    (headed_so Spells w (codes ":types") _ _ (is w (codes ":types")) refl
    (if_map has_types (SpellsTyped ts) (Spells (codes ":types")) (λ xs h. tables.types s ts xs h) (typed_list_of ts) (typed_list_spelled ts))
    (headed_so Spells w (codes ":constants") _ _ (is w (codes ":constants")) refl
    (if_map has_constants (SpellsTyped ts) (Spells (codes ":constants")) (λ xs h. tables.constants s ts xs h) (typed_list_of ts) (typed_list_spelled ts))
    (headed_so Spells w (codes ":predicates") _ _ (is w (codes ":predicates")) refl
    (if_map has_predicates (SpellEach SpellsPredicate ts) (Spells (codes ":predicates")) (λ ps h. tables.predicates s ts ps h) (every predicate_of ts) (predicates_spelled ts))
    (headed_so Spells w (codes ":task") _ _ (is w (codes ":task")) refl
    (if_map has_task (SpellsTask s ts) (Spells (codes ":task")) (λ x h. tables.task_section s ts x h) (task_of s ts) (task_spelled s ts))
    (headed_so Spells w (codes ":method") _ _ (is w (codes ":method")) refl
    (if_map has_method (SpellsMethod s ts) (Spells (codes ":method")) (λ x h. tables.method_section s ts x h) (method_of s ts) (method_spelled s ts))
    (headed_so Spells w (codes ":action") _ _ (is w (codes ":action")) refl
    (if_map has_action (SpellsAction s ts) (Spells (codes ":action")) (λ x h. tables.action_section s ts x h) (action_of s ts) (action_spelled s ts))
    tt))))))

-- and of a problem
pub problem_section_read : (w : List ℕ) (s : Span) (ts : Trees) (x : ProblemSection) → SpellsProblemSection w s ts x → problem_section_by w s ts ≡ Some x
problem_section_read _ _ _ _ (tables.domain_name s t w h) = ap (option_map is_for) (word_read sorts.Name t w h)
problem_section_read _ _ _ _ (tables.problem_requirements s ts ws h) = ap (option_map problems.has_requirements) (keywords_read ts ws h)
problem_section_read _ _ _ _ (tables.objects s ts xs h) = ap (option_map has_objects) (typed_list_read ts xs h)
problem_section_read _ _ _ _ (tables.htn_section s ts x h) = ap (option_map has_htn) (htn_read s ts x h)
problem_section_read _ _ _ _ (tables.init s ts ls h) = ap (option_map has_init) (grounds_read ts ls h)
problem_section_read _ _ _ _ (tables.goal s t f h) = ap (option_map has_goal) (formula_is_read t f h)

name_spelled : (s : Span) (ts : Trees) → IfSome (option_map is_for (one_name ts)) (SpellsProblemSection (codes ":domain") s ts)
name_spelled s none = tt
name_spelled s (more t none) =
    if_map is_for (SpellsWord sorts.Name t) (SpellsProblemSection (codes ":domain") s (more t none)) (λ w h. tables.domain_name s t w h) (sorted_word_of sorts.Name t) (word_spelled sorts.Name t)
name_spelled s (more t (more u ts)) = tt

goal_spelled : (s : Span) (ts : Trees) → IfSome (option_map has_goal (goal_of ts)) (SpellsProblemSection (codes ":goal") s ts)
goal_spelled s none = tt
goal_spelled s (more t none) =
    if_map has_goal (SpellsFormula t) (SpellsProblemSection (codes ":goal") s (more t none)) (λ f h. tables.goal s t f h) (formula_of t) (formula_is_spelled t)
goal_spelled s (more t (more u ts)) = tt

pub problem_section_spelled : (w : List ℕ) (s : Span) (ts : Trees) → IfSome (problem_section_by w s ts) (SpellsProblemSection w s ts)
problem_section_spelled w s ts =
    let Spells : List ℕ → ProblemSection → Type 0 = λ v x. SpellsProblemSection v s ts x in
    headed_so Spells w (codes ":domain") _ _ (is w (codes ":domain")) refl (name_spelled s ts)
    (headed_so Spells w (codes ":requirements") _ _ (is w (codes ":requirements")) refl
    (if_map problems.has_requirements (SpellEach (SpellsWord sorts.Keyword) ts) (Spells (codes ":requirements")) (λ ws h. tables.problem_requirements s ts ws h) (every keyword_of ts) (keywords_spelled ts))
    (headed_so Spells w (codes ":objects") _ _ (is w (codes ":objects")) refl
    (if_map has_objects (SpellsTyped ts) (Spells (codes ":objects")) (λ xs h. tables.objects s ts xs h) (typed_list_of ts) (typed_list_spelled ts))
    (headed_so Spells w (codes ":htn") _ _ (is w (codes ":htn")) refl
    (if_map has_htn (SpellsHtn s ts) (Spells (codes ":htn")) (λ x h. tables.htn_section s ts x h) (htn_of s ts) (htn_spelled s ts))
    (headed_so Spells w (codes ":init") _ _ (is w (codes ":init")) refl
    (if_map has_init (SpellEach SpellsGround ts) (Spells (codes ":init")) (λ ls h. tables.init s ts ls h) (every ground_literal_of ts) (grounds_spelled ts))
    (headed_so Spells w (codes ":goal") _ _ (is w (codes ":goal")) refl (goal_spelled s ts)
    tt)))))

-- sections one after another
if_ok : {A E : Type 0} (P Q : A → Type 0) → ((a : A) → P a → Q a) → (r : Result A E) → IfOk r P → IfOk r Q
if_ok P Q h (Ok a) p = h a p
if_ok P Q h (Err e) p = tt

module _ {S V : Type 0} (standing : List ℕ → Standing) (spelled : List ℕ → Span → Trees → Option S) (Spells : List ℕ → Span → Trees → S → Type 0) (add : V → S → V)
    (read : (w : List ℕ) (s : Span) (ts : Trees) (x : S) → Spells w s ts x → spelled w s ts ≡ Some x) (found : (w : List ℕ) (s : Span) (ts : Trees) → IfSome (spelled w s ts) (Spells w s ts)) where
  pub stands : (before : List Tree) (w : List ℕ) → MayStand standing before w → refused (standing w) (occurs w before) ≡ None
  stands before w (for_the_first_time e f) = rw (e, f) refl
  stands before w (as_often_as_wanted e) = rw e refl

  may_stand : (before : List Tree) (w : List ℕ) (k : Standing) (b : Bool) → standing w ≡ k → occurs w before ≡ b → refused k b ≡ None → MayStand standing before w
  may_stand before w standings.Once true e f h = cc
  may_stand before w standings.Once false e f h = for_the_first_time e f
  may_stand before w standings.Often b e f h = as_often_as_wanted e
  may_stand before w standings.Unsupported b e f h = cc
  may_stand before w standings.Unknown b e f h = cc

  pub section_read : (before : List Tree) (t : Tree) (x : S) → SpellsSection standing Spells before t x → section_of standing spelled before t ≡ Ok x
  section_read before _ _ (a_section w p s ts x m h) = rw (stands before w m, read w s ts x h) refl

  judged_is : (before : List Tree) (w : List ℕ) (p s : Span) (ts : Trees) (o : Option SyntaxKind) (odd : Bool) (r : Option S) → (o ≡ None → MayStand standing before w) → IfSome r (Spells w s ts)
      → IfOk (at_place s (judged o odd r)) (SpellsSection standing Spells before (list (more (word w p) ts) s))
  judged_is before w p s ts (Some k) odd r m h = tt
  judged_is before w p s ts None odd None m h = tt
  judged_is before w p s ts None odd (Some x) m h = a_section w p s ts x (m refl) h

  pub section_is : (before : List Tree) (t : Tree) → IfOk (section_of standing spelled before t) (SpellsSection standing Spells before t)
  section_is before (word w s) = tt
  section_is before (list none s) = tt
  section_is before (list (more (list us p) ts) s) = tt
  section_is before (list (more (word w p) ts) s) =
      judged_is before w p s ts (refused (standing w) (occurs w before)) (has_unsupported w ts) (spelled w s ts) (λ e. may_stand before w (standing w) (occurs w before) refl refl e) (found w s ts)

  pub sections_read : (v : V) (before : List Tree) (ts : Trees) (u : V) → SpellSections standing Spells add v before ts u → sections_from (section_of standing spelled) add v before ts ≡ Ok u
  sections_read _ _ _ _ (no_sections v before) = refl
  sections_read _ _ _ _ (more_sections v u before t ts x h k) =
      ap (λ r. r >>= (λ y. sections_from (section_of standing spelled) add (add v y) (before ++ t ∷ []) ts)) (section_read before t x h) ∙ sections_read (add v x) (before ++ t ∷ []) ts u k

  next_is : (v : V) (before : List Tree) (t : Tree) (ts : Trees) (r : Result S (SyntaxKind × Span)) → IfOk r (SpellsSection standing Spells before t)
      → ((x : S) → IfOk (sections_from (section_of standing spelled) add (add v x) (before ++ t ∷ []) ts) (SpellSections standing Spells add (add v x) (before ++ t ∷ []) ts))
      → IfOk (r >>= (λ y. sections_from (section_of standing spelled) add (add v y) (before ++ t ∷ []) ts)) (SpellSections standing Spells add v before (more t ts))
  next_is v before t ts (Err e) h k = tt
  next_is v before t ts (Ok x) h k =
      if_ok (SpellSections standing Spells add (add v x) (before ++ t ∷ []) ts) (SpellSections standing Spells add v before (more t ts)) (λ u l. more_sections v u before t ts x h l)
      (sections_from (section_of standing spelled) add (add v x) (before ++ t ∷ []) ts) (k x)

  pub sections_are : (ts : Trees) (v : V) (before : List Tree) → IfOk (sections_from (section_of standing spelled) add v before ts) (SpellSections standing Spells add v before ts)
  sections_are none v before = no_sections v before
  sections_are (more t ts) v before =
      next_is v before t ts (section_of standing spelled before t) (section_is before t) (λ x. sections_are ts (add v x) (before ++ t ∷ []))

-- what stands around them
pub define_read : (kind : List ℕ) (es : Trees) (n : WordAt) (ts : Trees) (s : Span) → SpellsDefine kind es n ts s → sections_of kind es ≡ Some (n, ts, s)
define_read kind _ _ _ _ (a_definition d p k q t n r ts s e f h) = rw (e, f, word_read sorts.Name t n h) refl

abbrev pub Defines : List ℕ → Trees → WordAt × Trees × Span → Type 0
Defines kind es (n, ts, s) = SpellsDefine kind es n ts s

title_spelled : (kind : List ℕ) (d : List ℕ) (p : Span) (t : Tree) (ts : Trees) (s : Span) → is d (codes "define") ≡ true
    → IfSome (option_map (defined_with ts s) (title_of kind t)) (Defines kind (more (list (more (word d p) (more t ts)) s) none))
title_spelled kind d p (word w q) ts s e = tt
title_spelled kind d p (list none r) ts s e = tt
title_spelled kind d p (list (more (list us q) vs) r) ts s e = tt
title_spelled kind d p (list (more (word k q) none) r) ts s e = named (is k kind)
  where
    named : (b : Bool) → IfSome (option_map (defined_with ts s) (if b then None else None)) (Defines kind (more (list (more (word d p) (more (list (more (word k q) none) r) ts)) s) none))
    named true = tt
    named false = tt
title_spelled kind d p (list (more (word k q) (more t none)) r) ts s e = named (is k kind) refl
  where
    named : (b : Bool) → is k kind ≡ b
        → IfSome (option_map (defined_with ts s) (if b then sorted_word_of sorts.Name t else None)) (Defines kind (more (list (more (word d p) (more (list (more (word k q) (more t none)) r) ts)) s) none))
    named true f =
        if_map (defined_with ts s) (SpellsWord sorts.Name t) (Defines kind (more (list (more (word d p) (more (list (more (word k q) (more t none)) r) ts)) s) none))
        (λ n h. a_definition d p k q t n r ts s e f h) (sorted_word_of sorts.Name t) (word_spelled sorts.Name t)
    named false f = tt
title_spelled kind d p (list (more (word k q) (more t (more u us))) r) ts s e = named (is k kind)
  where
    named : (b : Bool) → IfSome (option_map (defined_with ts s) (if b then None else None)) (Defines kind (more (list (more (word d p) (more (list (more (word k q) (more t (more u us))) r) ts)) s) none))
    named true = tt
    named false = tt

pub define_spelled : (kind : List ℕ) (es : Trees) → IfSome (sections_of kind es) (Defines kind es)
define_spelled kind none = tt
define_spelled kind (more t (more u ts)) = tt
define_spelled kind (more (word w s) none) = tt
define_spelled kind (more (list none s) none) = tt
define_spelled kind (more (list (more d none) s) none) = tt
define_spelled kind (more (list (more (list us p) (more t ts)) s) none) = tt
define_spelled kind (more (list (more (word d p) (more t ts)) s) none) =
    if_tested (Defines kind (more (list (more (word d p) (more t ts)) s) none)) (option_map (defined_with ts s) (title_of kind t)) (is d (codes "define")) (λ e. title_spelled kind d p t ts s e)

-- whole domains
domain_read : (es : Trees) (d : Domain) → IsDomain es d → domain_of es ≡ Ok d
domain_read _ _ (a_domain es n ts s d h k) =
    ap domain_in (define_read (codes "domain") es n ts s h)
    ∙ sections_read domain_standing domain_section_by SpellsDomainSection add_section domain_section_read domain_section_spelled (no_domain n) [] ts d k

domain_in_spelled : (es : Trees) (o : Option (WordAt × Trees × Span)) → IfSome o (Defines (codes "domain") es) → IfOk (domain_in o) (IsDomain es)
domain_in_spelled es None h = tt
domain_in_spelled es (Some (n, ts, s)) h =
    if_ok (SpellSections domain_standing SpellsDomainSection add_section (no_domain n) [] ts) (IsDomain es) (λ d k. a_domain es n ts s d h k)
    (domain_in (Some (n, ts, s))) (sections_are domain_standing domain_section_by SpellsDomainSection add_section domain_section_read domain_section_spelled ts (no_domain n) [])

pub domain_if : (es : Trees) → IfOk (domain_of es) (IsDomain es)
domain_if es = domain_in_spelled es (sections_of (codes "domain") es) (define_spelled (codes "domain") es)

pub domain_table : (es : Trees) (d : Domain) → IsDomain es d ↔ (domain_of es ≡ Ok d)
domain_table es d =
    (domain_read es d, λ e. subst (λ r. IfOk r (IsDomain es)) e (domain_if es))

-- whole problems
problem_read : (es : Trees) (p : Problem) → IsProblem es p → problem_of es ≡ Ok p
problem_read _ _ (a_problem es n ts s p m h ls d k e f g) =
    let parts : parts_from no_parts [] ts ≡ Ok p =
    sections_read problem_standing problem_section_by SpellsProblemSection add_part problem_section_read problem_section_spelled no_parts [] ts p k in
    let all : whole s n p ≡ Ok (record { name = n; domain = m; requirements = p.requirements; objects = p.objects; htn = h; init = ls; goal = p.goal }) = rw (e, f, g) refl in
    ap problem_in (define_read (codes "problem") es n ts s d) ∙ ap (λ r. r >>= whole s n) parts ∙ all

whole_spelled : (es : Trees) (n : WordAt) (ts : Trees) (s : Span) (p : Parts) (m : Option WordAt) (h : Option Htn) (ls : Option (List Literal)) → p.domain ≡ m → p.htn ≡ h → p.init ≡ ls
    → SpellsDefine (codes "problem") es n ts s → SpellSections problem_standing SpellsProblemSection add_part no_parts [] ts p → IfOk (whole_by s n p m h ls) (IsProblem es)
whole_spelled es n ts s p None h ls a b c d k = tt
whole_spelled es n ts s p (Some m) None ls a b c d k = tt
whole_spelled es n ts s p (Some m) (Some h) None a b c d k = tt
whole_spelled es n ts s p (Some m) (Some h) (Some ls) a b c d k = a_problem es n ts s p m h ls d k a b c

parts_spelled : (es : Trees) (n : WordAt) (ts : Trees) (s : Span) → SpellsDefine (codes "problem") es n ts s → (r : Result Parts (SyntaxKind × Span))
    → IfOk r (SpellSections problem_standing SpellsProblemSection add_part no_parts [] ts) → IfOk (r >>= whole s n) (IsProblem es)
parts_spelled es n ts s d (Err e) h = tt
parts_spelled es n ts s d (Ok p) h = whole_spelled es n ts s p p.domain p.htn p.init refl refl refl d h

problem_in_spelled : (es : Trees) (o : Option (WordAt × Trees × Span)) → IfSome o (Defines (codes "problem") es) → IfOk (problem_in o) (IsProblem es)
problem_in_spelled es None h = tt
problem_in_spelled es (Some (n, ts, s)) h =
    parts_spelled es n ts s h (parts_from no_parts [] ts)
    (sections_are problem_standing problem_section_by SpellsProblemSection add_part problem_section_read problem_section_spelled ts no_parts [])

pub problem_if : (es : Trees) → IfOk (problem_of es) (IsProblem es)
problem_if es = problem_in_spelled es (sections_of (codes "problem") es) (define_spelled (codes "problem") es)

pub problem_table : (es : Trees) (p : Problem) → IsProblem es p ↔ (problem_of es ≡ Ok p)
problem_table es p =
    (problem_read es p, λ e. subst (λ r. IfOk r (IsProblem es)) e (problem_if es))

-- one value
same_value : {A E : Type 0} (a b : A) → ◌≡◌ {A = Result A E} (Ok a) (Ok b) → a ≡ b
same_value a b e = cc

pub one_domain : (es : Trees) (d e : Domain) → IsDomain es d → IsDomain es e → d ≡ e
one_domain es d e h k = same_value d e (sym (domain_read es d h) ∙ domain_read es e k)

pub one_problem : (es : Trees) (p q : Problem) → IsProblem es p → IsProblem es q → p ≡ q
one_problem es p q h k = same_value p q (sym (problem_read es p h) ∙ problem_read es q k)

-- of a text, where it has one reading as expressions
module _ {V : Type 0} (Spells : Trees → V → Type 0) (single : (es : Trees) (a b : V) → Spells es a → Spells es b → a ≡ b) (text : List ℕ)
    (one : (ts us : Trees) → AreExpressions text ts → AreExpressions text us → ts ≡ us) where
  pub one_text : (a b : V) → IsSpelledBy Spells text a → IsSpelledBy Spells text b → a ≡ b
  one_text a b (ts, are, e) (us, be, f) = single ts a b e (subst (λ es. Spells es b) (one us ts be are) f)
