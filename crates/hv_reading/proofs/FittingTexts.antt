-- The same of domains and problems.
use Rattle.std.proofs.Common.{ℕ, suc, List, [], ◌∷◌, ◌++◌, Option, Some, None, refl, subst, codes}
use Rattle.std.specs.Prelude.{IfSome}
use Rattle.hv_text.specs.Trees.{Tree, Trees, none, more, trees_of}
use Rattle.hv_text.specs.declared.span.Span.{Span}
use Rattle.hv_reading.specs.declared.section.Standing.{Standing}
use Rattle.hv_reading.specs.declared.word.Sort.TheVariants as sorts
use Rattle.hv_syntax.specs.Values.{WordAt, Formula, Domain, Problem}
use Rattle.hv_syntax.specs.Domains as domains
use Rattle.hv_syntax.specs.Domains.{DomainSection, has_types, has_constants, has_predicates, has_task, has_method, has_action, no_domain, add_section}
use Rattle.hv_reading.specs.Standings.{domain_standing}
use Rattle.hv_syntax.specs.Problems as problems
use Rattle.hv_syntax.specs.Problems.{ProblemSection, is_for, has_objects, has_htn, has_init, has_goal, no_parts, add_part}
use Rattle.hv_reading.specs.Standings.{problem_standing}
use Rattle.hv_reading.specs.Spellings.{SpellsWord, SpellsGround}
use Rattle.hv_reading.specs.Tables as tables
use Rattle.hv_reading.specs.Tables.{SpellsPredicate, SpellsDomainSection, SpellsProblemSection, SpellsSection, a_section, SpellSections, no_sections, more_sections, SpellsDefine, a_definition, IsDomain, a_domain, IsProblem, a_problem}
use Rattle.hv_reading.specs.Canonical.{form, each, word_expression, typed_members, formula_expression, literal_expression}
use Rattle.hv_reading.specs.CanonicalSections.{predicate_expression, task_section, method_section, action_section, unless_empty, section_of_each, domain_sections, htn_section, goal_section, problem_sections, definition, domain_expression, problem_expression}
use Rattle.hv_reading.proofs.Parts.{Each, OfDomain, section_added, OfParts, part_added}
use Rattle.hv_reading.proofs.Fitting.{Fits, AllFit, is_tidy, are_tidy, IsTidyText, word_tidy, each_fits, each_fit, typed_fits, formula_fits}
use Rattle.hv_reading.proofs.FittingSections.{ground_fits, predicate_fits, task_fits, method_fits, action_fits, htn_fits}

-- what holds of all sections, and is kept when one is added, holds of the whole
module _ {S V : Type 0} (standing : List ℕ → Standing) (Spells : List ℕ → Span → Trees → S → Type 0) (add : V → S → V) (P : S → Type 0) (Q : V → Type 0) (n : ℕ)
    (good : (w : List ℕ) (s : Span) (ts : Trees) (x : S) → Spells w s ts x → AllFit ts n → P x) (kept : (v : V) (x : S) → Q v → P x → Q (add v x)) where
  section_good : (before : List Tree) (t : Tree) (x : S) → SpellsSection standing Spells before t x → Fits t (suc n) → P x
  section_good before _ _ (a_section w p s ts x m k) h = good w s ts x k h.1

  sections_good : (v : V) (before : List Tree) (ts : Trees) (u : V) → SpellSections standing Spells add v before ts u → AllFit ts (suc n) → Q v → Q u
  sections_good _ _ _ _ (no_sections v before) h q = q
  sections_good _ _ _ _ (more_sections v u before t ts x k l) h q = sections_good (add v x) (before ++ t ∷ []) ts u l h.1 (kept v x q (section_good before t x k h.0))

-- the name and the sections of a definition
define_fits : (kind : List ℕ) (es : Trees) (w : WordAt) (ts : Trees) (s : Span) → SpellsDefine kind es w ts s → (n : ℕ) → AllFit es (suc (suc n)) → IsTidyText w.text × AllFit ts (suc n)
define_fits kind _ _ _ _ (a_definition d p k q t w r ts s e f v) n h = (word_tidy sorts.Name t w v (is_tidy t n h.0.1.0.1.0), h.0.1.1)

-- sections one after another
both_fit : (xs ys : List Tree) (n : ℕ) → AllFit (trees_of xs) n → AllFit (trees_of ys) n → AllFit (trees_of (xs ++ ys)) n
both_fit [] ys n h k = k
both_fit (x ∷ xs) ys n h k = (h.0, both_fit xs ys n h.1 k)

unless_empty_fits : (k : List ℕ) (ts : Trees) (n : ℕ) → IsTidyText k → AllFit ts n → AllFit (trees_of (unless_empty k ts)) (suc n)
unless_empty_fits k none n v h = tt
unless_empty_fits k (more t ts) n v h = ((v, h), tt)

each_section_fits : {A : Type 0} (f : A → Tree) (n : ℕ) (xs : List A) → Each (λ x. Fits (f x) n) xs → AllFit (trees_of (section_of_each f xs)) n
each_section_fits f n [] h = tt
each_section_fits f n (x ∷ xs) h = (h.0, each_section_fits f n xs h.1)

definition_fits : (kind : List ℕ) (w : WordAt) (ts : List Tree) (n : ℕ) → IsTidyText kind → IsTidyText w.text → AllFit (trees_of ts) (suc n) → Fits (definition kind w ts) (suc (suc n))
definition_fits kind w ts n v h k = ((refl, refl), ((v, (h, tt)), k))

-- a definition opens no more than so many parentheses, where effects and networks have room
module _ (n : ℕ) where
  abbrev within : ℕ
  within = suc (suc (suc n))

  abbrev IsFittingName : WordAt → Type 0
  IsFittingName w = IsTidyText w.text

  -- domains
  abbrev IsFittingSection : DomainSection → Type 0
  IsFittingSection (domains.has_requirements ws) = AllFit (each word_expression ws) within
  IsFittingSection (has_types vs) = AllFit (typed_members vs) within
  IsFittingSection (has_constants vs) = AllFit (typed_members vs) within
  IsFittingSection (has_predicates ps) = AllFit (each predicate_expression ps) within
  IsFittingSection (has_task t) = Fits (task_section t) (suc within)
  IsFittingSection (has_method m) = Fits (method_section m) (suc within)
  IsFittingSection (has_action a) = Fits (action_section a) (suc within)

  section_fits : (w : List ℕ) (s : Span) (ts : Trees) (x : DomainSection) → SpellsDomainSection w s ts x → AllFit ts within → IsFittingSection x
  section_fits _ _ _ _ (tables.requirements s ts ws k) h = each_fits (SpellsWord sorts.Keyword) word_expression within (word_tidy sorts.Keyword) ts ws k (are_tidy ts within h)
  section_fits _ _ _ _ (tables.types s ts vs k) h = typed_fits within ts vs k h
  section_fits _ _ _ _ (tables.constants s ts vs k) h = typed_fits within ts vs k h
  section_fits _ _ _ _ (tables.predicates s ts ps k) h = each_fit SpellsPredicate predicate_expression within (predicate_fits n) ts ps k h
  section_fits _ _ _ _ (tables.task_section s ts x k) h = task_fits n s ts x k h
  section_fits _ _ _ _ (tables.method_section s ts x k) h = method_fits n s ts x k h
  section_fits _ _ _ _ (tables.action_section s ts x k) h = action_fits n s ts x k h

  domain_fits : (d : Domain) → OfDomain IsFittingName IsFittingSection d → Fits (domain_expression d) (suc (suc within))
  domain_fits d g =
      let r : List Tree = unless_empty (codes ":requirements") (each word_expression d.requirements) in
      let t : List Tree = unless_empty (codes ":types") (typed_members d.types) in
      let c : List Tree = unless_empty (codes ":constants") (typed_members d.constants) in
      let p : List Tree = unless_empty (codes ":predicates") (each predicate_expression d.predicates) in
      let k : List Tree = section_of_each task_section d.tasks in
      let m : List Tree = section_of_each method_section d.methods in
      let a : List Tree = section_of_each action_section d.actions in
      definition_fits (codes "domain") d.name (domain_sections d) within (refl, refl) g.name
      (both_fit (r ++ t ++ c ++ p ++ k ++ m) a (suc within)
      (both_fit (r ++ t ++ c ++ p ++ k) m (suc within)
      (both_fit (r ++ t ++ c ++ p) k (suc within)
      (both_fit (r ++ t ++ c) p (suc within)
      (both_fit (r ++ t) c (suc within)
      (both_fit r t (suc within)
      (unless_empty_fits (codes ":requirements") (each word_expression d.requirements) within (refl, refl) g.requirements)
      (unless_empty_fits (codes ":types") (typed_members d.types) within (refl, refl) g.types))
      (unless_empty_fits (codes ":constants") (typed_members d.constants) within (refl, refl) g.constants))
      (unless_empty_fits (codes ":predicates") (each predicate_expression d.predicates) within (refl, refl) g.predicates))
      (each_section_fits task_section (suc within) d.tasks g.tasks))
      (each_section_fits method_section (suc within) d.methods g.methods))
      (each_section_fits action_section (suc within) d.actions g.actions))

  pub domain_said_fits : (es : Trees) (d : Domain) → IsDomain es d → AllFit es (suc (suc within)) → Fits (domain_expression d) (suc (suc within))
  domain_said_fits _ _ (a_domain es w ts s d k l) h =
      let f = define_fits (codes "domain") es w ts s k within h in
      domain_fits d
      (sections_good domain_standing SpellsDomainSection add_section IsFittingSection (OfDomain IsFittingName IsFittingSection) within section_fits (section_added IsFittingName IsFittingSection) (no_domain w) [] ts d l f.1
      (record { name = f.0; requirements = tt; types = tt; constants = tt; predicates = tt; tasks = tt; methods = tt; actions = tt }))

  -- problems
  abbrev IsFittingPart : ProblemSection → Type 0
  IsFittingPart (is_for w) = IsFittingName w
  IsFittingPart (problems.has_requirements ws) = AllFit (each word_expression ws) within
  IsFittingPart (has_objects vs) = AllFit (typed_members vs) within
  IsFittingPart (has_htn x) = Fits (htn_section x) (suc within)
  IsFittingPart (has_init ls) = AllFit (each literal_expression ls) within
  IsFittingPart (has_goal f) = Fits (formula_expression f) within

  part_fits : (w : List ℕ) (s : Span) (ts : Trees) (x : ProblemSection) → SpellsProblemSection w s ts x → AllFit ts within → IsFittingPart x
  part_fits _ _ _ _ (tables.domain_name s t w k) h = word_tidy sorts.Name t w k (is_tidy t within h.0)
  part_fits _ _ _ _ (tables.problem_requirements s ts ws k) h = each_fits (SpellsWord sorts.Keyword) word_expression within (word_tidy sorts.Keyword) ts ws k (are_tidy ts within h)
  part_fits _ _ _ _ (tables.objects s ts vs k) h = typed_fits within ts vs k h
  part_fits _ _ _ _ (tables.htn_section s ts x k) h = htn_fits n s ts x k h
  part_fits _ _ _ _ (tables.init s ts ls k) h = each_fits SpellsGround literal_expression within (ground_fits (suc n)) ts ls k (are_tidy ts within h)
  part_fits _ _ _ _ (tables.goal s t f k) h = formula_fits t f k within h.0

  goal_section_fits : (o : Option Formula) → IfSome o (λ f. IsFittingPart (has_goal f)) → AllFit (trees_of (goal_section o)) (suc within)
  goal_section_fits None h = tt
  goal_section_fits (Some f) h = (((refl, refl), (h, tt)), tt)

  problem_fits : (p : Problem) → IsFittingName p.name → IsFittingPart (is_for p.domain) → IsFittingPart (problems.has_requirements p.requirements) → IsFittingPart (has_objects p.objects) → IsFittingPart (has_htn p.htn)
      → IsFittingPart (has_init p.init) → IfSome p.goal (λ f. IsFittingPart (has_goal f)) → Fits (problem_expression p) (suc (suc within))
  problem_fits p name for requirements objects network literals wanted =
      let d : List Tree = form (codes ":domain") (more (word_expression p.domain) none) ∷ [] in
      let r : List Tree = unless_empty (codes ":requirements") (each word_expression p.requirements) in
      let o : List Tree = unless_empty (codes ":objects") (typed_members p.objects) in
      let h : List Tree = htn_section p.htn ∷ [] in
      let i : List Tree = form (codes ":init") (each literal_expression p.init) ∷ [] in
      definition_fits (codes "problem") p.name (problem_sections p) within (refl, refl) name
      (both_fit (d ++ r ++ o ++ h ++ i) (goal_section p.goal) (suc within)
      (both_fit (d ++ r ++ o ++ h) i (suc within)
      (both_fit (d ++ r ++ o) h (suc within)
      (both_fit (d ++ r) o (suc within)
      (both_fit d r (suc within) (((refl, refl), (for, tt)), tt)
      (unless_empty_fits (codes ":requirements") (each word_expression p.requirements) within (refl, refl) requirements))
      (unless_empty_fits (codes ":objects") (typed_members p.objects) within (refl, refl) objects))
      (network, tt))
      (((refl, refl), literals), tt))
      (goal_section_fits p.goal wanted))

  pub problem_said_fits : (es : Trees) (p : Problem) → IsProblem es p → AllFit es (suc (suc within)) → Fits (problem_expression p) (suc (suc within))
  problem_said_fits _ _ (a_problem es w ts s p m x ls k l d e f) h =
      let a = define_fits (codes "problem") es w ts s k within h in
      let g : OfParts IsFittingPart p =
      sections_good problem_standing SpellsProblemSection add_part IsFittingPart (OfParts IsFittingPart) within part_fits (part_added IsFittingPart) no_parts [] ts p l a.1
      (record { domain = tt; requirements = tt; objects = tt; network = tt; literals = tt; wanted = tt }) in
      problem_fits (record { name = w; domain = m; requirements = p.requirements; objects = p.objects; htn = x; init = ls; goal = p.goal }) a.0
      (subst (λ o. IfSome o (λ n. IsFittingPart (is_for n))) d g.domain) g.requirements g.objects
      (subst (λ o. IfSome o (λ n. IsFittingPart (has_htn n))) e g.network)
      (subst (λ o. IfSome o (λ n. IsFittingPart (has_init n))) f g.literals) g.wanted
