-- What holds of all sections of a domain or problem, and is kept when one more is added.
use Rattle.std.proofs.Common.{List, [], ◌∷◌, ◌++◌}
use Rattle.std.specs.Prelude.{IfSome}
use Rattle.hv_syntax.specs.Values.{WordAt, Domain}
use Rattle.hv_syntax.specs.Domains as domains
use Rattle.hv_syntax.specs.Domains.{DomainSection, has_types, has_constants, has_predicates, has_task, has_method, has_action, add_section}
use Rattle.hv_syntax.specs.Problems as problems
use Rattle.hv_syntax.specs.Problems.{ProblemSection, is_for, has_objects, has_htn, has_init, has_goal, Parts, add_part}

abbrev pub Each : {A : Type 0} → (A → Type 0) → List A → Type 0
Each P [] = Unit {0}
Each P (x ∷ xs) = P x × Each P xs

each_more : {A : Type 0} (P : A → Type 0) (xs : List A) (x : A) → Each P xs → P x → Each P (xs ++ x ∷ [])
each_more P [] x h k = (k, tt)
each_more P (y ∷ ys) x h k = (h.0, each_more P ys x h.1 k)

-- of the name of a domain, and of all its sections
pub record OfDomain (N : WordAt → Type 0) (P : DomainSection → Type 0) (d : Domain) : Type 0 where
  pub name : N d.name
  pub requirements : P (domains.has_requirements d.requirements)
  pub types : P (has_types d.types)
  pub constants : P (has_constants d.constants)
  pub predicates : P (has_predicates d.predicates)
  pub tasks : Each (λ t. P (has_task t)) d.tasks
  pub methods : Each (λ m. P (has_method m)) d.methods
  pub actions : Each (λ a. P (has_action a)) d.actions

module _ (N : WordAt → Type 0) (P : DomainSection → Type 0) where
  pub section_added : (d : Domain) (s : DomainSection) → OfDomain N P d → P s → OfDomain N P (add_section d s)
  section_added d (domains.has_requirements ws) g h =
      record { name = g.name; requirements = h; types = g.types; constants = g.constants; predicates = g.predicates; tasks = g.tasks; methods = g.methods; actions = g.actions }
  section_added d (has_types vs) g h =
      record { name = g.name; requirements = g.requirements; types = h; constants = g.constants; predicates = g.predicates; tasks = g.tasks; methods = g.methods; actions = g.actions }
  section_added d (has_constants vs) g h =
      record { name = g.name; requirements = g.requirements; types = g.types; constants = h; predicates = g.predicates; tasks = g.tasks; methods = g.methods; actions = g.actions }
  section_added d (has_predicates ps) g h =
      record { name = g.name; requirements = g.requirements; types = g.types; constants = g.constants; predicates = h; tasks = g.tasks; methods = g.methods; actions = g.actions }
  section_added d (has_task t) g h =
      record { name = g.name; requirements = g.requirements; types = g.types; constants = g.constants; predicates = g.predicates; tasks = each_more (λ t. P (has_task t)) d.tasks t g.tasks h; methods = g.methods; actions = g.actions }
  section_added d (has_method m) g h =
      record { name = g.name; requirements = g.requirements; types = g.types; constants = g.constants; predicates = g.predicates; tasks = g.tasks; methods = each_more (λ m. P (has_method m)) d.methods m g.methods h; actions = g.actions }
  section_added d (has_action a) g h =
      record { name = g.name; requirements = g.requirements; types = g.types; constants = g.constants; predicates = g.predicates; tasks = g.tasks; methods = g.methods; actions = each_more (λ a. P (has_action a)) d.actions a g.actions h }

-- of all sections of a problem so far
pub record OfParts (P : ProblemSection → Type 0) (p : Parts) : Type 0 where
  pub domain : IfSome p.domain (λ n. P (is_for n))
  pub requirements : P (problems.has_requirements p.requirements)
  pub objects : P (has_objects p.objects)
  pub network : IfSome p.htn (λ h. P (has_htn h))
  pub literals : IfSome p.init (λ ls. P (has_init ls))
  pub wanted : IfSome p.goal (λ f. P (has_goal f))

module _ (P : ProblemSection → Type 0) where
  pub part_added : (p : Parts) (s : ProblemSection) → OfParts P p → P s → OfParts P (add_part p s)
  part_added p (is_for n) g h = record { domain = h; requirements = g.requirements; objects = g.objects; network = g.network; literals = g.literals; wanted = g.wanted }
  part_added p (problems.has_requirements ws) g h = record { domain = g.domain; requirements = h; objects = g.objects; network = g.network; literals = g.literals; wanted = g.wanted }
  part_added p (has_objects vs) g h = record { domain = g.domain; requirements = g.requirements; objects = h; network = g.network; literals = g.literals; wanted = g.wanted }
  part_added p (has_htn n) g h = record { domain = g.domain; requirements = g.requirements; objects = g.objects; network = h; literals = g.literals; wanted = g.wanted }
  part_added p (has_init ls) g h = record { domain = g.domain; requirements = g.requirements; objects = g.objects; network = g.network; literals = h; wanted = g.wanted }
  part_added p (has_goal f) g h = record { domain = g.domain; requirements = g.requirements; objects = g.objects; network = g.network; literals = g.literals; wanted = h }
