-- The sections of domains.
use Rattle.std.specs.Prelude.{List, [], ◌∷◌, ◌++◌}
use Rattle.hv_syntax.specs.Values.{WordAt, Typed, Predicate, Task, Method, Action, Domain}

-- what a section of a domain says
pub data DomainSection : Type 0 where
  has_requirements : List WordAt → DomainSection
  has_types : List Typed → DomainSection
  has_constants : List Typed → DomainSection
  has_predicates : List Predicate → DomainSection
  has_task : Task → DomainSection
  has_method : Method → DomainSection
  has_action : Action → DomainSection

-- a domain of this name without sections
abbrev pub no_domain : WordAt → Domain
no_domain n =
    record {
      name = n;
      requirements = [];
      types = [];
      constants = [];
      predicates = [];
      tasks = [];
      methods = [];
      actions = [];
    }

-- what is known of a domain, and what one more section says
abbrev pub add_section : Domain → DomainSection → Domain
add_section d (has_requirements ws) = record d { requirements = ws }
add_section d (has_types vs) = record d { types = vs }
add_section d (has_constants vs) = record d { constants = vs }
add_section d (has_predicates ps) = record d { predicates = ps }
add_section d (has_task t) = record d { tasks = d.tasks ++ t ∷ [] }
add_section d (has_method m) = record d { methods = d.methods ++ m ∷ [] }
add_section d (has_action a) = record d { actions = d.actions ++ a ∷ [] }
