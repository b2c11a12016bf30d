-- What the domains of the code say.
use Rattle.std.specs.Prelude.{map}
use Rattle.hv_syntax.specs.declared.domain.DomainText.{DomainText}
use Rattle.hv_syntax.specs.declared.domain.DomainSection as code
use Rattle.hv_syntax.specs.declared.domain.DomainSection.TheVariants as sections
use Rattle.hv_syntax.specs.Values.{Domain}
use Rattle.hv_syntax.specs.Domains.{DomainSection, has_requirements, has_types, has_constants, has_predicates, has_task, has_method, has_action}
use Rattle.hv_syntax.specs.Views.{word_view, typed_view}
use Rattle.hv_syntax.specs.DeclarationViews.{predicate_view, task_view, method_view, action_view}

-- what a section of the code says
abbrev pub domain_section_view : code.DomainSection → DomainSection
domain_section_view (sections.Requirements v) = has_requirements (map word_view v.items)
domain_section_view (sections.Types v) = has_types (map typed_view v.items)
domain_section_view (sections.Constants v) = has_constants (map typed_view v.items)
domain_section_view (sections.Predicates v) = has_predicates (map predicate_view v.items)
domain_section_view (sections.Task t) = has_task (task_view t)
domain_section_view (sections.Method m) = has_method (method_view m)
domain_section_view (sections.Action a) = has_action (action_view a)

-- the domain that a value of the code says
abbrev pub domain_view : DomainText → Domain
domain_view d =
    record {
      name = word_view d.name;
      requirements = map word_view d.requirements.items;
      types = map typed_view d.types.items;
      constants = map typed_view d.constants.items;
      predicates = map predicate_view d.predicates.items;
      tasks = map task_view d.tasks.items;
      methods = map method_view d.methods.items;
      actions = map action_view d.actions.items;
    }
