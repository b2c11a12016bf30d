-- What is checked as it gets its numbers.
use Rattle.std.specs.Prelude.{◌≡◌, ◌≢◌, [], None, map, option_map, MatchOption}
use Rattle.std.specs.List.{flat_map}
use Rattle.hv_syntax.specs.Values.{Domain, Problem}
use Rattle.hv_world.specs.declared.fault.Side.TheVariants as sides
use Rattle.hv_world.specs.declared.numbered.Numbered.{Numbered}
use Rattle.hv_world.specs.Faults.{least}
use Rattle.hv_world.specs.FactViews.{facts_view}
use Rattle.hv_world.specs.Known.{Known}
use Rattle.hv_world.specs.MethodViews.{method_view}
use Rattle.hv_world.specs.Scopes.{parameters}
use Rattle.hv_world.specs.SectionViews.{task_view, action_view}
use Rattle.hv_world.specs.StaticRules.{variable_faults, method_faults, action_faults, htn_faults, literals_faults, goal_faults}
use Rattle.hv_world.specs.Views.{formula_view}
use Rattle.hv_world.specs.Worlds.{task_by, method_in, action_in, top_in, added, formula_in}

-- the tasks, methods and actions are those of a domain, the methods unless one has a fault
pub record IsOfDomain (k : Known) (d : Domain) (n : Numbered) : Type 0 where
  pub tasks : map task_view n.tasks.value.items ≡ map (task_by k) d.tasks
  pub tasks_fault : n.tasks.fault
      ≡ least (flat_map (λ t. variable_faults k sides.Domain t.parameters) d.tasks)
  pub methods : n.methods.fault ≡ None
      → map method_view n.methods.value.items ≡ map (method_in k) d.methods
  pub methods_fault : n.methods.fault ≡ least (flat_map (method_faults k sides.Domain) d.methods)
  pub actions : map action_view n.actions.value.items ≡ map (action_in k) d.actions
  pub actions_fault : n.actions.fault ≡ least (flat_map (action_faults k sides.Domain) d.actions)

-- the initial network, the initial state and the goal are those of a problem, the network unless it
-- has a fault
pub record IsOfProblem (k : Known) (p : Problem) (n : Numbered) : Type 0 where
  pub top : MatchOption n.top.value (n.top.fault ≢ None) (λ m. method_view m ≡ top_in k p.htn)
  pub top_fault : n.top.fault ≡ least (htn_faults k sides.Problem p.htn)
  pub init : facts_view n.init.value ≡ added k (parameters []) p.init
  pub init_fault : n.init.fault ≡ least (literals_faults k sides.Problem (parameters []) p.init)
  pub goal : option_map formula_view n.goal.value
      ≡ option_map (formula_in k (parameters [])) p.goal
  pub goal_fault : n.goal.fault ≡ least (goal_faults k sides.Problem p.goal)
