-- The first faults of networks, methods, actions and initial networks, from those of their parts.
use Rattle.std.proofs.Common.{◌≡◌, ◌++◌, Option, ap, ◌∙◌}
use Rattle.hv_text.specs.declared.span.Span.{Span}
use Rattle.hv_syntax.specs.Values.{Network, Method, Action, Htn}
use Rattle.hv_world.specs.declared.fault.Side.{Side}
use Rattle.hv_world.specs.declared.fault.StaticFault.{StaticFault}
use Rattle.hv_world.specs.Faults.{earlier, least}
use Rattle.hv_world.specs.Known.{Known, variables}
use Rattle.hv_world.specs.Scopes.{Scope, parameters}
use Rattle.hv_world.specs.StaticRules.{variable_faults, task_faults, formula_faults, effect_faults, subtasks_faults, constraints_faults, order_faults, network_faults, method_faults, action_faults, htn_faults}
use Rattle.hv_world.proofs.FaultLemmas.{least-both}

module _ (k : Known) (s : Side) where
  pub of_network : (n : Network) (scope : Scope) (place : Span) (subtasks constraints order parts fault : Option StaticFault)
      → subtasks ≡ least (subtasks_faults k s scope n.subtasks) → constraints ≡ least (constraints_faults k s scope n.constraints)
      → order ≡ least (order_faults k s place n) → parts ≡ earlier subtasks constraints → fault ≡ earlier parts order
      → fault ≡ least (network_faults k s scope place n)
  of_network n scope place subtasks constraints order parts fault subtasks_are constraints_are order_is parts_are fault_is =
      let first = subtasks_faults k s scope n.subtasks in
      let second = constraints_faults k s scope n.constraints in
      fault_is ∙ least-both (first ++ second) (order_faults k s place n) _ _ (parts_are ∙ least-both first second _ _ subtasks_are constraints_are) order_is

  pub of_method : (m : Method) (scope : Scope) → scope ≡ parameters (variables m.parameters)
      → (own task precondition network head front fault : Option StaticFault) → own ≡ least (variable_faults k s m.parameters)
      → task ≡ least (task_faults k s scope m.task) → precondition ≡ least (formula_faults k s scope m.precondition)
      → network ≡ least (network_faults k s scope m.place m.network)
      → head ≡ earlier own task → front ≡ earlier head precondition → fault ≡ earlier front network → fault ≡ least (method_faults k s m)
  of_method m scope bound own task precondition network head front fault own_is task_is precondition_is network_is head_is front_is fault_is =
      let bounded = parameters (variables m.parameters) in
      let owns = variable_faults k s m.parameters in
      let tasks = task_faults k s bounded m.task in
      let preconditions = formula_faults k s bounded m.precondition in
      fault_is
      ∙ least-both (owns ++ tasks ++ preconditions) (network_faults k s bounded m.place m.network) _ _
      (front_is
      ∙ least-both (owns ++ tasks) preconditions _ _
      (head_is ∙ least-both owns tasks _ _ own_is (task_is ∙ ap (λ x. least (task_faults k s x m.task)) bound))
      (precondition_is ∙ ap (λ x. least (formula_faults k s x m.precondition)) bound))
      (network_is ∙ ap (λ x. least (network_faults k s x m.place m.network)) bound)

  pub of_action : (a : Action) (scope : Scope) → scope ≡ parameters (variables a.parameters)
      → (own precondition effect head fault : Option StaticFault) → own ≡ least (variable_faults k s a.parameters)
      → precondition ≡ least (formula_faults k s scope a.precondition) → effect ≡ least (effect_faults k s scope a.effect)
      → head ≡ earlier own precondition → fault ≡ earlier head effect → fault ≡ least (action_faults k s a)
  of_action a scope bound own precondition effect head fault own_is precondition_is effect_is head_is fault_is =
      let bounded = parameters (variables a.parameters) in
      let owns = variable_faults k s a.parameters in
      let preconditions = formula_faults k s bounded a.precondition in
      fault_is
      ∙ least-both (owns ++ preconditions) (effect_faults k s bounded a.effect) _ _
      (head_is ∙ least-both owns preconditions _ _ own_is (precondition_is ∙ ap (λ x. least (formula_faults k s x a.precondition)) bound))
      (effect_is ∙ ap (λ x. least (effect_faults k s x a.effect)) bound)

  pub of_htn : (h : Htn) (scope : Scope) → scope ≡ parameters (variables h.parameters)
      → (own network fault : Option StaticFault) → own ≡ least (variable_faults k s h.parameters)
      → network ≡ least (network_faults k s scope h.place h.network) → fault ≡ earlier own network → fault ≡ least (htn_faults k s h)
  of_htn h scope bound own network fault own_is network_is fault_is =
      fault_is
      ∙ least-both (variable_faults k s h.parameters) (network_faults k s (parameters (variables h.parameters)) h.place h.network) _ _ own_is
      (network_is ∙ ap (λ x. least (network_faults k s x h.place h.network)) bound)
