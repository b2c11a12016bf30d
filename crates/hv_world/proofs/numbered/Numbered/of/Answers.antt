use Rattle.std.proofs.Common.{◌≡◌, [], None, ap, sym, subst, ◌∙◌, map, option_map}
use Rattle.std.specs.Prelude.{MatchOption, ◌≢◌}
use Rattle.std.specs.List.{flat_map}
use Rattle.hv_world.specs.declared.fault.Side.TheVariants as sides
use Rattle.hv_world.specs.Faults.{least}
use Rattle.hv_world.specs.MethodViews.{method_view}
use Rattle.hv_world.specs.Scopes.{parameters}
use Rattle.hv_world.specs.StaticRules.{variable_faults, method_faults, action_faults, htn_faults, literals_faults, goal_faults}
use Rattle.hv_world.specs.Worlds.{task_by, method_in, action_in, top_in, added, formula_in}
use Rattle.hv_world.specs.inside.Tables.{known_by, HaveParameters}
use Rattle.hv_world.proofs.numbered.Numbered.of.Goals as goal

pub checked_top-requires : goal.checked_top-requires
checked_top-requires c = subst (λ h. HaveParameters h c.args.tables.now) (sym c.htn.ensures) c.requires

pub returns-clause-domain : goal.returns-clause-domain
returns-clause-domain c =
    let k = known_by c.args.tables.now in
    let s = sides.Domain in
    record {
      tasks = c.in_ok-tasks.ensures.value ∙ ap (map (task_by k)) c.tasks.ensures;
      tasks_fault = c.in_ok-tasks.ensures.fault ∙ ap (λ ts. least (flat_map (λ t. variable_faults k s t.parameters) ts)) c.tasks.ensures;
      methods = λ e. c.in_ok-methods.ensures.value e ∙ ap (map (method_in k)) c.methods.ensures;
      methods_fault = c.in_ok-methods.ensures.fault ∙ ap (λ ms. least (flat_map (method_faults k s) ms)) c.methods.ensures;
      actions = c.in_ok-actions.ensures.value ∙ ap (map (action_in k)) c.actions.ensures;
      actions_fault = c.in_ok-actions.ensures.fault ∙ ap (λ xs. least (flat_map (action_faults k s) xs)) c.actions.ensures;
    }

pub returns-clause-problem : goal.returns-clause-problem
returns-clause-problem c =
    let k = known_by c.args.tables.now in
    let s = sides.Problem in
    record {
      top = subst (λ h. MatchOption c.in_ok-top.top.value (c.in_ok-top.top.fault ≢ None) (λ m. method_view m ≡ top_in k h)) c.htn.ensures c.in_ok-top.ensures.value;
      top_fault = c.in_ok-top.ensures.fault ∙ ap (λ h. least (htn_faults k s h)) c.htn.ensures;
      init = c.in_ok-init.ensures.value ∙ ap (added k (parameters [])) c.init.ensures;
      init_fault = c.in_ok-init.ensures.fault ∙ ap (λ ls. least (literals_faults k s (parameters []) ls)) c.init.ensures;
      goal = c.in_ok-goal.ensures.value ∙ ap (option_map (formula_in k (parameters []))) c.goal.ensures;
      goal_fault = c.in_ok-goal.ensures.fault ∙ ap (λ g. least (goal_faults k s g)) c.goal.ensures;
    }
