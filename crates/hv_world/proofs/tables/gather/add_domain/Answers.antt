use Rattle.std.proofs.Common.{◌++◌, subst}
use Rattle.std.specs.List.{flat_map}
use Rattle.hv_syntax.specs.DomainViews.{domain_view}
use Rattle.hv_world.specs.Eithers.{method_variables, action_variables}
use Rattle.hv_world.specs.inside.Gathers.{lists_in, AreGathered}
use Rattle.hv_world.proofs.GatherLemmas.{gathered_both}
use Rattle.hv_world.proofs.tables.gather.add_domain.Goals as goal

pub returns : goal.returns
returns c =
    let x = domain_view c.args.domain.now in
    let a = lists_in c.args.lists.now in
    let b = lists_in c.add_tasks.new.lists in
    let d = lists_in c.add_methods.new.lists in
    let e = lists_in c.add_actions.new.lists in
    gathered_both a d e (flat_map (λ t. t.parameters) x.tasks ++ flat_map method_variables x.methods) (flat_map action_variables x.actions)
    (gathered_both a b d (flat_map (λ t. t.parameters) x.tasks) (flat_map method_variables x.methods) (subst (λ ts. AreGathered a (flat_map (λ t. t.parameters) ts) b) c.tasks.ensures c.in_ok-add_tasks.ensures)
    (subst (λ ms. AreGathered b (flat_map method_variables ms) d) c.methods.ensures c.in_ok-add_methods.ensures))
    (subst (λ xs. AreGathered d (flat_map action_variables xs) e) c.actions.ensures c.in_ok-add_actions.ensures)
