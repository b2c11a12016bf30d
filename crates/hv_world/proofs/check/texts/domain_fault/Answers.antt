use Rattle.std.proofs.Common.{◌++◌, ap, ◌∙◌}
use Rattle.std.specs.List.{flat_map}
use Rattle.hv_syntax.specs.DomainViews.{domain_view}
use Rattle.hv_world.specs.declared.fault.Side.TheVariants as sides
use Rattle.hv_world.specs.Faults.{least}
use Rattle.hv_world.specs.StaticRules.{duplicate_faults, typed_faults, variable_faults, method_faults, action_faults}
use Rattle.hv_world.specs.inside.Tables.{known_by}
use Rattle.hv_world.proofs.FaultLemmas.{least-both}
use Rattle.hv_world.proofs.check.texts.domain_fault.Goals as goal

pub returns : goal.returns
returns c =
    let k = known_by c.args.tables.now in
    let s = sides.Domain in
    let domain = domain_view c.args.domain.now in
    let duplicates = duplicate_faults domain in
    let constants = typed_faults k s domain.constants in
    let tasks = flat_map (λ t. variable_faults k s t.parameters) domain.tasks in
    let methods = flat_map (method_faults k s) domain.methods in
    let actions = flat_map (action_faults k s) domain.actions in
    c.earlier.ensures
    ∙ least-both (duplicates ++ constants ++ tasks ++ methods) actions _ _
    (c.earlier-methods.ensures
    ∙ least-both (duplicates ++ constants ++ tasks) methods _ _
    (c.earlier-tasks.ensures
    ∙ least-both (duplicates ++ constants) tasks _ _
    (c.earlier-names.ensures
    ∙ least-both duplicates constants _ _ c.in_ok-duplicate.ensures (c.typed_fault-constant.ensures ∙ ap (λ vs. least (typed_faults k s vs)) c.constants.ensures))
    c.requires.numbered.tasks_fault)
    c.requires.numbered.methods_fault)
    c.requires.numbered.actions_fault
