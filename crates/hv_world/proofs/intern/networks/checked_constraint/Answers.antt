use Rattle.std.proofs.Common.{◌++◌, ◌∙◌}
use Rattle.hv_world.specs.Faults.{least}
use Rattle.hv_world.specs.StaticRules.{term_faults}
use Rattle.hv_world.specs.inside.Tables.{known_by, scope_view}
use Rattle.hv_world.proofs.intern.networks.checked_constraint.Goals as goal

pub returns-clause-fault : goal.returns-clause-fault
returns-clause-fault c =
    let a = c.args in
    let faults = term_faults (known_by a.tables.now) a.side (scope_view a.scope.now) in
    c.new.ensures.fault ∙ c.in_ok-both.ensures.fault ∙ (λ i. least (faults (c.left.ensures i) ++ faults (c.right.ensures i)))
