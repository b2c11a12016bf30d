use Rattle.std.proofs.Common.{◌++◌, arith}
use Rattle.hv_syntax.specs.NetworkViews.{constraint_view as said_constraint}
use Rattle.hv_world.specs.StaticRules.{term_faults}
use Rattle.hv_world.specs.inside.Tables.{known_by, scope_view}
use Rattle.hv_world.specs.Views.{constraint_view}
use Rattle.hv_world.specs.Worlds.{constraint_in}
use Rattle.hv_world.proofs.CheckedLemmas.{one_more}
use Rattle.hv_world.proofs.intern.networks.checked_constraints.Goals as goal

pub loop-constraint-preserved : goal.loop-constraint-preserved
loop-constraint-preserved c =
    let l = c.loop-constraint in
    let a = c.args in
    let k = known_by a.tables.now in
    let scope = scope_view a.scope.now in
    one_more said_constraint (constraint_in k scope) constraint_view (λ x. term_faults k a.side scope x.left ++ term_faults k a.side scope x.right) a.constraints.now l.constraint-index c.constraint-item.result l.numbered.value.items l.numbered.fault l.invariant (omega arith) c.constraint-item.is c.in_ok-checked_constraint.ensures.value c.in_ok-checked_constraint.ensures.fault c.in_ok-push.ensures.value c.in_ok-push.ensures.fault
