use Rattle.std.proofs.Common.{◌∙◌}
use Rattle.hv_syntax.specs.Views.{term_view as said_term}
use Rattle.hv_world.specs.StaticRules.{term_faults}
use Rattle.hv_world.specs.inside.Tables.{known_by, scope_view}
use Rattle.hv_world.proofs.FaultLemmas.{least-both}
use Rattle.hv_world.proofs.intern.terms.checked_equality.Goals as goal

pub returns-clause-fault : goal.returns-clause-fault
returns-clause-fault c =
    let a = c.args in
    let faults = term_faults (known_by a.tables.now) a.side (scope_view a.scope.now) in
    c.earlier.ensures ∙ least-both (faults (said_term a.left)) (faults (said_term a.right)) _ _ c.in_ok-left.ensures.fault c.in_ok-right.ensures.fault
