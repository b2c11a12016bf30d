use Rattle.std.proofs.Common.{◌++◌}
use Rattle.hv_syntax.specs.NetworkViews.{constraint_view as said_constraint}
use Rattle.hv_world.specs.StaticRules.{term_faults}
use Rattle.hv_world.specs.inside.Tables.{known_by, scope_view}
use Rattle.hv_world.specs.Views.{constraint_view}
use Rattle.hv_world.specs.Worlds.{constraint_in}
use Rattle.hv_world.proofs.CheckedLemmas.{AreChecked}
use Rattle.hv_world.proofs.intern.networks.checked_constraints.Given as goal

abbrev pub invariant-loop-constraint : goal.invariant-loop-constraint
invariant-loop-constraint l = AreChecked said_constraint (constraint_in (known_by l.tables) (scope_view l.scope)) constraint_view (λ x. term_faults (known_by l.tables) l.side (scope_view l.scope) x.left ++ term_faults (known_by l.tables) l.side (scope_view l.scope) x.right) l.constraints l.constraint-index l.numbered.value.items l.numbered.fault
