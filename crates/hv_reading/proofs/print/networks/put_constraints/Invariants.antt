use Rattle.std.proofs.Common.{◌≡◌, ◌++◌, drop, map}
use Rattle.hv_reading.specs.Canonical.{spaced, each}
use Rattle.hv_reading.specs.Canonical.{constraint_expression}
use Rattle.hv_syntax.specs.NetworkViews.{constraint_view}
use Rattle.hv_reading.proofs.print.networks.put_constraints.Given as goal

abbrev pub invariant-loop-constraint : goal.invariant-loop-constraint
invariant-loop-constraint l = l.out.items ++ spaced (each constraint_expression (map constraint_view (drop l.constraint-index l.constraints))) ≡ l.initial.out.items ++ spaced (each constraint_expression (map constraint_view l.constraints))
