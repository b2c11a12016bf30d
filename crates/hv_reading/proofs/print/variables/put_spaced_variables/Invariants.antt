use Rattle.std.proofs.Common.{◌≡◌, ◌++◌, drop, map}
use Rattle.hv_reading.specs.Canonical.{spaced, variable_members}
use Rattle.hv_syntax.specs.Views.{variable_view}
use Rattle.hv_reading.proofs.print.variables.put_spaced_variables.Given as goal

abbrev pub invariant-loop-variable : goal.invariant-loop-variable
invariant-loop-variable l = l.out.items ++ spaced (variable_members (map variable_view (drop l.variable-index l.variables))) ≡ l.initial.out.items ++ spaced (variable_members (map variable_view l.variables))
