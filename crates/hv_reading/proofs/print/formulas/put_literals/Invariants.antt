use Rattle.std.proofs.Common.{◌≡◌, ◌++◌, length}
use Rattle.hv_reading.specs.Canonical.{spaced, each}
use Rattle.hv_reading.specs.Canonical.{literal_expression}
use Rattle.hv_syntax.specs.ProblemViews.{init_view, literals_left}
use Rattle.hv_reading.proofs.print.formulas.put_literals.Given as goal

abbrev pub invariant-all : goal.invariant-all
invariant-all l = l.out.items ++ spaced (each literal_expression (literals_left l.literals)) ≡ l.initial.out.items ++ spaced (each literal_expression (init_view l.init))

abbrev pub decreases-all : goal.decreases-all
decreases-all l = length (literals_left l.literals)
