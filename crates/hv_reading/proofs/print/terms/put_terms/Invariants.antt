use Rattle.std.proofs.Common.{◌≡◌, ◌++◌, drop, map}
use Rattle.hv_reading.specs.Canonical.{spaced, each}
use Rattle.hv_reading.specs.Canonical.{term_expression}
use Rattle.hv_syntax.specs.Views.{term_view}
use Rattle.hv_reading.proofs.print.terms.put_terms.Given as goal

abbrev pub invariant-loop-term : goal.invariant-loop-term
invariant-loop-term l = l.out.items ++ spaced (each term_expression (map term_view (drop l.term-index l.terms))) ≡ l.initial.out.items ++ spaced (each term_expression (map term_view l.terms))
