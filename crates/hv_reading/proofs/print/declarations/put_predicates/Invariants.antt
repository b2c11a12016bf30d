use Rattle.std.proofs.Common.{◌≡◌, ◌++◌, drop, map}
use Rattle.hv_reading.specs.Canonical.{spaced, each}
use Rattle.hv_reading.specs.CanonicalSections.{predicate_expression}
use Rattle.hv_syntax.specs.DeclarationViews.{predicate_view}
use Rattle.hv_reading.proofs.print.declarations.put_predicates.Given as goal

abbrev pub invariant-loop-predicate : goal.invariant-loop-predicate
invariant-loop-predicate l = l.out.items ++ spaced (each predicate_expression (map predicate_view (drop l.predicate-index l.predicates))) ≡ l.initial.out.items ++ spaced (each predicate_expression (map predicate_view l.predicates))
