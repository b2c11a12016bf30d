use Rattle.std.proofs.Common.{◌≡◌, ◌++◌, length, drop, map}
use Rattle.hv_syntax.specs.DeclarationViews.{predicate_view}
use Rattle.hv_world.proofs.tables.words.arities.Given as goal

abbrev pub invariant-loop-predicate : goal.invariant-loop-predicate
invariant-loop-predicate l =
    l.counts.items ++ map (λ p. length p.parameters) (map predicate_view (drop l.predicate-index l.predicates)) ≡ map (λ p. length p.parameters) (map predicate_view l.predicates)
