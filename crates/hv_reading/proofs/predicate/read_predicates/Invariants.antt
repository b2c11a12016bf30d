use Rattle.std.proofs.Common.{◌≡◌, drop, map}
use Rattle.hv_text.specs.Trees.{trees}
use Rattle.hv_reading.specs.inside.Reading.{every, behind}
use Rattle.hv_reading.specs.inside.Declarations.{predicate_of}
use Rattle.hv_syntax.specs.DeclarationViews.{predicate_view}
use Rattle.hv_reading.proofs.predicate.read_predicates.Given as goal

abbrev pub invariant-loop-e : goal.invariant-loop-e
invariant-loop-e l = behind (map predicate_view l.predicates.items) (every predicate_of (trees (drop l.e-index l.es))) ≡ every predicate_of (trees l.es)
