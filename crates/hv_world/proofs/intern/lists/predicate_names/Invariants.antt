use Rattle.std.proofs.Common.{◌≡◌, ◌++◌, drop, map}
use Rattle.hv_text.specs.Names.{text_of}
use Rattle.hv_syntax.specs.DeclarationViews.{predicate_view as said_predicate}
use Rattle.hv_world.proofs.intern.lists.predicate_names.Given as goal

abbrev pub invariant-loop-predicate : goal.invariant-loop-predicate
invariant-loop-predicate l = map text_of l.names.items ++ map (λ q. q.name.text) (map said_predicate (drop l.predicate-index l.predicates)) ≡ map (λ q. q.name.text) (map said_predicate l.predicates)
