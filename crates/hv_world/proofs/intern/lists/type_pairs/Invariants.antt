use Rattle.std.proofs.Common.{◌≡◌, ◌++◌, drop, map}
use Rattle.hv_syntax.specs.Views.{typed_view}
use Rattle.hv_world.specs.inside.Tables.{known_by}
use Rattle.hv_world.specs.Worlds.{type_pair}
use Rattle.hv_world.proofs.intern.lists.type_pairs.Given as goal

abbrev pub invariant-loop-typed : goal.invariant-loop-typed
invariant-loop-typed l = map (λ p. (p.0.0, p.1.0)) l.pairs.items ++ map (type_pair (known_by l.tables)) (map typed_view (drop l.typed-index l.list)) ≡ map (type_pair (known_by l.tables)) (map typed_view l.list)
