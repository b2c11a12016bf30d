use Rattle.std.proofs.Common.{◌≡◌, ◌<◌, List, [], ◌∷◌, map, refl, ap, subst}
use Rattle.std.proofs.lemmas.List.Elements.{All-map}
use Rattle.hv_world.specs.declared.id.TypeId.{TypeId}
use Rattle.hv_world.specs.inside.TypeLists.{type_lists, AreSeconds}
use Rattle.hv_world.specs.inside.Bases.{turned}
use Rattle.hv_world.proofs.bases.Graph.new.Goals as goal

turned_is : (pairs : List (TypeId × TypeId)) → map (λ p. (p.1.0, p.0.0)) pairs ≡ turned (map (λ p. (p.0.0, p.1.0)) pairs)
turned_is [] = refl
turned_is (p ∷ pairs) = ap (λ ps. (p.1.0, p.0.0) ∷ ps) (turned_is pairs)

pub returns-clause-graph : goal.returns-clause-graph
returns-clause-graph c = record {
  range = record {
    object = c.requires.object;
    parents = All-map (λ q. (q.0 < c.args.types) × (q.1 < c.args.types)) (λ p. (p.0.0, p.1.0)) c.args.parents.now c.requires.parents;
    declared = All-map (λ q. (q.0 < c.args._objects) × (q.1 < c.args.types)) (λ p. (p.0.0, p.1.0)) c.args.declared.now c.requires.declared;
  };
  above = c.in_ok-parents_by_type.ensures.lists;
  below = subst (λ ps. AreSeconds ps (type_lists c.in_ok-types_below.field-0.items)) (turned_is c.args.parents.now) c.in_ok-types_below.ensures;
  object = c.in_ok-marks.ensures.object;
  declared = c.in_ok-marks.ensures.declared;
}
