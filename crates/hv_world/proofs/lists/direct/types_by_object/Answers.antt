use Rattle.std.proofs.Common.{◌≡◌, ◌<◌, ◌++◌, ◌∷◌, [], arith, length, get_or, ap, ◌∙◌, refl, map, subst}
use Rattle.std.proofs.lemmas.List.{length-set, take_all}
use Rattle.hv_world.specs.declared.lists.direct.TypesOf.{TypesOf}
use Rattle.hv_world.specs.inside.TypeLists.{declared_lists, AreSeconds}
use Rattle.hv_world.proofs.TypeLemmas.{group_none, all_empty_by, grouped_more_by}
use Rattle.hv_world.proofs.lists.direct.types_by_object.Goals as goal

pub loop-object-init : goal.loop-object-init
loop-object-init c = (c.in_ok-lists.ensures.size, group_none _ (all_empty_by (λ o. o.types.items) (λ t. t.0) c.in_ok-lists.lists.items c.in_ok-lists.ensures.empty))

pub loop-object-preserved : goal.loop-object-preserved
loop-object-preserved c =
    let pairs = c.args.pairs.now in
    let lists = c.loop-object.lists.items in
    let pair = get_or pairs c.loop-object.object-index (record { 0 = 0 }, record { 0 = 0 }) in
    let within : pair.0.0 < length lists = omega (arith, c.requires c.loop-object.object-index (record { 0 = 0 }, record { 0 = 0 }) (omega arith), c.loop-object.invariant.0) in
    let grown : TypesOf = record { types = c.push.new.self } in
    let grew : c.push.new.self.items ≡ (get_or lists pair.0.0 c.index_mut.result.now).types.items ++ pair.1 ∷ [] =
    c.in_ok-push.ensures.ok ∙ ap (λ o. o.types.items ++ pair.1 ∷ []) c.index_mut.ensures.value in (
      length-set lists pair.0.0 grown ∙ c.loop-object.invariant.0,
      grouped_more_by (λ o. o.types.items) (λ t. t.0) (λ p. (p.0.0, p.1.0)) pairs c.loop-object.object-index _ lists _ grown c.index_mut.result.now _ (omega arith) refl within grew c.loop-object.invariant.1,
    )

pub returns-clause-lists : goal.returns-clause-lists
returns-clause-lists c =
    subst (λ ps. AreSeconds (map (λ p. (p.0.0, p.1.0)) ps) (declared_lists c.loop-object.lists.items)) (take_all c.loop-object.object-index c.args.pairs.now c.loop-object-test.false) c.loop-object.invariant.1
