use Rattle.std.proofs.Common.{◌≡◌, ◌<◌, ◌+◌, arith, length, ap, sym, ◌∙◌, drop, subst, get_or, set}
use Rattle.std.specs.List.{Contains}
use Rattle.std.proofs.lemmas.List.{length-map, take_at}
use Rattle.hv_world.specs.Types.{typing, object_numbers}
use Rattle.hv_world.specs.inside.TypeLists.{list_of, type_lists, direct_lists, object_lists, AscendsBelow, AreMembersBelow}
use Rattle.hv_world.proofs.TypeLemmas.{no_objects, all_empty, next_object, second_within, starts_are, put_above_as, object_put, at_map, set_map}
use Rattle.hv_world.proofs.lists.members.Goals as goal

pub loop-number-init : goal.loop-number-init
loop-number-init c =
    let none = c.in_ok-members.members.items in (
      c.new-waiting.ensures.items,
      no_objects _ (object_lists none) (length-map none (λ v. object_numbers v.items) ∙ c.in_ok-members.ensures.size) (all_empty (λ o. o.0) none c.in_ok-members.ensures.empty),
      c.in_ok-direct.ensures,
    )

pub put_above-requires-clause-waiting : goal.put_above-requires-clause-waiting
put_above-requires-clause-waiting c =
    let direct = c.loop-number.direct-1 in
    let n = c.loop-number.number in
    let starts = starts_are direct n c.loop-number.waiting.items c.push_to.new.types.items c.loop-number.invariant.0 c.in_ok-push_to.ensures in
    λ t m.
    let stands : Contains (list_of (direct_lists direct) n) t = subst (λ ts. Contains ts t) starts m in
    let below = second_within (λ p. (p.0.0, p.1.0)) c.args.declared.now c.args.types (λ k d k_lt. (c.requires.declared k d k_lt).1) n t ((c.loop-number.invariant.2 n t).0 stands) in
    omega (arith, below, c.in_ok-above.ensures.size, ap length c.deref.ensures.value)

pub put_above-requires-clause-parents : goal.put_above-requires-clause-parents
put_above-requires-clause-parents c =
    λ a b m.
    let stands : Contains (list_of (type_lists c.in_ok-above.above.items) a) b = subst (λ ls. Contains (list_of (type_lists ls) a) b) c.deref.ensures.value m in
    let below = second_within (λ p. (p.0.0, p.1.0)) c.args.parents.now c.args.types (λ k d k_lt. (c.requires.parents k d k_lt).1) a b ((c.in_ok-above.ensures.lists a b).0 stands) in
    omega (arith, below, c.in_ok-above.ensures.size, ap length c.deref.ensures.value)

pub put_above-requires-clause-members : goal.put_above-requires-clause-members
put_above-requires-clause-members c =
    λ t. subst (λ ls. AscendsBelow c.loop-number.number (list_of (object_lists ls) t)) (sym c.deref_mut.ensures.value) (c.loop-number.invariant.1.ascend t)

pub put-requires : goal.put-requires
put-requires c =
    let mid = c.put_above.new.members in
    let object = c.index_mut.result.now in
    let long : length mid ≡ c.loop-number.members.len = omega (arith, c.put_above.auto.members, c.deref_mut.ensures.len) in
    let mid_is = take_at mid (drop (length mid) c.loop-number.members.items) c.loop-number.members.len long in
    let some : 0 < length mid = omega (arith, c.put_above.auto.members, ap length c.deref_mut.ensures.value, c.loop-number.invariant.1.size, length-map c.loop-number.members.items (λ v. object_numbers v.items), c.requires.object) in
    let items : list_of (object_lists mid) 0 ≡ object_numbers object.items = at_map (λ o. o.0) mid 0 object some ∙ ap (λ v. object_numbers v.items) (sym (c.index_mut.ensures.value ∙ ap (λ ls. get_or ls 0 object) mid_is)) in
    subst (AscendsBelow (c.loop-number.number + 1)) items (c.in_ok-climb.ensures.members.ascend 0)

pub loop-number-preserved : goal.loop-number-preserved
loop-number-preserved c =
    let direct = c.loop-number.direct-1 in
    let above = c.in_ok-above.above.items in
    let n = c.loop-number.number in
    let old = c.loop-number.members.items in
    let mid = c.put_above.new.members in
    let new = c.put.new.list in
    let object = c.index_mut.result.now in
    let lt : n < c.args.objects = c.loop-number-test.true in
    let starts = starts_are direct n c.loop-number.waiting.items c.push_to.new.types.items c.loop-number.invariant.0 c.in_ok-push_to.ensures in
    let long : length mid ≡ c.loop-number.members.len = omega (arith, c.put_above.auto.members, c.deref_mut.ensures.len) in
    let mid_is = take_at mid (drop (length mid) old) c.loop-number.members.len long in
    let some : 0 < length mid = omega (arith, c.put_above.auto.members, ap length c.deref_mut.ensures.value, c.loop-number.invariant.1.size, length-map old (λ v. object_numbers v.items), c.requires.object) in
    let climbed = put_above_as _ (type_lists above) _ (list_of (direct_lists direct) n) n _ (object_lists old) (object_lists mid) (ap type_lists c.deref.ensures.value) starts (ap object_lists c.deref_mut.ensures.value) c.in_ok-climb.ensures.members in
    let put = object_put n mid object new c.in_ok-put.field-0 some (c.index_mut.ensures.value ∙ ap (λ ls. get_or ls 0 object) mid_is) c.in_ok-put.ensures in
    let next = next_object (typing c.args.types c.args.objects c.args.parents.now c.args.declared.now) (type_lists above) (direct_lists direct) (object_lists old) (object_lists mid) n c.in_ok-put.field-0 (object_numbers new.items)
    c.requires.object lt c.in_ok-above.ensures.lists c.loop-number.invariant.2 c.loop-number.invariant.1 climbed put in
    (c.in_ok-climb.ensures.waiting, subst (AreMembersBelow (n + 1) (typing c.args.types c.args.objects c.args.parents.now c.args.declared.now)) (sym (ap (λ ls. object_lists (set ls 0 new)) mid_is ∙ set_map (λ o. o.0) mid 0 new)) next, c.loop-number.invariant.2)

pub returns : goal.returns
returns c =
    let all : c.loop-number.number ≡ c.args.objects = omega (arith, c.loop-number-test.false, c.loop-number.auto.number-end) in
    subst (λ n. AreMembersBelow n (typing c.args.types c.args.objects c.args.parents.now c.args.declared.now) (object_lists c.loop-number.members.items)) all c.loop-number.invariant.1
