use Rattle.std.proofs.Common.{◌≡◌, ◌<◌, arith, length, ap, sym, ◌∙◌, rules}
use Rattle.std.proofs.lemmas.List.{length-map}
use Rattle.hv_world.specs.Types.{object_numbers}
use Rattle.hv_world.specs.inside.TypeLists.{type_numbers, type_lists, object_lists, list_of}
use Rattle.hv_world.proofs.TypeLemmas.{climbing_begins, all_climbed, in_members, ascends_at, goes_on, passes, less_to_climb, as_much_to_climb, at_map}
use Rattle.hv_world.proofs.lists.put_above.Goals as goal

pub climb-init : goal.climb-init
climb-init c =
    let long = length-map c.args.members.now (λ v. object_numbers v.items) in
    climbing_begins _ _ _ _ (λ t m. omega (arith, c.requires.waiting t m, c.requires.size, long)) c.requires.members

pub offset_bounds-members-at : goal.offset_bounds-members-at
offset_bounds-members-at c = let lt = in_members _ _ _ _ _ _ _ c.in-Some.at c.climb.invariant c.in-Some.ensures.items in search rules

pub bounds-members-at : goal.bounds-members-at
bounds-members-at c = in_members _ _ _ _ _ _ _ c.in-Some.at c.climb.invariant c.in-Some.ensures.items

pub put-requires : goal.put-requires
put-requires c = ascends_at _ _ _ _ _ _ _ c.in-Some.at c.climb.invariant c.in-Some.ensures.items c.index-members-at.result c.index-members-at.result

pub offset_bounds-parents-at : goal.offset_bounds-parents-at
offset_bounds-parents-at c =
    let lt : c.in-Some.at.0 < length c.args.parents.now = omega (arith, in_members _ _ _ _ _ _ _ c.in-Some.at c.climb.invariant c.in-Some.ensures.items, c.requires.size, c.climb.auto.members) in
    search rules

pub bounds-parents-at : goal.bounds-parents-at
bounds-parents-at c = omega (arith, in_members _ _ _ _ _ _ _ c.in-Some.at c.climb.invariant c.in-Some.ensures.items, c.requires.size, c.climb.auto.members)

pub climb-smaller-in-Continue-branch-2 : goal.climb-smaller-in-Continue-branch-2
climb-smaller-in-Continue-branch-2 c =
    let ps = c.args.parents.now in
    let at = c.in-Some.at in
    let size : length (type_lists ps) ≡ length (object_lists c.args.members.now) = length-map ps (λ v. type_numbers v.items) ∙ c.requires.size ∙ sym (length-map c.args.members.now (λ v. object_numbers v.items)) in
    let lt : at.0 < length ps = omega (arith, in_members _ _ _ _ _ _ _ at c.climb.invariant c.in-Some.ensures.items, c.requires.size, c.climb.auto.members) in
    let less = less_to_climb _ _ _ _ _ _ _ at c.climb.invariant c.in-Some.ensures.items c.index-members-at.result c.put.new.list c.in_ok-put.field-0 c.if-branch.true c.in_ok-put.ensures size in
    let above : type_numbers c.deref.result.now ≡ list_of (type_lists ps) at.0 =
    ap type_numbers c.deref.ensures.value ∙ ap (λ v. type_numbers v.items) c.index-parents-at.is ∙ sym (at_map (λ t. t.0) ps at.0 _ lt) in
    omega (arith, less, c.in-Some.ensures.len, c.in_ok-push_all.ensures.len, ap length above, length-map c.deref.result.now (λ t. t.0))

pub climb-preserved-in-Continue-branch-2 : goal.climb-preserved-in-Continue-branch-2
climb-preserved-in-Continue-branch-2 c =
    let ps = c.args.parents.now in
    let at = c.in-Some.at in
    let lt : at.0 < length ps = omega (arith, in_members _ _ _ _ _ _ _ at c.climb.invariant c.in-Some.ensures.items, c.requires.size, c.climb.auto.members) in
    let above : type_numbers c.deref.result.now ≡ list_of (type_lists ps) at.0 =
    ap type_numbers c.deref.ensures.value ∙ ap (λ v. type_numbers v.items) c.index-parents-at.is ∙ sym (at_map (λ t. t.0) ps at.0 _ lt) in
    let long = length-map c.args.members.now (λ v. object_numbers v.items) in
    rw (c.in_ok-push_all.ensures.items)
    (goes_on _ _ _ _ _ _ _ at c.climb.invariant c.in-Some.ensures.items c.index-members-at.result c.put.new.list c.in_ok-put.field-0 c.if-branch.true c.in_ok-put.ensures c.deref.result.now above
    (λ t m. omega (arith, c.requires.parents at.0 t m, c.requires.size, long)))

pub climb-smaller : goal.climb-smaller
climb-smaller c =
    let same = as_much_to_climb _ _ _ _ _ _ _ c.in-Some.at c.climb.invariant c.in-Some.ensures.items c.index-members-at.result c.put.new.list c.in_ok-put.field-0 c.if-branch.false c.in_ok-put.ensures in
    omega (arith, same, c.in-Some.ensures.len)

pub climb-preserved : goal.climb-preserved
climb-preserved c =
    passes _ _ _ _ _ _ _ c.in-Some.at c.climb.invariant c.in-Some.ensures.items c.index-members-at.result c.put.new.list c.in_ok-put.field-0 c.if-branch.false c.in_ok-put.ensures

pub returns-clause-members : goal.returns-clause-members
returns-clause-members c =
    let none : length c.climb.waiting.items ≡ 0 = omega (arith, c.in_default.ensures.cases, ap length c.in_default.ensures.items) in
    all_climbed _ _ _ _ _ c.climb.waiting.items none c.climb.invariant
