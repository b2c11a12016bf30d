use Rattle.std.proofs.Common.{◌≡◌, ◌<◌, ℕ, List, length, map, get_or, sym, ◌∙◌, subst, arith}
use Rattle.std.proofs.lemmas.List.{get_or-map}
use Rattle.std.proofs.lemmas.List.Elements.{All-contains, All-map, Contains-get_or}
use Rattle.std.specs.List.{All}
use Rattle.hv_lists.proofs.Contained.{mem_map}
use Rattle.hv_world.specs.declared.id.TypeId.{TypeId}
use Rattle.hv_world.specs.inside.TypeLists.{list_of, type_numbers, object_lists}
use Rattle.hv_world.specs.inside.Bases.{AreContracted}
use Rattle.hv_world.proofs.TypeLemmas.{increasing_from}
use Rattle.hv_world.proofs.lists.TypeLists.new.Goals as goal

abbrev numbers : TypeId × TypeId → ℕ × ℕ
numbers p = (p.0.0, p.1.0)

-- the pairs that are left are of types that there are
still_within : (types : ℕ) (parents pairs : List (TypeId × TypeId)) (bases : List TypeId) → length bases ≡ types → All (λ p. (p.0.0 < types) × (p.1.0 < types)) parents
    → All (λ t. t.0 < types) bases → AreContracted (map numbers parents) (type_numbers bases) (map numbers pairs) → All (λ p. (p.0.0 < types) × (p.1.0 < types)) pairs
still_within types parents pairs bases size within small contracted k d lt =
    let pair = get_or pairs k d in
    let (child, has, is, own) = (contracted pair.0.0 pair.1.0).0 (mem_map numbers pairs pair (Contains-get_or pairs k d lt)) in
    let both = All-contains (λ q. (q.0 < types) × (q.1 < types)) (map numbers parents) (child, pair.1.0) (All-map (λ q. (q.0 < types) × (q.1 < types)) numbers parents within) has in
    let child_in : child < length bases = omega (arith, both.0, size) in
    let base : (get_or bases child (record { 0 = 0 })).0 ≡ pair.0.0 = sym (get_or-map (λ (t : TypeId). t.0) bases child (record { 0 = 0 }) 0 child_in) ∙ is in
    (subst (λ n. n < types) base (small child (record { 0 = 0 }) child_in), both.1)

pub members-requires-clause-parents : goal.members-requires-clause-parents
members-requires-clause-parents c =
    let bases = c.in_ok-bases.bases.items in
    let contracted = rw (c.deref.ensures.value) at c.in_ok-pairs.ensures in
    subst (All (λ p. (p.0.0 < c.args.types) × (p.1.0 < c.args.types))) (sym c.deref-2.ensures.value)
    (still_within c.args.types c.args.parents.now c.in_ok-pairs.pairs.items bases c.in_ok-bases.ensures.size c.requires.parents c.in_ok-bases.ensures.within contracted)

pub invariant_of-result : goal.invariant_of-result
invariant_of-result c = record { ascend = λ t. increasing_from (list_of (object_lists c.in_ok-lists.lists.items) t) (c.in_ok-lists.ensures.ascend t).0 }

pub returns : goal.returns
returns c =
    let contracted = rw (c.deref.ensures.value) at c.in_ok-pairs.ensures in
    let members = rw (c.deref-2.ensures.value) at c.in_ok-lists.ensures in
    c.in_ok-bases.ensures.shared (map numbers c.in_ok-pairs.pairs.items) (object_lists c.in_ok-lists.lists.items) contracted members
