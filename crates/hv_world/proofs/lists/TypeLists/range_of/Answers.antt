use Rattle.std.proofs.Common.{◌≡◌, ◌<◌, ◌↔◌, ◌∙◌, arith, length, refl, sym, ap, subst}
use Rattle.std.specs.List.{Contains}
use Rattle.std.specs.List.Sorted.{IsStrictlyIncreasing}
use Rattle.hv_world.specs.Types.{Of, object_numbers}
use Rattle.hv_world.specs.inside.TypeLists.{list_of, object_lists}
use Rattle.hv_world.proofs.LineLemmas.{nothing_of}
use Rattle.hv_world.proofs.RangeLemmas.{range_once}
use Rattle.hv_world.proofs.TypeLemmas.{at_map, base_in, listed}
use Rattle.hv_world.proofs.lists.TypeLists.range_of.Goals as goal

pub ascending-requires : goal.ascending-requires
ascending-requires c =
    let lists = c.args.self.now.lists.items in
    let b = c.in-Some.base.now.0 in
    let item = rw c.deref-2.ensures.value at c.in-Some-get.ensures.lookup in
    let lt : b < length lists = item.3.0 in
    let is : list_of (object_lists lists) b ≡ object_numbers c.deref-3.result.now =
    at_map (λ o. o.0) lists b c.in-Some-get.objects.now lt ∙ ap (λ v. object_numbers v.items) (sym item.1) ∙ ap object_numbers (sym c.deref-3.ensures.value) in
    subst IsStrictlyIncreasing is (c.args.self.now.ascend b)

pub returns-in_default-get : goal.returns-in_default-get
returns-in_default-get c = λ w shared.
    let bases = c.args.self.now.bases.items in
    let lists = c.args.self.now.lists.items in
    let base = rw c.deref.ensures.value at c.in-Some.ensures.lookup in
    let none = rw c.deref-2.ensures.value at c.in_default-get.ensures.lookup in
    nothing_of w c.none-in_default-get.result c.args.of.0 c.none-in_default-get.ensures
    (λ lt. let within = (base_in w bases lists c.args.of.0 c.in-Some.base.now shared base.3.0 base.1).2 in omega (arith, within, none))

pub returns : goal.returns
returns c = λ w shared.
    let bases = c.args.self.now.bases.items in
    let lists = c.args.self.now.lists.items in
    let base = rw c.deref.ensures.value at c.in-Some.ensures.lookup in
    let item = rw c.deref-2.ensures.value at c.in-Some-get.ensures.lookup in
    let facts = listed w w bases lists lists c.args.of.0 c.in-Some.base.now c.in-Some-get.objects.now c.deref-3.result.now shared refl base.3.0 base.1 refl item.1 c.deref-3.ensures.value in
    record { exact = λ o. subst (λ os. Contains os o ↔ Of w o c.args.of.0) (sym c.ascending.ensures) (facts.0 o); once = range_once c.ascending.result }
