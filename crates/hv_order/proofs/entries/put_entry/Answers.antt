use Rattle.std.proofs.Common.{ℕ, true, List, [], map, subst}
use Rattle.hv_text.specs.declared.name.Name.{Name}
use Rattle.hv_world.specs.Bindings.{object_number}
use Rattle.hv_world.specs.WorldViews.{world_view}
use Rattle.hv_world.specs.declared.id.ObjectId.{ObjectId}
use Rattle.hv_plan.specs.BuiltTrees.{tree_view}
use Rattle.hv_plan.specs.TreeViews.{child_view, node_view}
use Rattle.hv_match.specs.Candidates.{Tells, IsCandidateAt}
use Rattle.hv_order.specs.Settings.{setting, HoldsAt}
use Rattle.hv_order.specs.inside.Checks.{AreObjectsOf, ArePlacesOf}
use Rattle.hv_order.specs.inside.PlanFacts.{OfMethod}
use Rattle.hv_order.proofs.EntryRights.{all_have_ids, unknown, known, no_candidate, by_truth}
use Rattle.hv_order.proofs.ToldApart.{told_apart}
use Rattle.hv_order.proofs.entries.put_entry.Goals as goal

pub returns-then-not-branch-clause-entry : goal.returns-then-not-branch-clause-entry
returns-then-not-branch-clause-entry c =
    let w = world_view c.args.world.now in
    let os = c.put_objects.new.objects.items in
    let on = c.in_ok-put_objects.field-0 in
    let P : List Name → Type 0 = λ names. AreObjectsOf w names os on in
    unknown w (tree_view c.args.tree.now) c.args.node c.args.said.at c.args.said.choice.now c.args.trace.now c.requires.trace os on
    (subst P c.deref.ensures.value c.in_ok-put_objects.ensures) c.if-not-branch.true []

pub put_places-requires-clause-ids : goal.put_places-requires-clause-ids
put_places-requires-clause-ids c =
    all_have_ids (world_view c.args.world.now) (tree_view c.args.tree.now) c.requires.tree c.args.node (node_view c.node_of.result) (map child_view c.children-children.result.now)
    c.node_of.ensures c.children-children.ensures

pub put_places-requires-clause-apart : goal.put_places-requires-clause-apart
put_places-requires-clause-apart c =
    told_apart (world_view c.args.world.now) (tree_view c.args.tree.now) c.requires.tree c.args.node (node_view c.node_of.result) (map child_view c.children-children.result.now)
    c.node_of.ensures c.children-children.ensures

pub returns-then-not-branch-2-clause-entry : goal.returns-then-not-branch-2-clause-entry
returns-then-not-branch-2-clause-entry c =
    let w = world_view c.args.world.now in
    let t = tree_view c.args.tree.now in
    let s = c.args.said.choice.now in
    let xs = map child_view c.children-children.result.now in
    let ps = c.put_places.new.places.items in
    let os = c.put_objects.new.objects.items in
    let b = c.in_ok-is_candidate.field-0 in
    let O : List Name → Type 0 = λ names. AreObjectsOf w names os c.in_ok-put_objects.field-0 in
    let P : List ℕ → Type 0 = λ is. ArePlacesOf t xs is ps in
    let Q : List ℕ → Type 0 = λ M. Tells (IsCandidateAt w t c.args.node M (map object_number c.deref-4.result.now)) b in
    let R : List ObjectId → Type 0 = λ B. Tells (IsCandidateAt w t c.args.node ps (map object_number B)) b in
    no_candidate w t c.args.node c.args.said.at s c.is_sound.ensures (node_view c.node_of.result) c.node_of.ensures xs c.children-children.ensures
    os (known w t c.args.node c.args.said.at s os c.in_ok-put_objects.field-0 (subst O c.deref.ensures.value c.in_ok-put_objects.ensures) c.if-not-branch.false)
    ps (subst P c.deref-2.ensures.value c.in_ok-put_places.ensures) c.args.trace.now c.requires.trace
    b (subst R c.deref-4.ensures.value (subst Q c.deref-3.ensures.value c.in_ok-is_candidate.ensures)) c.if-not-branch-2.true []

pub returns-clause-entry : goal.returns-clause-entry
returns-clause-entry c =
    let w = world_view c.args.world.now in
    let t = tree_view c.args.tree.now in
    let q = setting t c.args.trace.now true in
    let s = c.args.said.choice.now in
    let xs = map child_view c.children-children.result.now in
    let ps = c.put_places.new.places.items in
    let os = c.put_objects.new.objects.items in
    let b = c.in_ok-is_candidate.field-0 in
    let O : List Name → Type 0 = λ names. AreObjectsOf w names os c.in_ok-put_objects.field-0 in
    let P : List ℕ → Type 0 = λ is. ArePlacesOf t xs is ps in
    let Q : List ℕ → Type 0 = λ M. Tells (IsCandidateAt w t c.args.node M (map object_number c.deref-4.result.now)) b in
    let R : List ObjectId → Type 0 = λ B. Tells (IsCandidateAt w t c.args.node ps (map object_number B)) b in
    let S : List ObjectId → Type 0 = λ B. Tells (OfMethod q c.args.node (λ m. HoldsAt q m (map object_number B) c.args.said.at)) c.holds.result in
    by_truth w t c.args.node c.args.said.at s c.is_sound.ensures (node_view c.node_of.result) c.node_of.ensures xs c.children-children.ensures
    os (known w t c.args.node c.args.said.at s os c.in_ok-put_objects.field-0 (subst O c.deref.ensures.value c.in_ok-put_objects.ensures) c.if-not-branch.false)
    ps (subst P c.deref-2.ensures.value c.in_ok-put_places.ensures) c.args.trace.now c.requires.trace
    b c.holds.result (subst R c.deref-4.ensures.value (subst Q c.deref-3.ensures.value c.in_ok-is_candidate.ensures)) c.if-not-branch-2.false
    (subst S c.deref-5.ensures.value c.holds.ensures.holds)
