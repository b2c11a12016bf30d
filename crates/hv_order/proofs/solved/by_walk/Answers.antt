use Rattle.std.proofs.Common.{List, sym, subst}
use Rattle.hv_world.specs.WorldViews.{world_view}
use Rattle.hv_plan.specs.BuiltTrees.{tree_view}
use Rattle.hv_order.specs.inside.Writings.{AreWritable, SaysAll}
use Rattle.hv_order.specs.declared.certify.Chosen.{Chosen}
use Rattle.hv_order.proofs.PlanWalks.{all_stand, are_writable, certified, tree_over, writable_over, says_over}
use Rattle.hv_order.proofs.solved.by_walk.Goals as goal

pub choose-requires : goal.choose-requires
choose-requires c = all_stand c.args._nodes.now c.requires.setting c.args.stands.now c.requires.walked

pub write_certificate-requires-clause-tree : goal.write_certificate-requires-clause-tree
write_certificate-requires-clause-tree c =
    tree_over (world_view c.args.world.now) (tree_view c.args.tree.now) c.args._nodes.now c.requires.over c.requires.setting

pub write_certificate-requires-clause-chosen : goal.write_certificate-requires-clause-chosen
write_certificate-requires-clause-chosen c =
    let w = world_view c.args.world.now in
    let t = tree_view c.args.tree.now in
    let cs = c.in_ok-chosen.chosen.items in
    let P : List Chosen → Type 0 = λ xs. AreWritable w t xs in
    subst P (sym c.deref.ensures.value)
    (writable_over w t c.args._nodes.now c.requires.over cs
    (are_writable c.args._nodes.now c.requires.setting c.args.stands.now c.requires.walked cs c.in_ok-chosen.ensures))

pub returns : goal.returns
returns c =
    let w = world_view c.args.world.now in
    let t = tree_view c.args.tree.now in
    let cs = c.in_ok-chosen.chosen.items in
    let s = c.in_ok-certificate.certificate in
    let P : List Chosen → Type 0 = λ xs. SaysAll w t xs s in
    certified c.args._nodes.now c.requires.setting c.args.stands.now c.requires.walked cs c.in_ok-chosen.ensures s
    (says_over w t c.args._nodes.now c.requires.over cs s (subst P c.deref.ensures.value c.in_ok-certificate.ensures))
