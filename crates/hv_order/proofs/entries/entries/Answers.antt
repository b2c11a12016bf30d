use Rattle.std.proofs.Common.{ℕ, List, arith, refl, true, subst, sym}
use Rattle.std.specs.Prelude.{slice_index}
use Rattle.hv_world.specs.WorldViews.{world_view}
use Rattle.hv_plan.specs.BuiltTrees.{tree_view}
use Rattle.hv_order.specs.Settings.{setting}
use Rattle.hv_order.specs.inside.Checks.{IsEntryFor}
use Rattle.hv_order.proofs.EntryRights.{place_there, entry_more, wrong_entry}
use Rattle.hv_order.proofs.entries.entries.Goals as goal

pub said_at-said-requires : goal.said_at-said-requires
said_at-said-requires c =
    place_there (world_view c.args.world.now) (tree_view c.args.tree.now) c.requires.tree c.args.certificate.now c.args.places.now c.loop-node.node c.requires.lines c.requires.places
    (omega (arith, c.loop-node-test.true, c.node_count-node-end.ensures))

pub returns-then-not-branch-clause-wrong : goal.returns-then-not-branch-clause-wrong
returns-then-not-branch-clause-wrong c =
    wrong_entry (setting (tree_view c.args.tree.now) c.args.trace.now true) c.args.certificate.now c.args.places.now c.loop-node.node c.said_at-said.result.at (slice_index c.args.places.now c.loop-node.node)
    c.said_at-said.result.choice.now c.put_entry.new.room.places.items c.in_ok-put_entry.field-0 (omega (arith, c.loop-node-test.true, c.node_count-node-end.ensures)) refl c.said_at-said.ensures
    c.in_ok-put_entry.ensures.entry c.if-not-branch.true

pub loop-node-preserved : goal.loop-node-preserved
loop-node-preserved c =
    let q = setting (tree_view c.args.tree.now) c.args.trace.now true in
    let P : List ℕ → Type 0 = λ M. IsEntryFor q c.loop-node.node c.said_at-said.result.at c.said_at-said.result.choice.now M c.in_ok-put_entry.field-0 in
    rw (c.in_ok-push.ensures.matchings, c.in_ok-push.ensures.starts) (
      entry_more q c.args.certificate.now c.args.places.now c.loop-node.entries.matchings c.loop-node.entries.starts.items c.loop-node.node c.said_at-said.result.at
          c.said_at-said.result.choice.now c.deref.result.now c.in_ok-put_entry.field-0 c.said_at-said.ensures (subst P (sym c.deref.ensures.value) c.in_ok-put_entry.ensures.entry) c.if-not-branch.false
          c.loop-node.invariant.0,
      c.in_ok-put_entry.ensures.counted.whole c.if-not-branch.false,
    )
