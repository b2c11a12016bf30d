use Rattle.std.proofs.Common.{◌≡◌, true}
use Rattle.hv_plan.specs.BuiltTrees.{tree_view}
use Rattle.hv_order.specs.Settings.{setting}
use Rattle.hv_order.specs.inside.Checks.{lines_among}
use Rattle.hv_order.proofs.EntryRights.{AreFirstEntries}
use Rattle.hv_order.proofs.entries.entries.Given as goal

abbrev pub invariant-loop-node : goal.invariant-loop-node
invariant-loop-node l =
    AreFirstEntries (setting (tree_view l.tree) l.trace true) l.certificate l.places
    l.entries.matchings l.entries.starts.items l.node
    × (l.evaluated ≡ lines_among (tree_view l.tree) l.node)
