use Rattle.std.proofs.Common.{◌↔◌, ◌<◌, IsTrue}
use Rattle.hv_plan.specs.BuiltTrees.{tree_view}
use Rattle.hv_plan.specs.TreeViews.{node_view}
use Rattle.hv_match.proofs.NodeTables.{count_at}
use Rattle.hv_match.proofs.counts.exceeds.Goals as goal

pub returns : goal.returns
returns c =
    count_at c.args.matcher.now (tree_view c.args.tree.now) c.args.node (node_view c.node_and_table.result.0) c.node_and_table.result.1.now (λ k. IsTrue c.is_greater.result ↔ (c.args.limit < k)) c.node_and_table.ensures.node c.node_and_table.ensures.table c.is_greater.ensures
