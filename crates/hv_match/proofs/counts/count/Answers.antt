use Rattle.std.proofs.Common.{◌≡◌, ◌-◌, ◌^◌, min}
use Rattle.hv_plan.specs.BuiltTrees.{tree_view}
use Rattle.hv_plan.specs.TreeViews.{node_view}
use Rattle.hv_match.proofs.NodeTables.{count_at}
use Rattle.hv_match.proofs.counts.count.Goals as goal

pub returns : goal.returns
returns c =
    count_at c.args.matcher.now (tree_view c.args.tree.now) c.args.node (node_view c.node_and_table.result.0) c.node_and_table.result.1.now (λ k. c.or_greatest.result ≡ min k (2 ^ 64 - 1)) c.node_and_table.ensures.node c.node_and_table.ensures.table c.or_greatest.ensures
