use Rattle.std.proofs.Common.{option_map}
use Rattle.hv_state.specs.Ever.{ever_rows}
use Rattle.hv_plan.specs.BuiltTrees.{tree_view}
use Rattle.hv_plan.specs.TreeViews.{node_view}
use Rattle.hv_match.proofs.NodeTables.{listing_at}
use Rattle.hv_match.proofs.candidates.Candidates.new.Goals as goal

pub returns-clause-exact : goal.returns-clause-exact
returns-clause-exact c =
    (listing_at c.args.matcher.now (tree_view c.args.tree.now) c.args.node (node_view c.node_and_table.result.0) c.node_and_table.result.1.now (option_map ever_rows c.args.ever) c.in_ok-candidates.candidates c.node_and_table.ensures.node c.node_and_table.ensures.table c.in_ok-candidates.ensures).exact

pub returns-clause-once : goal.returns-clause-once
returns-clause-once c =
    (listing_at c.args.matcher.now (tree_view c.args.tree.now) c.args.node (node_view c.node_and_table.result.0) c.node_and_table.result.1.now (option_map ever_rows c.args.ever) c.in_ok-candidates.candidates c.node_and_table.ensures.node c.node_and_table.ensures.table c.in_ok-candidates.ensures).once

pub returns-clause-few : goal.returns-clause-few
returns-clause-few c =
    (listing_at c.args.matcher.now (tree_view c.args.tree.now) c.args.node (node_view c.node_and_table.result.0) c.node_and_table.result.1.now (option_map ever_rows c.args.ever) c.in_ok-candidates.candidates c.node_and_table.ensures.node c.node_and_table.ensures.table c.in_ok-candidates.ensures).few
