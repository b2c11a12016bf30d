use Rattle.std.proofs.Common.{sym}
use Rattle.hv_plan.specs.BuiltTrees.{tree_view}
use Rattle.hv_plan.specs.TreeViews.{node_view}
use Rattle.hv_match.proofs.NodeLemmas.{has_node, no_method}
use Rattle.hv_match.proofs.matcher.Matcher.node_and_table.Goals as goal

pub unreachable-requires : goal.unreachable-requires
unreachable-requires c =
    no_method c.args.self.now (tree_view c.args.tree.now) c.requires.tree c.args.node (node_view c.in-Some.node) c.requires.node (sym c.in-Some.ensures) c.in-None-node_table.ensures

pub unreachable-requires-in-None : goal.unreachable-requires-in-None
unreachable-requires-in-None c = has_node c.args.self.now (tree_view c.args.tree.now) c.requires.tree c.args.node c.requires.node (sym c.in-None.ensures)
