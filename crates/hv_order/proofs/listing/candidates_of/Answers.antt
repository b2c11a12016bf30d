use Rattle.std.proofs.Common.{refl, option_map}
use Rattle.hv_state.specs.Ever.{ever_rows}
use Rattle.hv_plan.specs.BuiltTrees.{tree_view}
use Rattle.hv_plan.specs.TreeViews.{node_view}
use Rattle.hv_order.proofs.Blocked.{placings_of}
use Rattle.hv_order.proofs.Sequenced.{lists_all}
use Rattle.hv_order.proofs.listing.candidates_of.Goals as goal

pub returns : goal.returns
returns c =
    lists_all c.args.matcher.now (tree_view c.args.tree.now) c.args.number (node_view c.node_of-node.result) (option_map ever_rows c.args.ever) _ c.node_of-node.ensures
    c.requires.sequencing c.requires.spans refl c.children.ensures c.in_ok-new.ensures.exact

pub invariant_of-result : goal.invariant_of-result
invariant_of-result c = record {
  placings = placings_of c.args.matcher.now (tree_view c.args.tree.now) c.args.number (node_view c.node_of-node.result) (option_map ever_rows c.args.ever) c.in_ok-new.field-0 c.children.result.now c.node_of-node.ensures c.children.ensures c.in_ok-new.ensures.exact;
}
