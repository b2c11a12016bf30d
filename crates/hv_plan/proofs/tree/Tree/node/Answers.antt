use Rattle.std.proofs.Common.{sym, arith}
use Rattle.hv_plan.specs.inside.FitViews.{decomposed_lines}
use Rattle.hv_plan.specs.inside.ShapeViews.{shape_view}
use Rattle.hv_plan.proofs.AssemblyLemmas.{node_here, no_node_behind}
use Rattle.hv_plan.proofs.tree.Tree.node.Goals as goal

pub returns-then-node-self : goal.returns-then-node-self
returns-then-node-self c =
    let r = c.args.self.now.root_line in
    let os = c.args.self.now.line_origins.items in
    let s = shape_view c.args.self.now.shape in
    let made = rw c.place_of.ensures at c.node_of_place.ensures in
    let here = node_here r os s (decomposed_lines c.args.self.now.said) c.args.node (omega (arith, c.if-node-self.true, c.args.self.now.shape.last)) in
    cc (made, here)

pub returns-else-node-self : goal.returns-else-node-self
returns-else-node-self c =
    let r = c.args.self.now.root_line in
    let os = c.args.self.now.line_origins.items in
    let s = shape_view c.args.self.now.shape in
    sym (no_node_behind r os s (decomposed_lines c.args.self.now.said) c.args.node (omega (arith, c.if-node-self.false, c.args.self.now.shape.last)))
