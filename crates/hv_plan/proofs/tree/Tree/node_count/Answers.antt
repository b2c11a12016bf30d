use Rattle.std.proofs.Common.{arith}
use Rattle.hv_plan.specs.inside.FitViews.{decomposed_lines}
use Rattle.hv_plan.specs.inside.ShapeViews.{shape_view}
use Rattle.hv_plan.proofs.AssemblyLemmas.{as_many_nodes}
use Rattle.hv_plan.proofs.tree.Tree.node_count.Goals as goal

pub returns : goal.returns
returns c =
    let r = c.args.self.now.root_line in
    let os = c.args.self.now.line_origins.items in
    let s = shape_view c.args.self.now.shape in
    omega (arith, as_many_nodes r os s (decomposed_lines c.args.self.now.said), c.args.self.now.shape.last)
