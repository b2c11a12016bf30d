use Rattle.std.proofs.Common.{◌∙◌, ap, map}
use Rattle.hv_plan.specs.TreeViews.{child_view}
use Rattle.hv_plan.proofs.ChildLemmas.{list_or_none}
use Rattle.hv_plan.proofs.tree.Tree.children_of.Goals as goal

pub returns : goal.returns
returns c = ap (map child_view) c.at.ensures ∙ list_or_none c.args.self.now.shape.children c.args.node
