use Rattle.std.proofs.Common.{◌∙◌}
use Rattle.hv_plan.specs.LineViews.{lines_of}
use Rattle.hv_plan.proofs.LineLists.{line_more}
use Rattle.hv_plan.proofs.plan.decompositions.DecompositionLines.push.Goals as goal

pub returns-clause-lines : goal.returns-clause-lines
returns-clause-lines c =
    let ds = c.args.self.now in
    let line = c.args.line in
    (λ i. lines_of (c.in_ok-push-3.ensures.items i) (c.in_ok-push.ensures.lists i) (c.in_ok-push-2.ensures.lists i))
    ∙ line_more ds.heads.items ds.arguments ds.children _ line.arguments.now line.children.now c.requires.as_many_arguments c.requires.as_many_children
