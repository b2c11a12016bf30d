use Rattle.std.proofs.Common.{◌∙◌, Some, sym}
use Rattle.hv_plan.specs.inside.FitViews.{headed}
use Rattle.hv_lists.proofs.Heads.{with_at}
use Rattle.hv_plan.proofs.fit.lines.DecomposedLines.at.Goals as goal

pub returns : goal.returns
returns c =
    let ls = c.args.self.now in
    with_at headed ls.heads.items ls.objects c.args.place c.index-head.result.now c.requires c.index-head.ensures
    ∙ (λ i. Some (headed c.index-head.result.now (sym c.at.ensures i)))
