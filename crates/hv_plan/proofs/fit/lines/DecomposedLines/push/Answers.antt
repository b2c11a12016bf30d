use Rattle.std.proofs.Common.{◌∙◌}
use Rattle.hv_plan.specs.inside.FitViews.{headed}
use Rattle.hv_lists.specs.Lists.{with_lists}
use Rattle.hv_lists.proofs.Heads.{with_more}
use Rattle.hv_plan.proofs.fit.lines.DecomposedLines.push.Goals as goal

pub returns-clause-lines : goal.returns-clause-lines
returns-clause-lines c =
    let ls = c.args.self.now in
    let listed = rw c.deref.ensures.value at c.in_ok-push.ensures.lists in
    (λ i. with_lists headed (c.in_ok-push-2.ensures.items i) (listed i))
    ∙ with_more headed ls.heads.items ls.objects _ c.args.line.now.objects.items c.requires.as_many
