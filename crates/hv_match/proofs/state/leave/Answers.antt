use Rattle.std.proofs.Common.{◌∙◌, ◌≤◌, length, arith}
use Rattle.hv_match.proofs.Leaving.{one_branch_more}
use Rattle.hv_match.proofs.state.leave.Goals as goal

pub loop-at-preserved : goal.loop-at-preserved
loop-at-preserved g c =
    let before = c.loop-at.invariant in
    let long : c.args.count ≤ length c.loop-at.at.chosen.items = omega (arith, c.if-count-len.true, c.len.ensures) in
    let front = before.2 long in (
      c.back.ensures.place,
      one_branch_more (g.R.Rule.search c.args.rule.now) c.args.count c.args.at.now c.loop-at.at c.back.new.at before.1 c.back.ensures.coming long front,
      λ le. c.back.ensures.front c.args.count le ∙ front,
    )
