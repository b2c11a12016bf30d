use Rattle.std.proofs.Common.{sym, ◌∙◌}
use Rattle.hv_match.proofs.Steps.{held_no, held_yes}
use Rattle.hv_match.proofs.puzzle.all_hold.Goals as goal

pub returns-then-not-holds : goal.returns-then-not-holds
returns-then-not-holds c =
    sym (c.loop-constraint.invariant ∙ held_no c.args.values.now c.args.constraints.now c.loop-constraint.constraint-index _ c.loop-constraint-test.true c.holds.result c.holds.ensures c.if-not-holds.true)

pub loop-constraint-preserved : goal.loop-constraint-preserved
loop-constraint-preserved c =
    c.loop-constraint.invariant ∙ held_yes c.args.values.now c.args.constraints.now c.loop-constraint.constraint-index _ c.loop-constraint-test.true c.holds.result c.holds.ensures c.if-not-holds.false
