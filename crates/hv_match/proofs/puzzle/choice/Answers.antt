use Rattle.hv_match.proofs.Steps.{range_choice}
use Rattle.hv_match.proofs.puzzle.choice.Goals as goal

pub returns-then-number-range-clause-choice : goal.returns-then-number-range-clause-choice
returns-then-number-range-clause-choice c =
    let os = c.args.range.now in
    let n = c.args.number in
    let r = range_choice os n (record { 0 = 0 }) c.if-number-range.true in
    rw c.in-None.is r
