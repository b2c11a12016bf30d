use Rattle.std.proofs.Common.{◌≡◌, ◌≤◌, length, take}
use Rattle.hv_match.specs.inside.States.{IsPlaceIn, LeavesOut, steps_left}
use Rattle.hv_match.proofs.state.leave.Given as goal

abbrev pub invariant-loop-at : goal.invariant-loop-at
invariant-loop-at g l =
    IsPlaceIn (g.R.Rule.search l.rule) l.at × LeavesOut (g.R.Rule.search l.rule) l.count l.fn.at l.at
    × (l.count ≤ length l.at.chosen.items → take l.count l.at.chosen.items ≡ take l.count l.fn.at.chosen.items)

abbrev pub decreases-loop-at : goal.decreases-loop-at
decreases-loop-at g l = steps_left (g.R.Rule.search l.rule).options (g.R.Rule.search l.rule).levels l.at
