use Rattle.std.proofs.Common.{◌≡◌}
use Rattle.hv_match.specs.inside.States.{IsState, to_come, steps_left}
use Rattle.hv_match.proofs.state.find.Given as goal

abbrev pub invariant-loop-at : goal.invariant-loop-at
invariant-loop-at g l =
    IsState (g.R.Rule.search l.rule).options (g.R.Rule.search l.rule).levels (g.R.Rule.search l.rule).distinct (g.R.Rule.search l.rule).width l.at
    × (to_come (g.R.Rule.search l.rule).options (g.R.Rule.search l.rule).good (g.R.Rule.search l.rule).levels l.at ≡ to_come (g.R.Rule.search l.rule).options (g.R.Rule.search l.rule).good (g.R.Rule.search l.rule).levels l.fn.at)

abbrev pub decreases-loop-at : goal.decreases-loop-at
decreases-loop-at g l = steps_left (g.R.Rule.search l.rule).options (g.R.Rule.search l.rule).levels l.at
