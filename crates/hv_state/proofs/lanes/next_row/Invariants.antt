use Rattle.std.proofs.Common.{◌≡◌, ◌≤◌, ◌++◌, ◌-◌, length, take, drop}
use Rattle.hv_state.specs.Words.{next_words}
use Rattle.hv_state.proofs.lanes.next_row.Given as goal

-- the words so far are the next ones, and the others are as they were
abbrev pub invariant-lanes : goal.invariant-lanes
invariant-lanes l =
    (l.at ≤ length l.row)
    × (l.row ≡ next_words (take l.at l.fn.row) (take l.at l.deletes) (take l.at l.adds) ++ drop l.at l.fn.row)

abbrev pub decreases-lanes : goal.decreases-lanes
decreases-lanes l = length l.row - l.at

abbrev pub invariant-rest : goal.invariant-rest
invariant-rest l =
    (l.at ≤ length l.row)
    × (l.row ≡ next_words (take l.at l.fn.row) (take l.at l.deletes) (take l.at l.adds) ++ drop l.at l.fn.row)

abbrev pub decreases-rest : goal.decreases-rest
decreases-rest l = length l.row - l.at
