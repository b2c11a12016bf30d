use Rattle.std.proofs.Common.{◌≡◌, ◌++◌, drop}
use Rattle.hv_state.proofs.rows.push_numbers.Given as goal

-- the numbers so far, and what is left
abbrev pub invariant-loop-number : goal.invariant-loop-number
invariant-loop-number l = l.row.items ++ drop l.number-index l.numbers ≡ l.fn.row.items ++ l.numbers
