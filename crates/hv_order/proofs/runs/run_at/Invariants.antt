use Rattle.std.proofs.Common.{◌+◌, ◌-◌, ◌≡◌, ◌<◌, ◌≤◌, ℕ, length}
use Rattle.hv_order.specs.LeastFinishes.{HasDigits}
use Rattle.hv_order.specs.inside.Runs.{AreBefore, Reaches}
use Rattle.hv_order.proofs.runs.run_at.Given as goal

-- as many binary digits as the rest has, with those of the runs looked at, the number of all has
abbrev pub invariant-loop-low : goal.invariant-loop-low
invariant-loop-low l = record {
  order : l.low ≤ l.high;
  within : l.high ≤ length l.runs;
  behind : AreBefore l.runs l.low l.start;
  here : l.high < length l.runs → Reaches l.runs l.high l.start;
  digits : (k : ℕ) → HasDigits (l.high - l.low) k → HasDigits (length l.runs) (l.looked + k);
  begun : l.looked ≡ 0 → length l.runs ≤ l.high - l.low;
}

abbrev pub decreases-loop-low : goal.decreases-loop-low
decreases-loop-low l = l.high - l.low
