use Rattle.std.proofs.Common.{◌+◌, ◌-◌, ◌++◌, ◌≤◌, length, List}
use Rattle.hv_order.specs.inside.Runs.{IsRow, AreApart}
use Rattle.hv_order.specs.declared.trial.Run.{Run}
use Rattle.hv_order.proofs.runs.make_runs.Given as goal

-- what the rest comes to, the whole row does
abbrev pub invariant-loop-start : goal.invariant-loop-start
invariant-loop-start g l = record {
  within : l.start ≤ l.last + 1;
  rest : (rest : List Run) → IsRow ((g.N.Nodes.facts l.nodes).fits (length l.rows)) l.last l.start rest → IsRow ((g.N.Nodes.facts l.nodes).fits (length l.rows)) l.last 0 (l.runs.items ++ rest);
  apart : AreApart l.runs.items;
}

abbrev pub decreases-loop-start : goal.decreases-loop-start
decreases-loop-start g l = l.last + 1 - l.start
