use Rattle.std.proofs.Common.{◌≡◌, ◌≤◌, length, Some, Contains}
use Rattle.hv_order.specs.inside.Choosing.{cap_under}
use Rattle.hv_order.specs.inside.Trials.{finish_of}
use Rattle.hv_order.specs.inside.Frames.{AreArranged, StaysBest}
use Rattle.hv_order.specs.inside.Arrangements.{Arrangement}
use Rattle.hv_order.proofs.frame.next_turn.Given as goal

abbrev pub invariant-loop-candidate : goal.invariant-loop-candidate
invariant-loop-candidate g l = record {
  cap : cap_under l.last (finish_of l.fn.best) ≡ Some l.cap;
  within : l.cap ≤ l.last;
  arranged : AreArranged (g.T.Table.facts l.table) (g.T.Table.size l.table) (g.C.Candidates.left l.left);
  sub : (c : Arrangement) → Contains (g.C.Candidates.left l.left) c → Contains (g.C.Candidates.left l.initial.left) c;
  fewer : length (g.C.Candidates.left l.left) ≤ length (g.C.Candidates.left l.initial.left);
  tried : StaysBest (g.T.Table.facts l.table) l.start (g.C.Candidates.left l.initial.left) (g.C.Candidates.left l.left) l.fn.best l.fn.best;
}

abbrev pub decreases-loop-candidate : goal.decreases-loop-candidate
decreases-loop-candidate g l = length (g.C.Candidates.left l.left)
