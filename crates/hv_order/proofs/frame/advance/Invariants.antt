use Rattle.std.proofs.Common.{Contains, ◌≡◌, length, List, ◌∷◌}
use Rattle.hv_order.specs.inside.Frames.{IsFrame, StaysBest}
use Rattle.hv_order.specs.inside.Winners.{AreListed}
use Rattle.hv_order.specs.inside.Arrangements.{Arrangement, arrangement_of}
use Rattle.hv_order.proofs.frame.advance.Given as goal

abbrev pub invariant-loop-child : goal.invariant-loop-child
invariant-loop-child g l = record {
  start : l.frame.start ≡ l.initial.frame.start;
  earliest : l.frame.earliest ≡ l.initial.frame.earliest;
  within : (c : Arrangement) → Contains (g.C.Candidates.left l.left) c → Contains (g.C.Candidates.left l.initial.left) c;
  frame : IsFrame (g.T.Table.facts l.table) (g.T.Table.size l.table) l.initial.frame.start l.frame (g.C.Candidates.left l.left);
  tried : StaysBest (g.T.Table.facts l.table) l.initial.frame.start (arrangement_of l.initial.frame.candidate ∷ g.C.Candidates.left l.initial.left) (arrangement_of l.frame.candidate ∷ g.C.Candidates.left l.left) l.initial.frame.best l.frame.best;
  listed : (all : List Arrangement) → AreListed all l.initial.frame (g.C.Candidates.left l.initial.left) → AreListed all l.frame (g.C.Candidates.left l.left);
}

abbrev pub decreases-loop-child : goal.decreases-loop-child
decreases-loop-child g l = length (g.C.Candidates.left l.left)
