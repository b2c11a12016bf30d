use Rattle.hv_order.proofs.LatestStarts.{IsLatestSoFar}
use Rattle.hv_order.proofs.children.latest_start.Given as goal

abbrev pub invariant-loop-child : goal.invariant-loop-child
invariant-loop-child l = IsLatestSoFar l.children l.cap l.child-index l.latest
