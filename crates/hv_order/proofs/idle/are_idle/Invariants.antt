use Rattle.std.proofs.Common.{◌<◌, ℕ}
use Rattle.hv_order.specs.inside.Children.{child_at}
use Rattle.hv_order.specs.inside.Idle.{IsIdleChild}
use Rattle.hv_order.proofs.idle.are_idle.Given as goal

abbrev pub invariant-loop-child : goal.invariant-loop-child
invariant-loop-child g l = (j : ℕ) → j < l.child-index → IsIdleChild (g.N.Nodes.facts l.nodes) (child_at l.children j)
