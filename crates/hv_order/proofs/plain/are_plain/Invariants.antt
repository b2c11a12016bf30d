use Rattle.std.proofs.Common.{map, take}
use Rattle.hv_plan.specs.TreeViews.{child_view}
use Rattle.hv_order.specs.inside.Plain.{AllPlain}
use Rattle.hv_order.proofs.plain.are_plain.Given as goal

-- all nodes among the children so far are marked
abbrev pub invariant-loop-child : goal.invariant-loop-child
invariant-loop-child l = AllPlain l.plain (map child_view (take l.child-index l.children))
