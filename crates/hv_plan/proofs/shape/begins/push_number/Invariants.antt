use Rattle.std.proofs.Common.{◌≡◌, ◌++◌, drop, map}
use Rattle.hv_plan.proofs.shape.begins.push_number.Given as goal

abbrev pub invariant-loop-child : goal.invariant-loop-child
invariant-loop-child l = l.numbers.items ++ map (λ _. l.line) (drop l._child-index l.children) ≡ l.initial.numbers.items ++ map (λ _. l.line) l.children
