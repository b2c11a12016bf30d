use Rattle.std.proofs.Common.{◌≡◌, ◌++◌, take}
use Rattle.hv_world.specs.inside.Lines.{entering}
use Rattle.hv_world.proofs.nested.wait.Given as goal

-- the types so far wait
abbrev pub invariant-loop-of : goal.invariant-loop-of
invariant-loop-of l = l.waiting.items ≡ l.initial.waiting.items ++ entering (take l.of-index l.types)
