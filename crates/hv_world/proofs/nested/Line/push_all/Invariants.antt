use Rattle.std.proofs.Common.{◌≡◌, ◌++◌, take}
use Rattle.hv_world.specs.Types.{object_numbers}
use Rattle.hv_world.proofs.nested.Line.push_all.Given as goal

-- those so far stand at the end
abbrev pub invariant-loop-object : goal.invariant-loop-object
invariant-loop-object l = l.self ≡ l.initial.self ++ object_numbers (take l.object-index l.objects)
