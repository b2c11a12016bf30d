use Rattle.std.proofs.Common.{◌≡◌, ◌-◌, ◌++◌, take, drop}
use Rattle.hv_world.proofs.tables.sections.push_part.Given as goal

abbrev pub invariant-loop-place : goal.invariant-loop-place
invariant-loop-place l = l.merged.items ++ take (l.to - l.place) (drop l.place l.list) ≡ l.initial.merged.items ++ take (l.to - l.from) (drop l.from l.list)
