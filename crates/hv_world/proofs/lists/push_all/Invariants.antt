use Rattle.std.proofs.Common.{◌≡◌, ◌++◌, ◌+◌, take, vec_len}
use Rattle.hv_world.proofs.lists.push_all.Given as goal

-- the parents so far stand behind the others
abbrev pub invariant-loop-parent : goal.invariant-loop-parent
invariant-loop-parent l = (l.types.items ≡ l.initial.types.items ++ take l.parent-index l.parents) × (vec_len l.types ≡ vec_len l.initial.types + l.parent-index)
