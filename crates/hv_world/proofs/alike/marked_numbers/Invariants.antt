use Rattle.std.proofs.Common.{◌≡◌, filter}
use Rattle.std.specs.List.{range_with_len}
use Rattle.hv_world.specs.inside.Kept.{is_marked}
use Rattle.hv_world.proofs.alike.marked_numbers.Given as goal

abbrev pub invariant-loop-number : goal.invariant-loop-number
invariant-loop-number l = l.numbers.items ≡ filter (is_marked l.marks) (range_with_len 0 l.number)
