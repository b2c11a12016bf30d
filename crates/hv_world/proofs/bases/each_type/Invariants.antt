use Rattle.std.proofs.Common.{◌≡◌, ◌<◌, ℕ, length, slice_index_or}
use Rattle.hv_world.specs.inside.TypeLists.{type_numbers}
use Rattle.hv_world.proofs.bases.each_type.Given as goal

abbrev pub invariant-loop-number : goal.invariant-loop-number
invariant-loop-number l = (length l.each.items ≡ l.number) × ((t : ℕ) → t < l.number → slice_index_or (type_numbers l.each.items) t 0 ≡ t)
