use Rattle.std.proofs.Common.{◌≡◌, ◌<◌, ℕ, length, slice_index}
use Rattle.hv_world.specs.inside.OrderWalks.{lists_of, list_at}
use Rattle.hv_world.proofs.order.walk.lengths.Given as goal

abbrev pub invariant-loop-list : goal.invariant-loop-list
invariant-loop-list l = (length l.lengths.items ≡ l.list-index) × ((j : ℕ) → j < l.list-index → slice_index l.lengths.items j ≡ length (list_at (lists_of l.lists) j))
