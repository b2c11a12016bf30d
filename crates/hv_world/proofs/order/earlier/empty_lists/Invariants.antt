use Rattle.std.proofs.Common.{◌≡◌, ℕ, length, []}
use Rattle.hv_world.specs.inside.OrderWalks.{lists_of, list_at}
use Rattle.hv_world.proofs.order.earlier.empty_lists.Given as goal

abbrev pub invariant-loop : goal.invariant-loop
invariant-loop l = (length (lists_of l.lists.items) ≡ l.counter) × ((j : ℕ) → list_at (lists_of l.lists.items) j ≡ [])
