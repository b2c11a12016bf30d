-- The cycles of an order, as they are found.
use Rattle.std.specs.Prelude.{ℕ, zero, suc, Bool, ◌&&◌, ◌||◌, nat_eq, nat_lt}
use Rattle.std.specs.List.{list_any, range_with_len}
use Rattle.hv_world.specs.Orders.{Written}

-- one subtask is paired with a later one
abbrev pub is_pair : ℕ → ℕ → ℕ × ℕ → Bool
is_pair i j p = nat_eq p.0 i && nat_eq p.1 j

abbrev pub is_paired : Written → ℕ → ℕ → Bool
is_paired n i j = list_any (is_pair i j) n.pairs || (n.is_ordered && nat_lt i j && nat_lt j n.len)

-- pairs lead from one subtask to another, with none but the first k between them
abbrev pub leads : Written → ℕ → ℕ → ℕ → Bool
leads n zero i j = is_paired n i j
leads n (suc k) i j = leads n k i j || (leads n k i k && leads n k k j)

-- some subtask comes before itself
abbrev pub is_cyclic : Written → Bool
is_cyclic n = list_any (λ i. leads n n.len i i) (range_with_len 0 n.len)
