-- What the value of an order says, and what its parts keep.
use Rattle.std.specs.Prelude.{ℕ, ◌≡◌, ◌<◌, ◌↔◌, All, Bool, true, false, List, length, slice_index}
use Rattle.hv_world.specs.declared.order.Order.TheInside.{Inside}
use Rattle.hv_world.specs.declared.order.Links.{Links}
use Rattle.hv_world.specs.declared.order.Links.TheVariants as links
use Rattle.hv_world.specs.Orders.{Written, written, IsPaired, Before, IsCyclic, IsArrangement}
use Rattle.hv_world.specs.inside.OrderWalks.{IsListed, lists_of}

abbrev pub is_as_written : Links → Bool
is_as_written links.AsWritten = true
is_as_written (links.Pairs direct) = false

abbrev pub written_of : Inside → Written
written_of a = written a.len (is_as_written a.links) a.pairs.items

-- one subtask comes before another where its number is lower, and the row has the
-- numbers as they are
pub record IsAsWritten (n : Written) (row : List ℕ) : Type 0 where
  pub ordered : n.is_ordered ≡ true
  pub before : (i j : ℕ) → Before n i j ↔ ((i < j) × (j < n.len))
  pub count : length row ≡ n.len
  pub each : (k : ℕ) → k < n.len → slice_index row k ≡ k

abbrev pub AreLinks : Written → List ℕ → Links → Type 0
AreLinks n row links.AsWritten = IsAsWritten n row
AreLinks n row (links.Pairs direct) = (n.is_ordered ≡ false)
    × ((i j : ℕ) → IsListed (lists_of direct.items) i j ↔ IsPaired n i j)

pub record IsOrder (a : Inside) : Type 0 where
  pub pairs : All (λ p. (p.0 < a.len) × (p.1 < a.len)) a.pairs.items
  pub acyclic : IsCyclic (written_of a) → ⊥
  pub arrangement : IsArrangement (written_of a) a.arrangement.items
  pub links : AreLinks (written_of a) a.arrangement.items a.links
