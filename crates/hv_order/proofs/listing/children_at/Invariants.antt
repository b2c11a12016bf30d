use Rattle.std.proofs.Common.{◌≡◌, take}
use Rattle.std.specs.Prelude.{map}
use Rattle.hv_order.specs.inside.Children.{child_at}
use Rattle.hv_order.proofs.listing.children_at.Given as goal

-- the children so far are those at the first places
abbrev pub invariant-loop-place : goal.invariant-loop-place
invariant-loop-place l = l.found.items ≡ map (child_at l.children) (take l.place-index l.places)
