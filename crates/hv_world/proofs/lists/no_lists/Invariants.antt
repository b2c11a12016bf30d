use Rattle.std.proofs.Common.{◌≡◌, [], length}
use Rattle.std.specs.List.{All}
use Rattle.hv_world.proofs.lists.no_lists.Given as goal

-- there are as many lists as turns, all empty
abbrev pub invariant-loop : goal.invariant-loop
invariant-loop g l = (length l.lists.items ≡ l.counter) × All (λ v. v.items ≡ []) l.lists.items
