use Rattle.std.proofs.Common.{◌≡◌, [], length}
use Rattle.std.specs.List.{All}
use Rattle.hv_world.proofs.lists.direct.no_types.Given as goal

-- there are as many lists as turns, all empty
abbrev pub invariant-loop : goal.invariant-loop
invariant-loop l = (length l.lists.items ≡ l.counter) × All (λ o. o.types.items ≡ []) l.lists.items
