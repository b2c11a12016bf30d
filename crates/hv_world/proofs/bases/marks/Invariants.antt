use Rattle.std.proofs.Common.{◌≡◌, true, length, map, take, slice_index_or}
use Rattle.hv_world.specs.inside.Bases.{AreMarked}
use Rattle.hv_world.proofs.bases.marks.Given as goal

-- `object` is marked, and so are the types of the pairs so far
abbrev pub invariant-loop-of : goal.invariant-loop-of
invariant-loop-of l =
    (length l.marks.items ≡ l.types) × (slice_index_or l.marks.items 0 true ≡ true) × AreMarked (map (λ p. (p.0.0, p.1.0)) (take l.of-index l.pairs)) l.marks.items
