use Rattle.std.proofs.Common.{◌≡◌, ◌*◌, ℕ, List, take}
use Rattle.hv_world.specs.MethodViews.{method_view}
use Rattle.hv_world.specs.WorldViews.{world_view}
use Rattle.hv_match.specs.Counts.{product, AreChoices}
use Rattle.hv_match.specs.inside.Numbers.{in_64_bits}
use Rattle.hv_match.proofs.counts.times_choices.Given as goal

abbrev pub invariant-loop-parameter : goal.invariant-loop-parameter
invariant-loop-parameter l =
    (ns : List ℕ) × AreChoices (world_view l.world) (method_view l.method) (take l.parameter-index l.parameter-items) ns
    × ((n : ℕ) → l.fn.number ≡ in_64_bits n → l.product ≡ in_64_bits (n * product ns))
