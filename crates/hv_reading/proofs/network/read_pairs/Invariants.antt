use Rattle.std.proofs.Common.{◌≡◌, drop, map}
use Rattle.hv_text.specs.Trees.{trees}
use Rattle.hv_reading.specs.inside.Reading.{every, behind}
use Rattle.hv_reading.specs.inside.Networks.{pair_of}
use Rattle.hv_syntax.specs.NetworkViews.{pair_view}
use Rattle.hv_reading.proofs.network.read_pairs.Given as goal

abbrev pub invariant-loop-e : goal.invariant-loop-e
invariant-loop-e l = behind (map pair_view l.pairs.items) (every pair_of (trees (drop l.e-index l.es))) ≡ every pair_of (trees l.es)
