use Rattle.std.proofs.Common.{◌≡◌, drop, map}
use Rattle.hv_text.specs.Trees.{trees}
use Rattle.hv_reading.specs.inside.Reading.{every, behind}
use Rattle.hv_reading.specs.inside.Networks.{constraint_of}
use Rattle.hv_syntax.specs.NetworkViews.{constraint_view}
use Rattle.hv_reading.proofs.network.read_constraints.Given as goal

abbrev pub invariant-loop-e : goal.invariant-loop-e
invariant-loop-e l = behind (map constraint_view l.constraints.items) (every constraint_of (trees (drop l.e-index l.es))) ≡ every constraint_of (trees l.es)
