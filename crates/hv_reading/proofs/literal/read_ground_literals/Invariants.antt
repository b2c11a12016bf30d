use Rattle.std.proofs.Common.{◌≡◌, drop}
use Rattle.hv_text.specs.Trees.{trees}
use Rattle.hv_reading.specs.inside.Reading.{every, behind}
use Rattle.hv_reading.specs.inside.Literals.{ground_literal_of}
use Rattle.hv_syntax.specs.ProblemViews.{init_view}
use Rattle.hv_reading.proofs.literal.read_ground_literals.Given as goal

abbrev pub invariant-loop-e : goal.invariant-loop-e
invariant-loop-e l = behind (init_view l.literals) (every ground_literal_of (trees (drop l.e-index l.es))) ≡ every ground_literal_of (trees l.es)
