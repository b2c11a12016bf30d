use Rattle.std.proofs.Common.{◌≡◌, [], drop, take, map}
use Rattle.hv_text.specs.Trees.{tree, trees}
use Rattle.hv_syntax.specs.Problems.{no_parts}
use Rattle.hv_reading.specs.inside.Problems.{parts_from}
use Rattle.hv_syntax.specs.ProblemViews.{parts_view}
use Rattle.hv_reading.proofs.problem.read_sections.Given as goal

-- going on from here gives what all gives
abbrev pub invariant-loop-i : goal.invariant-loop-i
invariant-loop-i l = parts_from (parts_view l.parts) (map tree (take l.i l.es)) (trees (drop l.i l.es)) ≡ parts_from no_parts [] (trees l.es)
