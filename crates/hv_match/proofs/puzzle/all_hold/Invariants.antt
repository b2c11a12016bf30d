use Rattle.std.proofs.Common.{◌≡◌, map, drop}
use Rattle.hv_world.specs.Views.{constraint_view}
use Rattle.hv_match.specs.inside.Puzzles.{all_hold}
use Rattle.hv_match.proofs.puzzle.all_hold.Given as goal

abbrev pub invariant-loop-constraint : goal.invariant-loop-constraint
invariant-loop-constraint l = all_hold l.values (map constraint_view l.constraints) ≡ all_hold l.values (drop l.constraint-index (map constraint_view l.constraints))
