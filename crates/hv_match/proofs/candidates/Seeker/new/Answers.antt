use Rattle.std.proofs.Common.{ap, map, length}
use Rattle.hv_match.specs.inside.Puzzles.{options, is_good, levels}
use Rattle.hv_match.specs.inside.PuzzleViews.{puzzle_view}
use Rattle.hv_match.specs.inside.Parts.{parts}
use Rattle.hv_match.proofs.Hope.{fresh}
use Rattle.hv_match.proofs.candidates.Seeker.new.Goals as goal

pub returns-clause-all : goal.returns-clause-all
returns-clause-all c =
    let p = puzzle_view c.args.puzzle in
    ap (map (parts (length p.subtasks))) (fresh (options p) (is_good p) (levels p) c.is_hopeless-is_over.result c.in_ok-chosen.chosen.items c.in_ok-numbers.numbers.items c.in_ok-chosen.ensures.items c.is_hopeless-is_over.ensures)
