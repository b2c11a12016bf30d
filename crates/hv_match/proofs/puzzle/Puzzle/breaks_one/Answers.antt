use Rattle.std.proofs.Common.{refl}
use Rattle.hv_match.specs.inside.PuzzleViews.{puzzle_view}
use Rattle.hv_match.proofs.Hope.{none_holds}
use Rattle.hv_match.proofs.puzzle.Puzzle.breaks_one.Goals as goal

pub returns-then-breaks : goal.returns-then-breaks
returns-then-breaks c = λ e k.
    none_holds (puzzle_view c.args.self.now) c.args.chosen.now c.args.self.now.table.now.constraints.now _ _ refl c.if-number-constraints.true (c.breaks.ensures c.if-breaks.true) k
