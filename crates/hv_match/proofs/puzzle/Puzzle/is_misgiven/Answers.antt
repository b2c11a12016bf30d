use Rattle.hv_match.specs.inside.PuzzleViews.{puzzle_view}
use Rattle.hv_match.proofs.Hope.{none_given}
use Rattle.hv_match.proofs.puzzle.Puzzle.is_misgiven.Goals as goal

pub returns-then-not-may_all_be : goal.returns-then-not-may_all_be
returns-then-not-may_all_be c = λ e k.
    none_given (puzzle_view c.args.self.now) (λ B agrees same. c.may_all_be.ensures c.if-not-may_all_be.true B agrees same) k
