use Rattle.std.proofs.Common.{refl}
use Rattle.hv_match.specs.inside.PuzzleViews.{puzzle_view}
use Rattle.hv_match.proofs.Hope.{hopeless, not_false}
use Rattle.hv_match.proofs.puzzle.Puzzle.is_child_hopeful.Goals as goal

pub returns-then-not-may_do : goal.returns-then-not-may_do
returns-then-not-may_do c = λ e k.
    hopeless (puzzle_view c.args.self.now) c.args.self.now.table.now.subtasks.now refl c.args.chosen.now c.args.last c.requires.size c.requires.low _ (c.may_do.ensures c.if-not-may_do.true) k

pub returns : goal.returns
returns c = λ e k. c.is_broken.ensures (not_false c.is_broken.result e) k
