use Rattle.hv_match.proofs.Hope.{not_false}
use Rattle.hv_match.proofs.puzzle.PuzzleRule.is_hopeful.Goals as goal

pub returns-then-last-self : goal.returns-then-last-self
returns-then-last-self c = λ e k size. c.is_child_hopeful.ensures e k

pub returns-else-last-self : goal.returns-else-last-self
returns-else-last-self c = λ e k size. c.is_broken.ensures (not_false c.is_broken.result e) k
