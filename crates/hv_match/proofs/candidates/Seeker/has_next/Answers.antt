use Rattle.std.proofs.Common.{length}
use Rattle.hv_match.specs.inside.PuzzleViews.{puzzle_view}
use Rattle.hv_match.proofs.Found.{found_comes}
use Rattle.hv_match.proofs.candidates.Seeker.has_next.Goals as goal

pub returns-clause-ok : goal.returns-clause-ok
returns-clause-ok c =
    let code = c.args.self.now.puzzle in
    found_comes (puzzle_view code) c.find.new.at (length code.table.now.subtasks.now) (length code.children.items) c.in_ok-is_left.is_left c.in_ok-is_left.ensures.place c.in_ok-is_left.ensures.found
