use Rattle.std.proofs.Common.{ℕ, take, subst}
use Rattle.std.proofs.lemmas.List.{length-map}
use Rattle.hv_world.specs.Views.{subtask_view}
use Rattle.hv_lists.specs.Lists.{Once}
use Rattle.hv_match.specs.inside.PuzzleViews.{puzzle_view}
use Rattle.hv_match.proofs.Fitting.{good_match}
use Rattle.hv_match.proofs.puzzle.PuzzleRule.is_distinct.Goals as goal

pub returns-clause-wanted : goal.returns-clause-wanted
returns-clause-wanted c = λ q g.
    (let P : ℕ → Type 0 = λ n. Once (take n q) in
    subst P (length-map c.args.self.now.table.now.subtasks.now subtask_view) (good_match (puzzle_view c.args.self.now) q g).once)
