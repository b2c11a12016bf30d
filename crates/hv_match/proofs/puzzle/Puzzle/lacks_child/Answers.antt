use Rattle.std.proofs.Common.{refl}
use Rattle.hv_match.specs.inside.PuzzleViews.{puzzle_view}
use Rattle.hv_match.proofs.Hope.{none_may, one_more}
use Rattle.hv_match.proofs.puzzle.Puzzle.lacks_child.Goals as goal

pub returns : goal.returns
returns c = λ e k.
    (let p = puzzle_view c.args.self.now in
    let ss = c.args.self.now.table.now.subtasks.now in
    let j = c.args.subtask in
    none_may p c.args.self.now.placed ss refl j _ c.requires c.row-row.result.now c.row-row.ensures _ c.loop-place-test.false c.loop-place.invariant k)

pub loop-place-preserved : goal.loop-place-preserved
loop-place-preserved c =
    one_more (puzzle_view c.args.self.now) c.row-row.result.now c.args.self.now.table.now.subtasks.now c.args.subtask _ _ c.loop-place.invariant (c.may_do.ensures c.if-may_do.false)
