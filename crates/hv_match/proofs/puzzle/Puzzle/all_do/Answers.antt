use Rattle.std.proofs.Common.{sym, ◌∙◌, arith, inl, inr}
use Rattle.hv_match.specs.inside.PuzzleViews.{puzzle_view}
use Rattle.hv_match.proofs.Steps.{done_no, done_yes, done_end}
use Rattle.hv_match.proofs.puzzle.Puzzle.all_do.Goals as goal
use Rattle.hv_match.proofs.puzzle.Puzzle.all_do.Goals.{then-loop-at-test+else-at-self, else-loop-at-test}

pub returns-then-not-does : goal.returns-then-not-does
returns-then-not-does c =
    sym (c.loop-at.invariant.2 ∙ done_no (puzzle_view c.args.self.now).children c.args.values.now c.args.places.now c.args.self.now.table.now.subtasks.now c.loop-at.at _ c.loop-at-test.true c.if-at-self.true c.does.result c.does.ensures c.if-not-does.true)

pub loop-at-preserved : goal.loop-at-preserved
loop-at-preserved c = (
  omega (arith, c.loop-at-test.true),
  omega (arith, c.if-at-self.true),
  c.loop-at.invariant.2 ∙ done_yes (puzzle_view c.args.self.now).children c.args.values.now c.args.places.now c.args.self.now.table.now.subtasks.now c.loop-at.at _ c.loop-at-test.true c.if-at-self.true c.does.result c.does.ensures c.if-not-does.false,
)

pub returns : goal.returns
returns c =
    let end = done_end (puzzle_view c.args.self.now).children c.args.values.now c.args.places.now c.args.self.now.table.now.subtasks.now c.loop-at.at c.loop-at.invariant.0 c.loop-at.invariant.1 in
    elim c.loop-at-test.branch [
      | then-loop-at-test+else-at-self w ↦ sym (c.loop-at.invariant.2 ∙ end (inr w.if-at-self.false))
      | else-loop-at-test w ↦ sym (c.loop-at.invariant.2 ∙ end (inl w.loop-at-test.false))
    ]
