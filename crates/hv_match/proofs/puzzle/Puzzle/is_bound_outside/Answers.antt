use Rattle.std.proofs.Common.{◌≡◌, ◌<◌, ◌∙◌, Some, length, ap, sym, refl, arith}
use Rattle.hv_world.specs.Ranges.{range_view}
use Rattle.hv_match.specs.inside.Puzzles.{bound, has}
use Rattle.hv_match.specs.inside.PuzzleViews.{puzzle_view}
use Rattle.hv_match.proofs.Hope.{none_outside, not_true}
use Rattle.hv_match.proofs.puzzle.Puzzle.is_bound_outside.Goals as goal

pub returns-in-Some : goal.returns-in-Some
returns-in-Some c = λ e k.
    (let p = puzzle_view c.args.self.now in
    let rs = c.args.self.now.table.now.ranges.items in
    let v = c.args.parameter in
    let o = c.in-Some.object in
    let lt : v < length rs = omega (arith, c.if-parameter-len.false, c.len.ensures, c.args.self.now.table.now.ranges.ok.0) in
    let said : bound p c.args.chosen.now v ≡ Some o = sym (c.bound.ensures.bound lt) ∙ c.in-Some.is in
    let is = c.is_in.ensures ∙ ap (λ r. has o (range_view r)) c.index-range.ensures in
    none_outside p c.args.chosen.now range_view rs v o c.index-range.result.now refl lt said (sym is ∙ not_true c.is_in.result e) k)
