use Rattle.std.proofs.Common.{◌≤◌, length, arith, option_map}
use Rattle.std.proofs.lemmas.List.{length-map}
use Rattle.hv_world.specs.Views.{name_view}
use Rattle.hv_match.specs.inside.PuzzleViews.{puzzle_view}
use Rattle.hv_match.specs.inside.Tables.{work_view}
use Rattle.hv_match.proofs.Forcing.{others_all}
use Rattle.hv_match.proofs.puzzle.Puzzle.child_alone.Goals as goal

pub returns : goal.returns
returns c =
    let cs = c.args.self.now.children in
    let all : length (puzzle_view c.args.self.now).children ≤ c.loop-place.place = omega (arith, c.loop-place-test.false, c.len-place-end.ensures, cs.ok.0, length-map cs.items (option_map work_view)) in
    others_all (puzzle_view c.args.self.now).children (name_view c.args.name) c.loop-place.place c.loop-place.found all c.loop-place.invariant
