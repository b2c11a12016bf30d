use Rattle.std.proofs.Common.{◌≡◌, ◌<◌, ◌+◌, None, length, sym, arith}
use Rattle.std.proofs.lemmas.List.{length-map}
use Rattle.hv_world.specs.Ranges.{range_view}
use Rattle.hv_world.specs.Views.{subtask_view}
use Rattle.hv_match.specs.inside.Puzzles.{bound, range_of}
use Rattle.hv_match.specs.inside.PuzzleViews.{puzzle_view, search_of}
use Rattle.hv_match.proofs.SkipLemmas.{free_options, passed_choices}
use Rattle.hv_match.proofs.puzzle.PuzzleRule.skip.Goals as goal

pub returns-in-Some-None : goal.returns-in-Some-None
returns-in-Some-None c =
    let pz = puzzle_view c.args.self.now in
    let q = c.args.chosen.now in
    let v = c.in-Some.parameter in
    let many = length-map c.args.self.now.table.now.subtasks.now subtask_view in
    let wide = length-map c.args.self.now.table.now.ranges.items range_view in
    let level : length pz.subtasks + v ≡ length q = omega (arith, c.in-Some.ensures, many) in
    let low : v < length c.args.self.now.table.now.ranges.items = omega (arith, c.requires.short, level, wide) in
    let free : bound pz q v ≡ None = sym (c.in-Some-None.ensures.bound low) in
    passed_choices (search_of c.args.self.now) q (range_of pz v) c.args.number c.skip_objects.result (free_options pz q v level free) c.skip_objects.ensures
