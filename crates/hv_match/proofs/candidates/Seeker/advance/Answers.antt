use Rattle.std.proofs.Common.{◌≡◌, length, option_map, arith}
use Rattle.std.proofs.lemmas.List.{length-map}
use Rattle.hv_world.specs.Views.{subtask_view}
use Rattle.hv_match.specs.inside.PuzzleViews.{puzzle_view}
use Rattle.hv_match.specs.inside.Tables.{work_view}
use Rattle.hv_match.proofs.Found.{found_good, found_small}
use Rattle.hv_match.proofs.candidates.Seeker.advance.Goals as goal

pub write_places-requires-clause-small : goal.write_places-requires-clause-small
write_places-requires-clause-small c =
    let code = c.args.self.now.puzzle in
    let p = puzzle_view code in
    let at = c.find.new.at in
    let good = found_good p at c.in_ok-is_found.is_found c.in_ok-is_found.ensures.found c.if-is_found.true in
    let many : length p.children ≡ length code.children.items = length-map code.children.items (option_map work_view) in
    rw c.deref.ensures.value (found_small p at.chosen.items (length code.table.now.subtasks.now) 4294967296 (length-map code.table.now.subtasks.now subtask_view) (omega (arith, many, code.short)) good)
