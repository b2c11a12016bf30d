use Rattle.std.proofs.Common.{◌≡◌, ◌<◌, ◌+◌, length, get_or, sym, refl, arith, inl, inr}
use Rattle.std.proofs.lemmas.Bool.{cases_lt}
use Rattle.std.proofs.lemmas.List.{length-map}
use Rattle.hv_world.specs.Ranges.{range_view}
use Rattle.hv_world.specs.Views.{name_view, subtask_view}
use Rattle.hv_match.specs.inside.Forced.{IsAlone, IsForced}
use Rattle.hv_match.specs.inside.PuzzleViews.{puzzle_view}
use Rattle.hv_match.proofs.Forcing.{alone_next, some_so, bound_so}
use Rattle.hv_match.proofs.puzzle.Puzzle.forced_choice.Goals as goal

pub returns-in-None : goal.returns-in-None
returns-in-None c =
    let p = puzzle_view c.args.self.now in
    let ss = c.args.self.now.table.now.subtasks.now in
    let q = c.args.chosen.now in
    let s = c.index-self-chosen.result in
    let low : length q < length ss = elim (cases_lt (length q) (length ss)) [ inl lt ↦ lt | inr ge ↦ absurd (c.in-None.ensures ge) ] in
    some_so (IsAlone p.children (name_view (get_or ss (length q) s).name)) (IsForced p q) c.child_alone.result (λ x alone. alone_next p ss refl q low s x alone) c.child_alone.ensures

pub returns-in-Some : goal.returns-in-Some
returns-in-Some c =
    let p = puzzle_view c.args.self.now in
    let q = c.args.chosen.now in
    let v = c.in-Some.parameter in
    let t = c.args.self.now.table.now in
    let size : length q ≡ length p.subtasks + v = omega (arith, c.in-Some.ensures.0, c.in-Some.ensures.1, length-map t.subtasks.now subtask_view) in
    let low : v < length p.ranges = omega (arith, size, c.requires) in
    bound_so p q v c.bound.result size low (sym (c.bound.ensures.bound (omega (arith, low, length-map t.ranges.items range_view))))
