use Rattle.std.proofs.Common.{◌≡◌, ◌≤◌, length, map, ap, ◌∙◌, sym, arith}
use Rattle.std.proofs.lemmas.List.{length-map, map-append, take_all}
use Rattle.hv_world.specs.Views.{subtask_view}
use Rattle.hv_match.specs.inside.PuzzleViews.{puzzle_view}
use Rattle.hv_match.specs.inside.Puzzles.{options, is_good, levels}
use Rattle.hv_match.specs.inside.States.{to_come}
use Rattle.hv_match.specs.inside.Parts.{parts}
use Rattle.hv_match.proofs.Leaving.{parts_alike}
use Rattle.hv_match.proofs.candidates.Seeker.pass_over.Goals as goal

pub returns-then-begins_with-clause-coming : goal.returns-then-begins_with-clause-coming
returns-then-begins_with-clause-coming c =
    let code = c.args.self.now.puzzle in
    let p = puzzle_view code in
    let k = length p.subtasks in
    let places = c.args.places.now in
    let n = length places in
    let left = c.leave.ensures.coming in
    let begins = rw c.deref.ensures.value at (c.begins_with.ensures c.if-begins_with.true) in
    let many : k ≡ length code.table.now.subtasks.now = length-map code.table.now.subtasks.now subtask_view in
    let whole = take_all n places (omega arith) in
    let few : n ≤ k = omega (arith, many, c.requires.few) in
    record {
      gone = map (parts k) left.gone;
      coming = ap (map (parts k)) left.coming ∙ map-append (parts k) left.gone (to_come (options p) (is_good p) (levels p) c.leave.new.at);
      alike = λ M B m. parts_alike k n left.gone places few (λ q i. left.alike q i ∙ begins.1 ∙ sym whole) M B m ∙ whole;
    }
