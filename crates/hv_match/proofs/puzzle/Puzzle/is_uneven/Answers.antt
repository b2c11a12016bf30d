use Rattle.std.proofs.Common.{◌≡◌, true, nat_eq, eq-eqb, length, option_map, arith}
use Rattle.std.proofs.lemmas.List.{length-map}
use Rattle.hv_world.specs.Views.{subtask_view}
use Rattle.hv_match.specs.inside.PuzzleViews.{puzzle_view}
use Rattle.hv_match.specs.inside.Tables.{work_view}
use Rattle.hv_match.proofs.Hope.{none_uneven, not_true}
use Rattle.hv_match.proofs.puzzle.Puzzle.is_uneven.Goals as goal

pub returns : goal.returns
returns c = λ e k.
    (let p = puzzle_view c.args.self.now in
    let ss = c.args.self.now.table.now.subtasks.now in
    let cs = c.args.self.now.children.items in
    let n : length p.subtasks ≡ length ss = length-map ss subtask_view in
    let m : length p.children ≡ length cs = length-map cs (option_map work_view) in
    none_uneven p (λ same.
    let even : nat_eq (length ss) c.len.result ≡ true = eq-eqb (length ss) c.len.result (omega (arith, same, n, m, c.len.ensures, c.args.self.now.children.ok.0)) in
    let odd = not_true (nat_eq (length ss) c.len.result) e in
    cc) k)
