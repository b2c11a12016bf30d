use Rattle.std.proofs.Common.{◌≡◌, ℕ, List, sym, subst, true, length, take, drop, nat_eq, eq-eqb, option_map, arith}
use Rattle.std.proofs.lemmas.List.{length-map, take_rest}
use Rattle.hv_world.specs.Views.{subtask_view}
use Rattle.hv_match.specs.inside.Puzzles.{is_once, suits}
use Rattle.hv_match.specs.inside.PuzzleViews.{puzzle_view}
use Rattle.hv_match.specs.inside.Tables.{work_view}
use Rattle.hv_match.proofs.Fitting.{once_to}
use Rattle.hv_match.proofs.puzzle.PuzzleRule.is_good.Goals as goal

pub returns-then-subtasks-len : goal.returns-then-subtasks-len
returns-then-subtasks-len c =
    let ss = c.args.self.now.table.now.subtasks.now in
    let cs = c.args.self.now.children.items in
    let q = c.args.chosen.now in
    let p = puzzle_view c.args.self.now in
    let n : length p.subtasks ≡ length ss = length-map ss subtask_view in
    let m : length p.children ≡ length cs = length-map cs (option_map work_view) in
    let same : nat_eq (length p.subtasks) (length p.children) ≡ true = eq-eqb (length p.subtasks) (length p.children) (omega (arith, n, m, c.if-subtasks-len.true, c.len.ensures, c.args.self.now.children.ok.0)) in
    let once : is_once (take (length p.subtasks) q) ≡ true = subst (λ (k : ℕ). is_once (take k q) ≡ true) (sym n) (once_to (take (length ss) q) c.requires.once) in
    let here : c.suits.result ≡ suits p (take (length ss) q) (drop (length ss) q) = subst (λ (r : List ℕ). c.suits.result ≡ suits p (take (length ss) q) r) (take_rest q (length ss)) c.suits.ensures in
    let is : c.suits.result ≡ suits p (take (length p.subtasks) q) (drop (length p.subtasks) q) = subst (λ (k : ℕ). c.suits.result ≡ suits p (take k q) (drop k q)) (sym n) here in
    rw (same, once) is
