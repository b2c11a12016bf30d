use Rattle.std.proofs.Common.{◌≡◌, ◌≤◌, ◌+◌, ◌∷◌, ℕ, List, length, drop, option_map, MatchOption, subst, arith}
use Rattle.std.proofs.lemmas.List.{length-map}
use Rattle.hv_world.specs.Views.{subtask_view}
use Rattle.hv_match.specs.inside.PuzzleViews.{puzzle_view}
use Rattle.hv_match.specs.inside.Tables.{work_view}
use Rattle.hv_match.proofs.Rows.{some_at}
use Rattle.hv_match.proofs.PlacesWhere.{chosen_within}
use Rattle.hv_match.proofs.puzzle.Puzzle.child_choice.Goals as goal

pub returns-clause-choice : goal.returns-clause-choice
returns-clause-choice c =
    subst (λ (l : List ℕ). MatchOption c.row_choice.result (length l ≤ c.args.number) (λ x. drop c.args.number l ≡ x ∷ drop (c.args.number + 1) l)) c.row.ensures c.row_choice.ensures.choice

pub returns-clause-within : goal.returns-clause-within
returns-clause-within c =
    let p = puzzle_view c.args.self.now in
    let width : length p.children ≡ length c.args.self.now.children.items = length-map c.args.self.now.children.items (option_map work_view) in
    let there = some_at p.subtasks c.args.subtask (omega (arith, c.requires, length-map c.args.self.now.table.now.subtasks.now subtask_view)) in
    let row = c.args.self.now.placed c.args.subtask there.0 there.1 in
    chosen_within c.row_choice.result c.args.number (length c.args.self.now.children.items) (p.rows c.args.subtask)
    (subst (λ (l : List ℕ). MatchOption c.row_choice.result (length l ≤ c.args.number) (λ x. drop c.args.number l ≡ x ∷ drop (c.args.number + 1) l)) c.row.ensures c.row_choice.ensures.choice)
    (λ x m. omega (arith, row.within x m, width))
