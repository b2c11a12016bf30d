use Rattle.std.proofs.Common.{◌≡◌, ◌∙◌, List, map, subst, ap, sym, refl, slice_get, Some, option_map}
use Rattle.hv_world.specs.Values.{variable}
use Rattle.hv_world.specs.Views.{term_view}
use Rattle.hv_world.specs.declared.formula.Term.{Term}
use Rattle.hv_match.specs.inside.Puzzles.{objects_of}
use Rattle.hv_match.specs.inside.PuzzleViews.{puzzle_view}
use Rattle.hv_match.specs.inside.Tables.{work_view}
use Rattle.hv_match.proofs.Foretelling.{foretells, if_told}
use Rattle.hv_match.proofs.puzzle.Puzzle.told_by.Goals as goal

pub returns-in-Some : goal.returns-in-Some
returns-in-Some c =
    let p = puzzle_view c.args.self.now in
    let ss = c.args.self.now.table.now.subtasks.now in
    let j = c.args.subtask in
    let at = c.stands_at.ensures c.if-not-stands_at.false in
    let child = sym c.child.ensures ∙ ap (option_map work_view) c.in-Some.is in
    if_told p c.args.parameter c.object_at.result (λ n e.
    foretells p c.args.self.now.placed ss refl j _ c.requires c.row-row.result.now c.row-row.ensures c.if-row-ne1.false c.args.position c.args.parameter n
    (subst (λ (ts : List Term). slice_get (map term_view ts) c.args.position ≡ Some (variable c.args.parameter)) c.deref.ensures at)
    (ap (λ x. slice_get (objects_of x) c.args.position) child ∙ sym c.object_at.ensures ∙ e))
