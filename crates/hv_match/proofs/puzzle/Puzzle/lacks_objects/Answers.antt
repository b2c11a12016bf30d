use Rattle.std.proofs.Common.{◌≡◌, ◌<◌, ◌∙◌, List, [], ◌∷◌, length, get_or, ap, sym, refl, arith, eqb-true}
use Rattle.hv_world.specs.Ranges.{range_view}
use Rattle.hv_world.specs.Types.{object_numbers}
use Rattle.hv_world.specs.declared.id.ObjectId.{ObjectId}
use Rattle.hv_match.specs.inside.PuzzleViews.{puzzle_view}
use Rattle.hv_match.proofs.Hope.{none_wanted}
use Rattle.hv_match.proofs.puzzle.Puzzle.lacks_objects.Goals as goal

empty : (os : List ObjectId) → length os ≡ 0 → object_numbers os ≡ []
empty [] e = refl
empty (o ∷ os) e = absurd (omega arith)

pub returns-then-is_empty : goal.returns-then-is_empty
returns-then-is_empty c =
    let rs = c.args.self.now.table.now.ranges.items in
    let i = c.loop-at.at in
    let os = c.objects-range.result.now in
    let lt : i < length rs = omega (arith, c.loop-at-test.true, c.len.ensures, c.args.self.now.table.now.ranges.ok.0) in
    let none : object_numbers os ≡ [] = empty os (eqb-true (length os) 0 (sym c.is_empty.ensures ∙ c.if-is_empty.true)) in
    let there : range_view (get_or rs i c.index.result.now) ≡ [] = ap range_view (sym c.index.ensures) ∙ sym c.objects-range.ensures ∙ none in
    (λ e k. none_wanted (puzzle_view c.args.self.now) range_view rs i c.index.result.now refl lt there k)
