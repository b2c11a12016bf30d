use Rattle.std.proofs.Common.{◌≡◌, ◌+◌, ◌++◌, ◌∷◌, [], length, get_or, refl, sym, subst, ap, arith, ◌∙◌}
use Rattle.std.specs.Borrow.{Bor}
use Rattle.std.specs.List.{slice_index}
use Rattle.std.proofs.lemmas.List.{get_or-map, length-map}
use Rattle.hv_world.specs.Ranges.{range_view}
use Rattle.hv_world.specs.Types.{object_numbers}
use Rattle.hv_world.specs.Views.{atom_view, subtask_view}
use Rattle.hv_world.specs.declared.formula.Atom.{Atom}
use Rattle.hv_world.specs.declared.id.ObjectId.{ObjectId}
use Rattle.hv_match.specs.inside.Puzzles.{range_of, CannotBeTrue, NothingWith}
use Rattle.hv_match.specs.inside.PuzzleViews.{puzzle_view, search_of}
use Rattle.hv_match.proofs.Hope.{none_possible}
use Rattle.hv_match.proofs.SkipLemmas.{never_chosen}
use Rattle.hv_match.proofs.puzzle.Puzzle.skip_objects.Goals as goal

pub returns-then-upto-number : goal.returns-then-upto-number
returns-then-upto-number c =
    let pz = puzzle_view c.args.self.now in
    let p = c.args.chosen.now in
    let objects = c.objects-objects.result.now in
    let range = range_view c.index-range.result.now in
    let same : object_numbers objects ≡ range = c.objects-objects.ensures in
    let below = c.count_below-upto.ensures in
    let z : ObjectId = record { 0 = 0 } in
    let level : length pz.subtasks + c.args.parameter ≡ length p = omega (arith, c.requires.level, length-map c.args.self.now.table.now.subtasks.now subtask_view) in
    let is : range ≡ range_of pz c.args.parameter = ap range_view c.index-range.ensures ∙ sym (get_or-map range_view c.args.self.now.table.now.ranges.items c.args.parameter c.index-range.result.now [] c.requires.low) in
    let first : slice_index range c.args.number ≡ (get_or objects c.args.number z).0 = ap (λ os. slice_index os c.args.number) (sym same) ∙ get_or-map (λ (o : ObjectId). o.0) objects c.args.number z 0 c.if-objects-number.false in
    subst (λ os. NothingWith (search_of c.args.self.now) p os c.args.number c.count_below-upto.result) is (
      below.0,
      λ i le lt.
          (let (within, low, high) = below.1 i le lt in
          let x = slice_index range i in
          let cannot = never_chosen pz p c.args.parameter x (get_or objects c.args.number z).0 c.next_object-until.result (atom_view c.index-atom.result.now.now) level c.next_object-until.ensures (omega (arith, low, first)) high in
          (within, λ k. none_possible (λ (a : Bor Atom). atom_view a.now) pz (p ++ x ∷ []) c.args.self.now.table.now.needed.items _ c.index-atom.result.now refl (omega (arith, c.if-decided_number-len.true, c.len.ensures)) (subst (λ (a : Bor Atom). CannotBeTrue pz (p ++ x ∷ []) (atom_view a.now)) c.index-atom.ensures cannot) k)),
    )
