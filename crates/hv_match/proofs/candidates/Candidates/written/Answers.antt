use Rattle.std.proofs.Common.{◌≡◌, ◌≤◌, ◌-◌, ◌∙◌, ℕ, true, false, List, [], ◌∷◌, length, length-take-le, length-drop, map, take, drop, option_map, ap, sym, refl, arith, if◌then◌else◌}
use Rattle.std.proofs.lemmas.List.{length-map, take_all}
use Rattle.std.specs.Global.{Vec}
use Rattle.hv_world.specs.Bindings.{object_number}
use Rattle.hv_world.specs.Ranges.{range_view}
use Rattle.hv_world.specs.declared.id.ObjectId.{ObjectId}
use Rattle.hv_world.specs.Views.{subtask_view}
use Rattle.hv_match.specs.inside.PuzzleViews.{puzzle_view}
use Rattle.hv_match.specs.inside.Parts.{parts}
use Rattle.hv_match.specs.inside.Tables.{work_view}
use Rattle.hv_match.proofs.Checking.{written_back}
use Rattle.hv_match.proofs.Found.{found_small}
use Rattle.hv_match.proofs.Forcing.{forced_listed}
use Rattle.hv_match.proofs.candidates.Candidates.written.Goals.{then-is_match, else-is_match}
use Rattle.hv_match.proofs.candidates.Candidates.written.Goals as goal

pub write_places-requires-clause-small : goal.write_places-requires-clause-small
write_places-requires-clause-small c =
    let code = c.args.puzzle in
    let p = puzzle_view code in
    let many : length p.children ≡ length code.children.items = length-map code.children.items (option_map work_view) in
    found_small p c.args.chosen.now (length code.table.now.subtasks.now) 4294967296 (length-map code.table.now.subtasks.now subtask_view) (omega (arith, many, code.short)) (sym c.if-is_match.ensures)

pub returns : goal.returns
returns c = λ each.
    (let code = c.args.puzzle in
    let p = puzzle_view code in
    let q = c.args.chosen.now in
    let n : length p.subtasks ≡ length code.table.now.subtasks.now = length-map code.table.now.subtasks.now subtask_view in
    let whole = c.requires.forced.whole in
    let lent : List (List ℕ × List ℕ) = (c.if-is_match.children.items, map object_number c.if-is_match.objects.items) ∷ [] in
    elim c.if-is_match.branch [
      | then-is_match w ↦
          let m = length code.table.now.subtasks.now in
          let fits : m ≤ length q = omega (arith, whole, n) in
          let ch = c.args.children in
          let ob = c.args.objects in
          let places : w.write_places.new.into ≡ take m q = w.write_places.ensures in
          let numbers : map object_number w.write_objects.new.into ≡ drop m q = w.write_objects.ensures ∙ take_all (length q - m) (drop m q) (omega (arith, length-drop m q)) in
          let so_many : length w.write_places.new.into ≡ length ch.items = omega (arith, ap length places, length-take-le m q fits, c.requires.children) in
          let as_many : length w.write_objects.new.into ≡ length ob.items = omega (arith, ap length numbers, length-map w.write_objects.new.into object_number, length-drop m q, c.requires.objects, whole, n, length-map code.table.now.ranges.items range_view) in
          let children : c.if-is_match.children.items ≡ take (length p.subtasks) q =
          ap (λ (v : Vec ℕ). v.items) w.children-is ∙ written_back ch.items w.write_places.new.into ch.len (omega (arith, ch.ok.0)) so_many ∙ places ∙ ap (λ k. take k q) (sym n) in
          let objects : map object_number c.if-is_match.objects.items ≡ drop (length p.subtasks) q =
          ap (λ (v : Vec ObjectId). map object_number v.items) w.objects-is ∙ ap (map object_number) (written_back ob.items w.write_objects.new.into ob.len (omega (arith, ob.ok.0)) as_many) ∙ numbers ∙ ap (λ k. drop k q) (sym n) in
          let same : lent ≡ parts (length p.subtasks) q ∷ [] = rw (children, objects) refl in
          ap (λ b. if b then lent else []) w.if-is_match.true ∙ same ∙ sym (forced_listed p code.placed each q c.requires.forced true (sym c.is_match-is_match.ensures ∙ w.if-is_match.true))
      | else-is_match w ↦
          ap (λ b. if b then lent else []) w.if-is_match.false ∙ sym (forced_listed p code.placed each q c.requires.forced false (sym c.is_match-is_match.ensures ∙ w.if-is_match.false))
    ])
