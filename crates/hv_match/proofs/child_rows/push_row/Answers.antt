use Rattle.std.proofs.Common.{◌≡◌, ◌++◌, ◌∷◌, [], length, map, take, option_map, sym, ap, ◌∙◌, arith}
use Rattle.std.proofs.lemmas.List.{length-map, length-take-le, map_more}
use Rattle.hv_world.specs.Views.{name_view}
use Rattle.hv_match.specs.inside.Puzzles.{places_where}
use Rattle.hv_match.specs.inside.Tables.{work_view, has_name}
use Rattle.hv_match.proofs.PlacesWhere.{row_yes, row_no}
use Rattle.hv_match.proofs.child_rows.push_row.Goals as goal
use Rattle.hv_match.proofs.child_rows.push_row.Goals.{then-has_name+in_ok-push, else-has_name}

pub loop-place-preserved : goal.loop-place-preserved
loop-place-preserved c =
    let xs = c.args.children.now in
    let i = c.loop-place.place in
    let test = has_name (name_view c.args.name) in
    let cs = map (option_map work_view) (take i xs) in
    let before = c.args.row.now.items in
    let size : length cs ≡ i = length-map (take i xs) (option_map work_view) ∙ length-take-le i xs (omega (arith, c.loop-place-test.true)) in
    elim c.if-has_name.branch [
      | then-has_name+in_ok-push w ↦
          ap (λ r. r.items) w.row-is ∙ w.in_ok-push.ensures.items ∙ ap (λ l. l ++ i ∷ []) c.loop-place.invariant
          ∙ row_yes test cs _ i before size (sym c.has_name.ensures ∙ w.if-has_name.true)
          ∙ ap (λ l. before ++ places_where test 0 l) (sym (map_more (option_map work_view) xs i _ c.loop-place-test.true))
      | else-has_name w ↦
          ap (λ r. r.items) w.row-is ∙ c.loop-place.invariant
          ∙ row_no test cs _ before (sym c.has_name.ensures ∙ w.if-has_name.false)
          ∙ ap (λ l. before ++ places_where test 0 l) (sym (map_more (option_map work_view) xs i _ c.loop-place-test.true))
    ]
