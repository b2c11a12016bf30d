use Rattle.std.proofs.Common.{◌≡◌, Bool, cond, List, [], ◌∷◌, ◌++◌, map, Option, Some, None, option_map, sym, ap, ◌∙◌, subst}
use Rattle.std.specs.Option.{option_copied}
use Rattle.std.specs.HashMap.{get}
use Rattle.hv_world.specs.contracts.id.TaskNamePartialEq.TheImpl.{eq-value}
use Rattle.hv_world.specs.Alike.{is_object}
use Rattle.hv_world.specs.inside.Kept.{RowSays, is_name, is_marked, kept_marks}
use Rattle.hv_world.specs.Views.{name_view, term_view, subtask_view}
use Rattle.hv_world.proofs.AlikeLemmas.{row_kept, row_made, row_after, kept_are, marked_objects_are, lookup_same, looked_up, name_test, same_itself}
use Rattle.hv_world.proofs.alike.note_objects.Goals as goal
use Rattle.hv_world.proofs.alike.note_objects.Goals.{in-Some+else-are_kept+in_ok-row-in-Some, in-None+in_ok-row-in-None}

pub returns : goal.returns
returns c = λ ss says n.
    let name = c.args.subtask.now.name in
    let s = subtask_view c.args.subtask.now in
    let xs = map term_view c.args.subtask.now.terms.items in
    let old = c.args.rows.now in
    let new = c.insert.new.self in
    let P : Option (List Bool) → Type 0 = RowSays ss (name_view name) in
    let known : get is_name old name ≡ option_copied c.marks_of.result = sym c.marks_of.ensures in
    let row : P (option_map (λ v. v.items) (option_copied c.marks_of.result)) = subst (λ o. P (option_map (λ v. v.items) o)) known (says name) in
    let after : RowSays (ss ++ s ∷ []) (name_view name) (Some c.match-marks_of.row.items) =
    elim c.match-marks_of.branch [
      | in-Some+else-are_kept+in_ok-row-in-Some w ↦
          let marks = w.in-Some.marks.now.items in
          let fixed : P (Some marks) = subst (λ o. P (option_map (λ v. v.items) (option_copied o))) w.in-Some.is row in
          let items : c.match-marks_of.row.items ≡ kept_marks xs 0 marks =
          ap (λ v. v.items) w.row-is ∙ w.in_ok-row-in-Some.ensures
          ∙ ap (λ l. kept_marks (map term_view w.deref-in-Some-3.result.now) 0 l) w.deref-in-Some-2.ensures.value
          ∙ ap (λ l. kept_marks (map term_view l) 0 marks) w.deref-in-Some-3.ensures in
          row_kept ss s (name_view name) marks c.match-marks_of.row.items (same_itself (name_view name)) fixed (λ k. ap (λ l. is_marked l k) items ∙ kept_are xs marks k)
      | in-None+in_ok-row-in-None w ↦
          let all : P None = subst (λ o. P (option_map (λ v. v.items) (option_copied o))) w.in-None.is row in
          let items : c.match-marks_of.row.items ≡ map is_object xs =
          ap (λ v. v.items) w.row-is ∙ w.in_ok-row-in-None.ensures ∙ ap (λ l. map is_object (map term_view l)) w.deref-in-None.ensures in
          row_made ss s (name_view name) c.match-marks_of.row.items (same_itself (name_view name)) all (λ k. ap (λ l. is_marked l k) items ∙ marked_objects_are xs k)
    ] in
    let there : get is_name new n ≡ cond (is_name name n) (Some c.match-marks_of.row) (get is_name old n) =
    sym (lookup_same _ (is_name n) (name_test n) new.entries) ∙ c.in_ok-insert.ensures.updates.0 n
    ∙ ap (λ b. cond b (Some c.match-marks_of.row) (get eq-value.it old n)) (name_test name n) ∙ ap (λ o. cond (is_name name n) (Some c.match-marks_of.row) o) (lookup_same _ (is_name n) (name_test n) old.entries) in
    subst (λ o. RowSays (ss ++ s ∷ []) (name_view n) (option_map (λ v. v.items) o)) (sym there) (row_after (λ v. v.items) ss s (name_view n) c.match-marks_of.row (get is_name old n) after (says n))

pub returns-then-are_kept : goal.returns-then-are_kept
returns-then-are_kept c = λ ss says n.
    let name = c.args.subtask.now.name in
    let s = subtask_view c.args.subtask.now in
    let xs = map term_view c.args.subtask.now.terms.items in
    let old = c.args.rows.now in
    let row = c.in-Some.marks.now in
    let P : Option (List Bool) → Type 0 = RowSays ss (name_view name) in
    let known : get is_name old name ≡ Some row = sym (ap option_copied (sym c.in-Some.is) ∙ c.marks_of.ensures) in
    let fixed : P (Some row.items) = subst (λ o. P (option_map (λ v. v.items) o)) known (says name) in
    let kept : kept_marks xs 0 row.items ≡ row.items =
    subst (λ l. kept_marks xs 0 l ≡ l) c.deref.ensures.value
    (subst (λ l. kept_marks (map term_view l) 0 c.deref.result.now ≡ c.deref.result.now) c.deref-in-Some.ensures (c.are_kept.ensures c.if-are_kept.true)) in
    let after : RowSays (ss ++ s ∷ []) (name_view name) (Some row.items) =
    row_kept ss s (name_view name) row.items row.items (same_itself (name_view name)) fixed (λ k. ap (λ l. is_marked l k) (sym kept) ∙ kept_are xs row.items k) in
    subst (λ o. RowSays (ss ++ s ∷ []) (name_view n) (option_map (λ v. v.items) o)) (looked_up name n old.entries (Some row) known)
    (row_after (λ v. v.items) ss s (name_view n) row (get is_name old n) after (says n))
