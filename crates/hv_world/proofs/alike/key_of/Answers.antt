use Rattle.std.proofs.Common.{◌≡◌, Bool, true, false, List, length, map, Option, Some, None, option_map, sym, ap, ◌∙◌, subst}
use Rattle.std.specs.Option.{option_copied}
use Rattle.std.specs.HashMap.{get}
use Rattle.hv_world.proofs.AlikeLemmas.{fixed_objects_same, fixed_has, none_at_end}
use Rattle.hv_world.specs.Alike.{key_with, is_fixed, fixed_objects}
use Rattle.hv_world.specs.inside.Kept.{RowSays, is_name, is_marked}
use Rattle.hv_world.specs.Views.{name_view, term_view, subtask_view}
use Rattle.hv_world.proofs.alike.key_of.Goals as goal
use Rattle.hv_world.proofs.alike.key_of.Goals.{in-Some+in_ok-objects-in-Some, in-None}

pub returns : goal.returns
returns c = λ ss says there.
    let name = c.args.subtask.now.name in
    let xs = map term_view c.args.subtask.now.terms.items in
    let P : Option (List Bool) → Type 0 = RowSays ss (name_view name) in
    let known : get is_name c.args.rows.now name ≡ option_copied c.marks_of.result = sym c.marks_of.ensures in
    let row : P (option_map (λ v. v.items) (option_copied c.marks_of.result)) = subst (λ o. P (option_map (λ v. v.items) o)) known (says name) in
    elim c.match-marks_of.branch [
      | in-Some+in_ok-objects-in-Some w ↦
          let fixed : P (Some w.in-Some.marks.now.items) = subst (λ o. P (option_map (λ v. v.items) (option_copied o))) w.in-Some.is row in
          let marks = w.in-Some.marks.now.items in
          let objects : w.in_ok-objects-in-Some.objects.items ≡ fixed_objects (is_marked w.deref.result.now) 0 (map term_view w.deref-in-Some.result.now) = w.in_ok-objects-in-Some.ensures in
          ap (key_with (name_view name)) (ap (λ v. v.items) w.objects-is ∙ objects
          ∙ ap (λ l. fixed_objects (is_marked l) 0 (map term_view w.deref-in-Some.result.now)) w.deref.ensures.value
          ∙ ap (λ l. fixed_objects (is_marked marks) 0 (map term_view l)) w.deref-in-Some.ensures
          ∙ fixed_objects_same (is_marked marks) (is_fixed ss (name_view name)) fixed 0 xs)
      | in-None w ↦
          let all : P None = subst (λ o. P (option_map (λ v. v.items) (option_copied o))) w.in-None.is row in
          let end = fixed_has ss (subtask_view c.args.subtask.now) (length xs) there (sym (all (length xs))) in
          absurd (let clash : false ≡ true = sym (none_at_end xs) ∙ end in cc)
    ]
