use Rattle.std.proofs.Common.{◌≡◌, Bool, List, map, Option, Some, None, option_map, sym, ap, ◌∙◌, subst}
use Rattle.std.specs.Option.{option_copied}
use Rattle.std.specs.HashMap.{get}
use Rattle.hv_world.specs.Alike.{key_with, is_fixed, fixed_objects, number_in}
use Rattle.hv_world.specs.Bindings.{object_number}
use Rattle.hv_world.specs.Values.{object}
use Rattle.hv_world.specs.inside.Kept.{RowSays, is_name, is_marked, counts_in}
use Rattle.hv_world.specs.Views.{name_view}
use Rattle.hv_world.proofs.AlikeLemmas.{fixed_objects_same}
use Rattle.hv_world.proofs.ClassLemmas.{found_in, unnamed}
use Rattle.hv_world.proofs.alike.Classes.find.Goals as goal

pub returns : goal.returns
returns c = λ ss are.
    let name = c.args.name in
    let n = name_view name in
    let self = c.args.self.now in
    let P : Option (List Bool) → Type 0 = RowSays ss n in
    let known : get is_name self.fixed name ≡ option_copied c.marks_of.result = sym c.marks_of.ensures in
    let row : P (option_map (λ v. v.items) (option_copied c.marks_of.result)) = subst (λ o. P (option_map (λ v. v.items) o)) known (are.fixed name) in
    let marks = c.in-Some.marks.now.items in
    let fixed : P (Some marks) = subst (λ o. P (option_map (λ v. v.items) (option_copied o))) c.in-Some.is row in
    let ids = map object (map object_number c.args.ids.now) in
    let objects = c.in_ok-objects.ensures ∙ ap (λ l. fixed_objects (is_marked l) 0 ids) c.deref.ensures.value ∙ fixed_objects_same (is_marked marks) (is_fixed ss n) fixed 0 ids in
    c.get_index_of.ensures.index ∙ found_in (record { name = name; objects = c.in_ok-objects.objects }) self.counts.entries
    ∙ ap (λ os. number_in (key_with n os) (counts_in self.counts)) objects ∙ ap (number_in (key_with n (fixed_objects (is_fixed ss n) 0 ids))) are.counts

pub returns-in_default : goal.returns-in_default
returns-in_default c = λ ss are.
    let name = c.args.name in
    let P : Option (List Bool) → Type 0 = RowSays ss (name_view name) in
    let known : get is_name c.args.self.now.fixed name ≡ option_copied c.marks_of.result = sym c.marks_of.ensures in
    let row : P (option_map (λ v. v.items) (option_copied c.marks_of.result)) = subst (λ o. P (option_map (λ v. v.items) o)) known (are.fixed name) in
    let all : P None = subst (λ o. P (option_map (λ v. v.items) (option_copied o))) c.in_default.is row in
    sym (unnamed ss (name_view name) (map object_number c.args.ids.now) all)
