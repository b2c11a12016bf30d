use Rattle.std.proofs.Common.{◌≡◌, ◌&&◌, not, true, IfOk, length, filter, map, replicate, ap, ◌∙◌, subst, rules}
use Rattle.std.specs.List.{range_with_len}
use Rattle.hv_world.specs.Alike.{has_variable, is_argument}
use Rattle.hv_world.specs.inside.Kept.{is_marked}
use Rattle.hv_world.specs.Views.{term_view, subtask_view}
use Rattle.hv_world.proofs.AlikeLemmas.{free_left, over_whole}
use Rattle.hv_world.proofs.alike.free_parameters.Goals as goal

pub returns : goal.returns
returns c =
    let n = c.args.parameters in
    let v = c.in_ok-marks.marks in
    let xs = map term_view c.args.task.now in
    let ss = map subtask_view c.args.subtasks.now in
    let made : v.items ≡ replicate n true = search rules in
    let len : v.len ≡ n = search rules in
    let size : length v.items ≡ v.len = search rules in
    let whole : length c.keep_free.new.marks ≡ v.len = c.keep_free.ensures.len ∙ ap length c.deref_mut.ensures.value ∙ size in
    let now : c.deref.result.now ≡ c.keep_free.new.marks = c.deref.ensures.value ∙ over_whole v.len c.keep_free.new.marks v.items whole in
    let left : filter (is_marked c.deref.result.now) (range_with_len 0 n) ≡ _ = free_left n c.deref.result.now xs ss (λ k.
    ap (λ l. is_marked l k) now ∙ c.keep_free.ensures.marks k
    ∙ ap (λ l. (is_marked l k && not (has_variable k xs)) && not (is_argument k ss)) (c.deref_mut.ensures.value ∙ made)) in
    subst (λ l. IfOk c.marked_numbers.result (λ w. w.items ≡ l)) (ap (λ m. filter (is_marked c.deref.result.now) (range_with_len 0 m)) (c.deref.ensures.len ∙ len) ∙ left) c.marked_numbers.ensures
