use Rattle.std.proofs.Common.{◌++◌, ◌&&◌, not, map, take, ◌∷◌, [], sym, ap, ◌∙◌}
use Rattle.hv_world.specs.Alike.{is_argument, has_variable}
use Rattle.hv_world.specs.inside.Kept.{is_marked}
use Rattle.hv_world.specs.Views.{term_view, subtask_view}
use Rattle.hv_world.proofs.AlikeLemmas.{take_more, argument_more, off_twice}
use Rattle.hv_world.proofs.alike.unmark_arguments.Goals as goal

pub loop-subtask-preserved : goal.loop-subtask-preserved
loop-subtask-preserved c =
    let l = c.loop-subtask in
    let s = c.subtask-item.result in
    let ss = map subtask_view (take l.subtask-index c.args.subtasks.now) in
    let more = take_more subtask_view c.args.subtasks.now l.subtask-index s c.loop-subtask-test.true ∙ ap (λ z. ss ++ subtask_view z ∷ []) (sym c.subtask-item.is) in (
      c.unmark.ensures.len ∙ l.invariant.0,
      λ k. c.unmark.ensures.marks k
          ∙ ap (λ xs. is_marked l.marks k && not (has_variable k (map term_view xs))) c.deref.ensures
          ∙ ap (λ b. b && not (has_variable k (map term_view s.terms.items))) (l.invariant.1 k)
          ∙ off_twice (is_marked c.args.marks.now k) (is_argument k ss) (has_variable k (map term_view s.terms.items))
          ∙ ap (λ b. is_marked c.args.marks.now k && not b) (sym (argument_more k ss (subtask_view s)) ∙ ap (is_argument k) (sym more)),
    )
