use Rattle.std.proofs.Common.{map, take, ◌++◌, ◌∷◌, [], sym, subst, ap, ◌∙◌}
use Rattle.hv_world.specs.inside.Kept.{RowsSay}
use Rattle.hv_world.specs.Views.{subtask_view}
use Rattle.hv_world.proofs.AlikeLemmas.{take_more, take_whole}
use Rattle.hv_world.proofs.alike.fixed_positions.Goals as goal

pub loop-subtask-preserved : goal.loop-subtask-preserved
loop-subtask-preserved c =
    let l = c.loop-subtask in
    let more = take_more subtask_view c.args.subtasks.now l.subtask-index c.subtask-item.result c.loop-subtask-test.true in
    subst (λ ss. RowsSay ss c.note_objects.new.rows) (sym (more ∙ ap (λ s. map subtask_view (take l.subtask-index c.args.subtasks.now) ++ subtask_view s ∷ []) (sym c.subtask-item.is)))
    (c.in_ok-note_objects.ensures (map subtask_view (take l.subtask-index c.args.subtasks.now)) l.invariant)

pub returns : goal.returns
returns c = subst (λ l. RowsSay (map subtask_view l) c.loop-subtask.rows) (take_whole c.loop-subtask.subtask-index c.args.subtasks.now c.loop-subtask-test.false) c.loop-subtask.invariant
