use Rattle.std.proofs.Common.{◌≡◌, ◌∙◌, map, length, sym, arith}
use Rattle.std.proofs.lemmas.List.{length-map}
use Rattle.hv_world.specs.Views.{name_view, subtask_view}
use Rattle.hv_plan.specs.inside.Tallies.{count, names}
use Rattle.hv_plan.proofs.subtasks.Tally.names_fault.Goals as goal

pub returns-then-len-subtasks-clause-fault : goal.returns-then-len-subtasks-clause-fault
returns-then-len-subtasks-clause-fault c =
    count (λ same. let own = c.args.self.now.names in
    let e : length own.items ≡ length c.args.subtasks.now = sym (length-map own.items name_view) ∙ same ∙ length-map (map subtask_view c.args.subtasks.now) (λ x. x.name) ∙ length-map c.args.subtasks.now subtask_view in
    omega (arith, e, own.ok, c.len.ensures, c.if-len-subtasks.true))

pub returns-else-branch-clause-fault : goal.returns-else-branch-clause-fault
returns-else-branch-clause-fault c =
    let own = c.args.self.now.names in
    let e : length own.items ≡ length c.args.subtasks.now = omega (arith, own.ok, c.len.ensures, c.if-len-subtasks.false) in
    let (n, differ) = rw c.if-branch.false at c.in_ok-have_same_names.ensures.same in
    names (length-map own.items name_view ∙ e ∙ sym (length-map (map subtask_view c.args.subtasks.now) (λ x. x.name) ∙ length-map c.args.subtasks.now subtask_view)) n differ
