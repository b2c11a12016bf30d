use Rattle.std.proofs.Common.{map, arith, refl}
use Rattle.hv_syntax.specs.DeclarationViews.{task_view}
use Rattle.std.specs.List.{flat_map}
use Rattle.std.proofs.Common.{subst}
use Rattle.hv_world.specs.inside.Gathers.{lists_in, AreGathered}
use Rattle.hv_world.proofs.GatherLemmas.{gathered_next, gathered_end}
use Rattle.hv_world.proofs.tables.gather.add_tasks.Goals as goal

pub loop-task-preserved : goal.loop-task-preserved
loop-task-preserved c =
    let l = c.loop-task in
    gathered_next task_view (λ t. t.parameters) c.args.tasks.now l.task-index (lists_in c.args.lists.now) (lists_in l.lists) c.task-item.result (lists_in c.add_variables.new.lists) (omega arith) c.task-item.is l.invariant (subst (λ vs. AreGathered (lists_in c.loop-task.lists) vs (lists_in c.add_variables.new.lists)) c.parameters.ensures c.in_ok-add_variables.ensures)

pub returns : goal.returns
returns c =
    let l = c.loop-task in
    let xs = c.args.tasks.now in
    gathered_end task_view (λ t. t.parameters) xs l.task-index (lists_in c.args.lists.now) (lists_in l.lists) (flat_map (λ t. t.parameters) (map task_view xs)) c.loop-task-test.false refl l.invariant
