use Rattle.std.proofs.Common.{◌++◌, [], ap, ◌∙◌}
use Rattle.hv_syntax.specs.ProblemViews.{problem_view}
use Rattle.hv_world.specs.declared.fault.Side.TheVariants as sides
use Rattle.hv_world.specs.Scopes.{parameters}
use Rattle.hv_world.specs.Faults.{least}
use Rattle.hv_world.specs.StaticRules.{typed_faults, htn_faults, literals_faults, goal_faults}
use Rattle.hv_world.specs.inside.Tables.{known_by}
use Rattle.hv_world.proofs.FaultLemmas.{least-both}
use Rattle.hv_world.proofs.check.texts.problem_fault.Goals as goal

pub returns : goal.returns
returns c =
    let k = known_by c.args.tables.now in
    let s = sides.Problem in
    let problem = problem_view c.args.problem.now in
    let objects = typed_faults k s problem.objects in
    let htn = htn_faults k s problem.htn in
    let init = literals_faults k s (parameters []) problem.init in
    c.earlier.ensures
    ∙ least-both (objects ++ htn ++ init) (goal_faults k s problem.goal) _ _
    (c.earlier-state.ensures
    ∙ least-both (objects ++ htn) init _ _
    (c.earlier-front.ensures ∙ least-both objects htn _ _ (c.typed_fault-object.ensures ∙ ap (λ vs. least (typed_faults k s vs)) c.objects.ensures) c.requires.top_fault) c.requires.init_fault)
    c.requires.goal_fault
