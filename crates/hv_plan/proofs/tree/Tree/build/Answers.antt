use Rattle.std.specs.Prelude.{Result, Ok, Err, IfOk}
use Rattle.std.proofs.lemmas.Result.{err_from_is_err_and}
use Rattle.hv_world.specs.Worlds.{World}
use Rattle.hv_world.specs.WorldViews.{world_view}
use Rattle.hv_plan.specs.declared.tree.Tree.{Tree}
use Rattle.hv_plan.specs.BuiltTrees.{tree_view}
use Rattle.hv_plan.specs.Fits.{FitWorld}
use Rattle.hv_plan.specs.LineViews.{plan_view}
use Rattle.hv_plan.specs.PlanTrees.{IsTreeIn, IsTreeOf}
use Rattle.hv_plan.specs.Shapes.{FormTree}
use Rattle.hv_plan.specs.Values.{Plan}
use Rattle.hv_plan.proofs.tree.Tree.build.Goals as goal

-- a tree of a plan that forms one and fits the world is a tree of this world
in_world : {E : Type 0} (w : World) (p : Plan) (r : Result Tree E) → FormTree p
    → IfOk r (λ t. FitWorld w p × IsTreeOf w p (tree_view t)) → IfOk r (λ t. IsTreeIn w (tree_view t))
in_world w p (Ok t) forms is = record { plan = p; forms = forms; fits = is.0; is_tree = is.1 }
in_world w p (Err e) forms is = tt

pub returns-in_err-shape-clause-err : goal.returns-in_err-shape-clause-err
returns-in_err-shape-clause-err c =
    let p = err_from_is_err_and c.from_residual.result c.from_residual.ensures.1 in
    rw (p.1, p.2) (c.in_err-shape.ensures.err (world_view c.args.world.now))

pub returns-clause-tree : goal.returns-clause-tree
returns-clause-tree c =
    in_world (world_view c.args.world.now) (plan_view c.args.plan.now) c.build_shaped.result (c.in_ok-shape.ensures.ok.0) c.build_shaped.ensures.ok
