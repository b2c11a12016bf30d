use Rattle.hv_world.specs.WorldViews.{world_view}
use Rattle.hv_plan.specs.LineViews.{plan_view}
use Rattle.hv_judge.proofs.VerdictLemmas.{has_trees}
use Rattle.hv_judge.proofs.verdict.tree_of.Goals as goal

pub returns-clause-ok : goal.returns-clause-ok
returns-clause-ok c =
    has_trees (world_view c.args.world.now) (plan_view c.args.plan) c.build.result c.build.ensures.ok
