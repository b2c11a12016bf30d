use Rattle.hv_world.specs.Bindings.{ground_actions_view}
use Rattle.hv_world.specs.WorldViews.{world_view}
use Rattle.hv_plan.specs.inside.FitViews.{decomposed_lines}
use Rattle.hv_plan.specs.LineViews.{plan_view}
use Rattle.hv_plan.specs.inside.ShapeViews.{shape_view}
use Rattle.hv_plan.proofs.AssemblyLemmas.{is_tree_by}
use Rattle.hv_plan.proofs.build.build_shaped.Goals as goal

pub returns-clause-ok : goal.returns-clause-ok
returns-clause-ok c = (
  c.in_ok-check_children.ensures.ok,
  is_tree_by (world_view c.args.world.now) (plan_view c.args.plan.now) (shape_view c.args.shape) c.requires.shape (ground_actions_view c.in_ok-fits.fits.actions) (decomposed_lines c.in_ok-fits.fits.lines)
      c.in_ok-fits.ensures.actions c.in_ok-fits.ensures.lines c.in_ok-action_origins.field-0.items c.in_ok-line_origins.field-0.items c.in_ok-action_origins.ensures c.in_ok-line_origins.ensures,
)
