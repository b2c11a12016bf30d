use Rattle.hv_world.specs.Bindings.{ground_actions_view}
use Rattle.hv_world.specs.WorldViews.{world_view}
use Rattle.hv_plan.specs.inside.FitViews.{decomposed_lines}
use Rattle.hv_plan.specs.LineViews.{plan_view}
use Rattle.hv_plan.proofs.WorldLaws.{child_fault_is_cause}
use Rattle.hv_plan.proofs.FitWorldLemmas.{fit_unless_at_fault}
use Rattle.hv_plan.proofs.build.check_children.Goals as goal

pub returns-in-Some-2-clause-err : goal.returns-in-Some-2-clause-err
returns-in-Some-2-clause-err c =
    child_fault_is_cause (world_view c.args.world.now) (plan_view c.args.plan.now) c.requires.form (ground_actions_view c.args.fits.now.actions) (decomposed_lines c.args.fits.now.lines)
    c.requires.actions c.requires.lines c.in-Some-2.cause (rw c.in-Some-2.is at c.in_ok-cause.ensures)

pub returns-in-None-clause-ok : goal.returns-in-None-clause-ok
returns-in-None-clause-ok c =
    fit_unless_at_fault (world_view c.args.world.now) (plan_view c.args.plan.now) c.requires.form (ground_actions_view c.args.fits.now.actions) (decomposed_lines c.args.fits.now.lines)
    c.requires.actions c.requires.lines (rw c.in-None.is at c.in_ok-cause.ensures)
