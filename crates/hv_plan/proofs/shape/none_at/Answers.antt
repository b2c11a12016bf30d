use Rattle.std.proofs.Common.{ℕ, Option, subst}
use Rattle.hv_plan.specs.LineViews.{plan_view}
use Rattle.hv_plan.specs.inside.ShapeCauses.{IsFirstFor}
use Rattle.hv_plan.proofs.ShapeFaults.{none_so_far, the_cause}
use Rattle.hv_plan.proofs.shape.none_at.Goals as goal

pub returns-in-None-clause-ok : goal.returns-in-None-clause-ok
returns-in-None-clause-ok c =
    let P : Option ℕ → Type 0 = IsFirstFor (plan_view c.args.plan.now) c.args.kind in
    none_so_far (plan_view c.args.plan.now) c.args.kind c.requires.below (subst P c.in-None.is c.requires.first)

pub returns-in-Some-clause-err : goal.returns-in-Some-clause-err
returns-in-Some-clause-err c =
    let P : Option ℕ → Type 0 = IsFirstFor (plan_view c.args.plan.now) c.args.kind in
    the_cause (plan_view c.args.plan.now) c.args.kind c.in-Some.line c.requires.below (subst P c.in-Some.is c.requires.first)
