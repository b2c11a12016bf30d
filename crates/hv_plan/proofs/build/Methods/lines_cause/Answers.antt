use Rattle.std.proofs.Common.{◌+◌, ◌<◌, ◌≤◌, rules, length, map, take, sym, ◌∙◌, subst}
use Rattle.std.proofs.lemmas.List.{take_all}
use Rattle.hv_world.specs.WorldViews.{world_view}
use Rattle.hv_plan.specs.inside.ChildFaults.{ChildFaultIn}
use Rattle.hv_plan.specs.inside.LineFaults.{IsEarliest}
use Rattle.hv_plan.specs.LineViews.{plan_view}
use Rattle.hv_plan.specs.Shapes.{line_parent}
use Rattle.hv_plan.proofs.ChildLemmas.{earliest_more}
use Rattle.hv_plan.proofs.build.Methods.lines_cause.Goals as goal

pub loop-place-preserved : goal.loop-place-preserved
loop-place-preserved c =
    let w = world_view c.args.self.now.world.now in
    let p = plan_view c.args.plan.now in (
      c.in_ok-found.ensures.size ∙ c.loop-place.invariant.0,
      c.in_ok-found.ensures.empty,
      subst (λ o. IsEarliest (ChildFaultIn w p (map line_parent (take (c.loop-place.place + 1) p.decompositions))) o) (sym c.earlier-cause.ensures)
          (let lt : c.loop-place.place < length p.decompositions = search rules in
          earliest_more w p p.decompositions c.loop-place.place lt c.loop-place.cause c.in_ok-found.found c.loop-place.invariant.2 c.in_ok-found.ensures.cause),
    )

pub returns : goal.returns
returns c =
    let w = world_view c.args.self.now.world.now in
    let p = plan_view c.args.plan.now in
    let all : length p.decompositions ≤ c.loop-place.place = search rules in
    subst (λ ds. IsEarliest (ChildFaultIn w p (map line_parent ds)) c.loop-place.cause) (take_all c.loop-place.place p.decompositions all) c.loop-place.invariant.2
