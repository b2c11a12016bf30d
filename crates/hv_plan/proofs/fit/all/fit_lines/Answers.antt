use Rattle.std.proofs.Common.{◌≡◌, refl, rules, arith}
use Rattle.std.proofs.lemmas.Grind.{common_steps}
use Rattle.hv_world.specs.WorldViews.{world_view}
use Rattle.hv_plan.specs.inside.FitViews.{decomposed_lines, decomposed_view, IsDecomposed}
use Rattle.hv_plan.specs.inside.LineFaults.{line_entry}
use Rattle.hv_plan.specs.LineViews.{decompositions_view}
use Rattle.hv_plan.specs.LinesLeft.{decompositions_left}
use Rattle.hv_plan.proofs.FitLemmas.{decomposed_has_no_fault}
use Rattle.hv_plan.proofs.EarliestLemmas.{fitted_item, fitted_first, fitted_all}
use Rattle.hv_plan.proofs.fit.all.fit_lines.Goals as goal

pub loop-line-init : goal.loop-line-init
loop-line-init c =
    let w = world_view c.args.world.now in
    let left : decompositions_left c.into_iter-line-iterator.result ≡ decompositions_view c.args.decompositions.now = first_of (search rules, cc, grind (arith, common_steps)) in (
      c.in_ok-lines.ensures.tidy,
      fitted_first w line_entry (IsDecomposed w) (λ e x says k f. decomposed_has_no_fault w e x says k f) (decompositions_view c.args.decompositions.now) _ _ _ left
          c.in_ok-lines.ensures.none refl,
    )

pub loop-line-preserved : goal.loop-line-preserved
loop-line-preserved c = (
  c.in_ok-room.ensures.tidy,
  (let w = world_view c.args.world.now in
      fitted_item w line_entry (IsDecomposed w) (λ e x says k f. decomposed_has_no_fault w e x says k f) decomposed_view (decompositions_view c.args.decompositions.now) _ _ _
      (decomposed_lines c.loop-line.lines) (decomposed_lines c.note_line.new.lines) c.loop-line.cause c.note_line.new.cause c.fit_line-fit.result
      c.in-Some.ensures.steps c.loop-line.invariant.1 c.fit_line-fit.ensures c.in_ok-room.ensures.told c.in_ok-room.ensures.lines c.in_ok-room.ensures.cause),
)

pub returns : goal.returns
returns c =
    let w = world_view c.args.world.now in
    fitted_all w line_entry (IsDecomposed w) (λ e x says k f. decomposed_has_no_fault w e x says k f) (decompositions_view c.args.decompositions.now) _ _ _ c.in-None.ensures.steps.0 c.loop-line.invariant.1
