use Rattle.std.proofs.Common.{◌≡◌, ◌+◌, ◌-◌, ◌<◌, map, length, ap, ◌∙◌, arith, Some}
use Rattle.hv_world.specs.Views.{term_view, subtask_view}
use Rattle.hv_match.specs.inside.Puzzles.{first_in}
use Rattle.hv_match.specs.inside.Tables.{source_at}
use Rattle.hv_match.proofs.Steps.{from_place}
use Rattle.hv_match.proofs.FirstPlaces.{subtask_more}
use Rattle.hv_match.proofs.sources.write_subtasks.Goals as goal

pub loop-number-preserved : goal.loop-number-preserved
loop-number-preserved c =
    let n = c.loop-number.number in
    let xs = c.args.subtasks.now in
    let one : n - 1 + 1 ≡ n = omega (arith, c.loop-number-test.true) in
    let low : n - 1 < length xs = omega (arith, c.loop-number-test.true, c.loop-number.invariant.0) in
    let terms = c.deref.ensures in (
      omega (arith, c.loop-number.invariant.0),
      c.write_terms.ensures.size ∙ c.loop-number.invariant.1,
      λ i lt. subtask_more i (n - 1) n (map subtask_view xs) _ _ _ _ one (from_place subtask_view xs (n - 1) c.index-subtasks-number.result low)
          (c.write_terms.ensures.sources i (omega (arith, lt, c.loop-number.invariant.1)) ∙ ap (λ ts. first_in (Some (n - 1)) i 0 (map term_view ts) (source_at c.loop-number.sources i)) terms) (c.loop-number.invariant.2 i lt),
    )
