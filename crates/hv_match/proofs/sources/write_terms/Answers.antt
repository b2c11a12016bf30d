use Rattle.std.proofs.Common.{◌≡◌, ◌+◌, ◌-◌, ◌<◌, map, length, ◌∙◌, arith}
use Rattle.hv_world.specs.Views.{term_view}
use Rattle.hv_match.proofs.Steps.{from_place}
use Rattle.hv_match.proofs.FirstPlaces.{term_more}
use Rattle.hv_match.proofs.sources.write_terms.Goals as goal

pub loop-position-preserved : goal.loop-position-preserved
loop-position-preserved c =
    let n = c.loop-position.position in
    let xs = c.args.terms.now in
    let one : n - 1 + 1 ≡ n = omega (arith, c.loop-position-test.true) in
    let low : n - 1 < length xs = omega (arith, c.loop-position-test.true, c.loop-position.invariant.0) in (
      omega (arith, c.loop-position.invariant.0),
      c.write.ensures.size ∙ c.loop-position.invariant.1,
      λ i lt. term_more c.args.subtask i (n - 1) n (map term_view xs) _ _ _ _ one (from_place term_view xs (n - 1) _ low) (c.write.ensures.sources i (omega (arith, lt, c.loop-position.invariant.1))) (c.loop-position.invariant.2 i lt),
    )
