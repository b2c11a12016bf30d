use Rattle.std.proofs.Common.{◌≡◌, ◌+◌, ℕ, Option, ap, subst, sym, ◌∙◌, arith, length}
use Rattle.hv_plan.specs.inside.Shaping.{IsFirst, IsMissed, is_marked, earlier}
use Rattle.hv_plan.proofs.FirstLines.{missed_next}
use Rattle.hv_plan.proofs.shape.first_unmet.Goals as goal

pub loop-place-preserved : goal.loop-place-preserved
loop-place-preserved c =
    let k = c.loop-place.place in
    let P : Option ℕ → Type 0 = IsFirst (IsMissed (is_marked c.args.is_met.now) c.args.lines.now (k + 1)) in (
      omega (arith, c.loop-place-test.true),
      subst P (sym (c.earlier-found.ensures ∙ ap (earlier c.loop-place.found) c.line_unless.ensures)) (missed_next (is_marked c.args.is_met.now) c.args.lines.now k c.loop-place.found c.loop-place.invariant.1),
    )

pub returns : goal.returns
returns c =
    let P : ℕ → Type 0 = λ k. IsFirst (IsMissed (is_marked c.args.is_met.now) c.args.lines.now k) c.loop-place.found in
    let done : c.loop-place.place ≡ length c.args.is_met.now = omega (arith, c.loop-place-test.false, c.loop-place.invariant.0) in
    subst P done c.loop-place.invariant.1
