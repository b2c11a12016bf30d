use Rattle.std.proofs.Common.{◌≡◌, ◌+◌, ℕ, Option, ap, subst, sym, ◌∙◌, arith, length}
use Rattle.hv_plan.specs.inside.Shaping.{IsFirst, IsMissed, earlier}
use Rattle.hv_plan.specs.inside.Tables.{is_within}
use Rattle.hv_plan.proofs.FirstLines.{missed_next}
use Rattle.hv_plan.proofs.shape.places.unknown_child.Goals as goal

pub loop-k-preserved : goal.loop-k-preserved
loop-k-preserved c =
    let k = c.loop-k.k in
    let P : Option ℕ → Type 0 = IsFirst (IsMissed (is_within c.args.count c.args.places.now) c.args.lines.now (k + 1)) in (
      omega (arith, c.loop-k-test.true),
      subst P (sym (c.earlier-unknown.ensures ∙ ap (earlier c.loop-k.unknown) c.line_unless.ensures)) (missed_next (is_within c.args.count c.args.places.now) c.args.lines.now k c.loop-k.unknown c.loop-k.invariant.1),
    )

pub returns : goal.returns
returns c =
    let P : ℕ → Type 0 = λ k. IsFirst (IsMissed (is_within c.args.count c.args.places.now) c.args.lines.now k) c.loop-k.unknown in
    let done : c.loop-k.k ≡ length c.args.places.now = omega (arith, c.loop-k-test.false, c.loop-k.invariant.0) in
    subst P done c.loop-k.invariant.1
