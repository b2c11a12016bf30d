use Rattle.std.proofs.Common.{◌≡◌, ◌+◌, ◌-◌, arith}
use Rattle.hv_lists.proofs.Options.{on_err}
use Rattle.hv_answer.proofs.WriteLemmas.{lower_fails, lower_more}
use Rattle.hv_answer.proofs.write.write_lower.Goals as goal

pub returns-in_err-write_lower_part-clause-err : goal.returns-in_err-write_lower_part-clause-err
returns-in_err-write_lower_part-clause-err g c =
    on_err c.from_residual.result _
    (lower_fails _ _ _ c.args.bytes.now c.parts.at _ c.parts.invariant.1 c.in_err-write_lower_part.ensures.err)

pub parts-preserved : goal.parts-preserved
parts-preserved g c =
    let count : (c.parts.at + c.min-count.result) - c.parts.at ≡ c.min-count.result = omega arith in (
      omega arith,
      lower_more _ _ _ c.args.bytes.now c.parts.at c.min-count.result _ count c.parts.invariant.1 c.in_ok-write_lower_part.ensures.ok,
      omega (arith, c.in_ok-write_lower_part.ensures.failures, c.parts.invariant.2),
    )
