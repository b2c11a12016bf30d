use Rattle.std.proofs.Common.{◌≡◌, ℕ, subst, arith}
use Rattle.hv_plan.specs.inside.Shaping.{IsNumbering}
use Rattle.hv_plan.proofs.shape.numbers.number_met.Goals as goal

pub returns-clause-numbering : goal.returns-clause-numbering
returns-clause-numbering c =
    let done : c.met.at ≡ 0 = omega (arith, c.met-test.false) in
    let P : ℕ → Type 0 = λ at. IsNumbering c.args.actions at c.args.met.items c.met.numbering.lines.items c.met.numbering.numbers.items in
    subst P done c.met.invariant.2
