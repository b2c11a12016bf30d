use Rattle.std.proofs.Common.{subst}
use Rattle.hv_order.specs.Certified.{IsUnsolvedBy}
use Rattle.hv_order.specs.Settings.{Setting}
use Rattle.hv_order.proofs.solution.solution.Goals as goal

pub returns-clause-unsolved : goal.returns-clause-unsolved
returns-clause-unsolved c =
    let P : Setting → Type 0 = λ q. IsUnsolvedBy q c.in_ok-why_unsolved-in-None.field-0 in
    subst P c.in_ok-nodes.ensures c.in_ok-why_unsolved-in-None.ensures
