use Rattle.std.proofs.Common.{◌↔◌, None, subst}
use Rattle.hv_plan.specs.PlanTrees.{root_number}
use Rattle.hv_order.specs.Settings.{Setting, last, IsSolved}
use Rattle.hv_order.specs.Tables.{IsLeast}
use Rattle.hv_order.specs.inside.PlanFacts.{FitsNode}
use Rattle.hv_order.proofs.RootNode.{solved_fits, unsolved}
use Rattle.hv_order.proofs.plan_nodes.PlanNodes.root_decides.Goals as goal

pub returns-clause-fits : goal.returns-clause-fits
returns-clause-fits c =
    let P : Setting → Type 0 = λ q. IsSolved q ↔ FitsNode q (root_number q.tree) 0 (last q) in
    subst P c.self.view_is (solved_fits _ c.self.invariant.is_setting)

pub returns-clause-unsolved : goal.returns-clause-unsolved
returns-clause-unsolved c =
    let P : Setting → Type 0 = λ q. IsLeast (FitsNode q (root_number q.tree) 0) (last q) None → IsSolved q → ⊥ in
    subst P c.self.view_is (unsolved _ c.self.invariant.is_setting)
