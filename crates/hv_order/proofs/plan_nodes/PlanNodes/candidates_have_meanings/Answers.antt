use Rattle.std.proofs.Common.{◌↔◌, ℕ, subst}
use Rattle.hv_order.specs.Meanings.{Meaning}
use Rattle.hv_order.specs.Settings.{Setting, HasCandidate, IsMeaning}
use Rattle.hv_order.proofs.NodeParts.{meanings_both}
use Rattle.hv_order.proofs.plan_nodes.PlanNodes.candidates_have_meanings.Goals as goal

pub returns : goal.returns
returns c =
    let P : Setting → Type 0 = λ q. (v : ℕ) → HasCandidate q v ↔ ((m : Meaning) × IsMeaning q v m) in
    subst P c.self.view_is (meanings_both _ c.self.invariant.is_setting)
