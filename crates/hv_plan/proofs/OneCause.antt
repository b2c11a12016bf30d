-- Lines form a tree that fits a world, or have one cause that is reported, at one line.
use Rattle.std.proofs.Common.{◌≡◌, ◌<◌, ◌≤◌, ◌⊎◌, inl, inr, ℕ, sym, subst, arith}
use Rattle.hv_lists.proofs.Numbers.{either_side}
use Rattle.hv_world.specs.Types.{Of}
use Rattle.hv_world.specs.Worlds.{World}
use Rattle.hv_plan.specs.Values.{Plan}
use Rattle.hv_plan.specs.Shapes.{FormTree, IsInTextOrder}
use Rattle.hv_plan.specs.Fits.{FitWorld}
use Rattle.hv_plan.specs.Causes.{number, Qualifies, IsCause}
use Rattle.hv_plan.specs.declared.cause.CauseKind.{CauseKind}
use Rattle.hv_plan.specs.declared.cause.Cause.{Cause}
use Rattle.hv_plan.proofs.FitLemmas.{same_cause}
use Rattle.hv_plan.proofs.FormFound.{FormCause, form_or_cause}
use Rattle.hv_plan.proofs.FitFound.{fit_or_cause}

pub one_cause : (w : World) (p : Plan) (c d : Cause) → IsCause w p c → IsCause w p d → c ≡ d
one_cause w p c d is other = by (either_side (number c.kind) (number d.kind)) (either_side (number d.kind) (number c.kind))
  where
    same : c.kind ≡ d.kind → c ≡ d
    same k =
        let P : CauseKind → Type 0 = λ j. Qualifies w p j d.line in
        let Q : CauseKind → Type 0 = λ j. Qualifies w p j c.line in
        let here : c.line ≤ d.line = is.first d.line (subst P (sym k) other.qualifies) in
        let there : d.line ≤ c.line = other.first c.line (subst Q k is.qualifies) in
        let line : c.line ≡ d.line = omega (arith, here, there) in
        λ i. record { kind = k i; line = line i }

    by : (number c.kind < number d.kind) ⊎ (number d.kind ≤ number c.kind) → (number d.kind < number c.kind) ⊎ (number c.kind ≤ number d.kind) → c ≡ d
    by (inl less) q = absurd (other.smallest c.kind c.line less is.qualifies)
    by (inr ge) (inl less) = absurd (is.smallest d.kind d.line less other.qualifies)
    by (inr ge) (inr le) = same (same_cause c.kind d.kind (omega (arith, ge, le)))

-- lines form a tree that fits a world, where its types are decided, or there is a cause
pub tree_or_cause : (w : World) (p : Plan) → ((o t : ℕ) → Of w.typing o t ⊎ (Of w.typing o t → ⊥)) → IsInTextOrder p → (FormTree p × FitWorld w p) ⊎ ((c : Cause) × IsCause w p c)
tree_or_cause w p decided order = by (form_or_cause p order)
  where
    fitted : FormTree p → FitWorld w p ⊎ ((c : Cause) × IsCause w p c) → (FormTree p × FitWorld w p) ⊎ ((c : Cause) × IsCause w p c)
    fitted form (inl fits) = inl (form, fits)
    fitted form (inr cause) = inr cause

    by : FormTree p ⊎ FormCause p → (FormTree p × FitWorld w p) ⊎ ((c : Cause) × IsCause w p c)
    by (inl form) = fitted form (fit_or_cause w decided p form)
    by (inr (c, is)) = inr (c, is w)
