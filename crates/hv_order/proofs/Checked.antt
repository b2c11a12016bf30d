-- What a yes and a no tell.
use Rattle.std.proofs.Common.{◌≡◌, Bool, true, false, refl, sym, ◌∙◌}
use Rattle.hv_match.specs.Candidates.{Tells}
use Rattle.hv_order.proofs.Members.{not_true}

pub tells_no : (P : Type 0) → (P → ⊥) → Tells P false
tells_no P none = (λ e. not_true e, λ h. absurd (none h))

pub tells_yes : (P : Type 0) → P → Tells P true
tells_yes P h = (λ e. h, λ p. refl)

pub told_no : (P : Type 0) (b : Bool) → Tells P b → b ≡ false → P → ⊥
told_no P b tells off h = not_true (sym off ∙ tells.1 h)
