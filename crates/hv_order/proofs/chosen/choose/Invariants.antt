use Rattle.std.proofs.Common.{◌≡◌, ℕ, Some, length, slice_get}
use Rattle.hv_order.specs.inside.Chosen.{IsChosenBy}
use Rattle.hv_order.specs.declared.certify.Chosen.{Chosen}
use Rattle.hv_order.proofs.chosen.choose.Given as goal

abbrev pub invariant-loop-stand : goal.invariant-loop-stand
invariant-loop-stand l =
    (length l.chosen.items ≡ l.stand-index) × ((v : ℕ) (c : Chosen) → slice_get l.chosen.items v ≡ Some c → IsChosenBy l.stands v c)
