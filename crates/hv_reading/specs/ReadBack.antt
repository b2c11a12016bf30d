-- What it means that a printed text is read back.
use Rattle.std.specs.Prelude.{◌≡◌, ◌≤◌, ℕ, List, length}
use Rattle.hv_text.specs.declared.fault.TheConstants.{MOST_BYTES}

-- if a text is within the limit, it says a value that is this one, places aside
abbrev pub IsReadBack : {A : Type 0} → (List ℕ → A → Type 0) → (A → A) → List ℕ → A → Type 0
IsReadBack {A} Says bare text v = length text ≤ MOST_BYTES
    → (u : A) × Says text u × (bare u ≡ bare v)
