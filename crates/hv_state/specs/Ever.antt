-- Which atoms are true somewhere in a stretch of a plan's states.
use Rattle.std.specs.Prelude.{◌≡◌, ◌≤◌, ◌<◌, ℕ, Bool, true, false, ◌||◌, List, [], ◌∷◌, ◌++◌, bytes_eq}
use Rattle.std.specs.List.{filter}
use Rattle.hv_world.specs.Bindings.{GroundAtom}
use Rattle.hv_state.specs.Atoms.{row_of}
use Rattle.hv_state.specs.Plans.{Plan, StateAt}
use Rattle.hv_state.specs.inside.Histories.{beside, rows_of}
use Rattle.hv_state.specs.inside.Stretches.{is_lit, is_true_in}
use Rattle.hv_state.specs.declared.ever.EverTrue.{EverTrue}

-- whether the row of an atom is one of these
abbrev pub is_listed : List (List ℕ) → GroundAtom → Bool
is_listed [] g = false
is_listed (r ∷ rows) g = bytes_eq (row_of g) r || is_listed rows g

-- the rows that are looked up, of those of the atoms that a state has a bit for, and of those that
-- the actions touch: which these are, `HasAllEver` tells as far as it matters
abbrev pub ever_rows : EverTrue → List (List ℕ)
ever_rows e =
    filter (λ row. is_true_in (is_lit e.first.now row) e.from e.end (beside e.changes.now row))
    (e.first.now.0 ++ rows_of e.changes.now)

-- each atom that is true after so many actions of a plan, from a number on and below an end, has
-- its row among these
abbrev pub HasAllEver : Plan → ℕ → ℕ → List (List ℕ) → Type 0
HasAllEver p from end rows = (k : ℕ) (g : GroundAtom) → from ≤ k → k < end → StateAt p k g
    → is_listed rows g ≡ true
