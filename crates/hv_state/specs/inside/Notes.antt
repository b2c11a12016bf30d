-- How changes are noted on the way of a plan.
use Rattle.std.specs.Prelude.{◌≡◌, ℕ, zero, suc, ◌<◌, ◌↔◌, ◌⊎◌, Bool, IsTrue, List, [], ◌∷◌, ◌++◌, All, length, Some, None, slice_get, slice_index_or}
use Rattle.std.specs.List.{Contains}
use Rattle.hv_world.specs.Bindings.{GroundAtom, GroundAction}
use Rattle.hv_world.specs.Effects.{Adds, Deletes}
use Rattle.hv_world.specs.Worlds.{World}
use Rattle.hv_state.specs.Atoms.{Atoms, Same, row_of}
use Rattle.hv_state.specs.Plans.{Plan, IsApplicableIn, AfterAction, StateAt, CanRun}
use Rattle.hv_state.specs.declared.rows.Row.{Row}
use Rattle.hv_state.specs.inside.Rows.{rows_in, HaveJoined}
use Rattle.hv_state.specs.Changes.{Change, AreChanges, Tells, TrueAfter}
use Rattle.hv_state.specs.inside.Histories.{Table, Rise, rows_of, kept}

-- the atoms that an action deletes, and those that it adds
abbrev pub TouchedBy : World → GroundAction → Atoms
TouchedBy w a g =
    elim (slice_get w.actions a.action) [
      | None ↦ ⊥
      | Some x ↦ Deletes w.typing a.objects x.effect g
          ⊎ Adds w.typing a.objects x.effect g
    ]

-- the same of several actions
abbrev pub TouchedIn : World → List GroundAction → Atoms
TouchedIn w [] g = ⊥
TouchedIn w (a ∷ rest) g = TouchedBy w a g ⊎ TouchedIn w rest g

-- the rows of what the first n actions touch are among these
abbrev pub AreDone : World → List GroundAction → ℕ → List (List ℕ) → Type 0
AreDone w xs n rows = (j : ℕ) (a : GroundAction) → j < n → slice_get xs j ≡ Some a
    → (g : GroundAtom) → TouchedBy w a g → Contains rows (row_of g)

-- and those of what the next touches have come to them
abbrev pub HaveNextJoined : World → List GroundAction → ℕ → List Row → List Row → Type 0
HaveNextJoined w xs n old new = (a : GroundAction) → slice_get xs n ≡ Some a
    → AreDone w xs n (rows_in old) → HaveJoined old (TouchedBy w a) new

-- all changes are before an index
abbrev pub Before : ℕ → List Change → Type 0
Before k cs = All (λ c. c.0 < k) cs

-- the last change is at an index
abbrev pub EndsAt : ℕ → List Change → Type 0
EndsAt k cs = (ds : List Change) × (b : Bool) × (cs ≡ ds ++ (k, b) ∷ [])

-- a change is put behind others that are before it, and undoes one that is last among them and at
-- the same index
pub record IsTurned (c : Change) (old new : List Change) : Type 0 where
  pub behind : Before c.0 old → new ≡ old ++ c ∷ []
  pub undone : (cs : List Change) (b : Bool) → old ≡ cs ++ (c.0, b) ∷ [] → new ≡ cs
  pub rise : Rise new

-- the changes at a place are others
abbrev pub replaced : Table → ℕ → List Change → Table
replaced [] i cs = []
replaced (e ∷ es) zero cs = (e.0, cs) ∷ es
replaced (e ∷ es) (suc i) cs = e ∷ replaced es i cs

-- those at a place have turned
abbrev pub IsTurnedAt : Table → ℕ → Change → Table → Type 0
IsTurnedAt old i c new = (cs : List Change) × (new ≡ replaced old i cs)
    × ((d : List ℕ × List Change) → IsTurned c (slice_index_or old i d).1 cs)

-- one change more says what is so now, which is not what was told
abbrev pub Turns : Type 0 → Type 0 → ℕ → List Change → List Change → Type 0
Turns told now from old new = (b : Bool) × (new ≡ old ++ (from, b) ∷ []) × (IsTrue b ↔ now)
    × ((told ↔ now) → ⊥)

-- changes from before an index, or these and one at the index that says otherwise
abbrev pub IsOn : Type 0 → ℕ → List Change → List Change → Type 0
IsOn start from cs new = (new ≡ cs)
    ⊎ ((b : Bool) × (new ≡ cs ++ (from, b) ∷ []) × (Tells start from cs ↔ (IsTrue b → ⊥)))

-- from an index on these atoms are true, or false, and the others are as they were
pub record IsSet (start noted : Atoms) (from : ℕ) (b : Bool) (old new : Table) : Type 0 where
  pub rows : rows_of new ≡ rows_of old
  pub steps : (g : GroundAtom) → (kept new g ≡ kept old g) ⊎ noted g
  pub on : (g : GroundAtom) → noted g → Contains (rows_of old) (row_of g) → (cs : List Change)
      → Before from cs → IsOn (start g) from cs (kept old g) → IsOn (start g) from cs (kept new g)
  pub so : (g : GroundAtom) → noted g → Contains (rows_of old) (row_of g) → (cs : List Change)
      → Before from cs → IsOn (start g) from cs (kept old g)
      → Tells (start g) from (kept new g) ↔ IsTrue b

-- the atoms that an action touches are in the table, with changes from before an index
abbrev pub IsReady : World → GroundAction → ℕ → Table → Type 0
IsReady w a from t = (g : GroundAtom) → TouchedBy w a g
    → Contains (rows_of t) (row_of g) × Before from (kept t g)

-- an action has been done, and what it changes is noted from an index on
pub record IsPassed (w : World) (a : GroundAction) (start : Atoms) (from : ℕ)
    (old new : Table) : Type 0 where
  pub applicable : IsApplicableIn w (TrueAfter start (kept old) from) a
  pub state : Same (TrueAfter start (kept new) from)
      (AfterAction w (TrueAfter start (kept old) from) a)
  pub rows : rows_of new ≡ rows_of old
  pub steps : (g : GroundAtom)
      → (kept new g ≡ kept old g)
      ⊎ Turns (Tells (start g) from (kept old g)) (Tells (start g) from (kept new g)) from
      (kept old g) (kept new g)

-- the plan runs, and this is what is true at its start, and all changes on its way
pub record IsRecorded (p : Plan) (start : Atoms) (t : Table) : Type 0 where
  pub begun : Same start (StateAt p 0)
  pub ran : CanRun p
  pub changes : (g : GroundAtom) → AreChanges p g (length p.actions) (kept t g)
