-- When the truth of an atom changes on the way of a plan.
use Rattle.std.specs.Prelude.{◌≡◌, ℕ, suc, ◌+◌, ◌<◌, ◌≤◌, ◌↔◌, ◌⊎◌, Bool, IsTrue, List, [], ◌∷◌, ◌++◌, length, Option, Some, None, nat_le, if◌then◌else◌}
use Rattle.hv_world.specs.Values.{Formula, Formulas, holds, and, or, not, imply, forall, exists, equal, no_formulas, more_formulas}
use Rattle.hv_world.specs.Types.{Typing}
use Rattle.hv_world.specs.Bindings.{GroundAtom, atom_under}
use Rattle.hv_state.specs.Atoms.{Atoms}
use Rattle.hv_state.specs.Truth.{ForSome, True}
use Rattle.hv_state.specs.Plans.{Plan, StateAt}

-- from this index on an atom is true, or false
abbrev pub Change : Type 0
Change = ℕ × Bool

-- the action behind n others leaves an atom as it was
abbrev pub Stays : Plan → GroundAtom → ℕ → Type 0
Stays p g n = StateAt p n g ↔ StateAt p (suc n) g

-- the changes of an atom's truth in the first n actions, in order
pub data AreChanges (p : Plan) (g : GroundAtom) : ℕ → List Change → Type 0 where
  none_yet : AreChanges p g 0 []
  stays : {n : ℕ} {cs : List Change} → AreChanges p g n cs → Stays p g n → AreChanges p g (suc n) cs
  turns : {n : ℕ} {cs : List Change} {b : Bool} → AreChanges p g n cs → (Stays p g n → ⊥)
      → (IsTrue b ↔ StateAt p (suc n) g) → AreChanges p g (suc n) (cs ++ (suc n, b) ∷ [])

-- what the last change up to an index says; before the first one nothing
abbrev pub told_from : Option Bool → ℕ → List Change → Option Bool
told_from o k [] = o
told_from o k (c ∷ cs) = told_from (if nat_le c.0 k then Some c.1 else o) k cs

abbrev pub told : ℕ → List Change → Option Bool
told k cs = told_from None k cs

-- what changes say up to an index, by what was so at the start
abbrev pub Tells : Type 0 → ℕ → List Change → Type 0
Tells start k cs = elim (told k cs) [ None ↦ start | Some b ↦ IsTrue b ]

-- what is true after k actions, by what was true at the start and the changes since
abbrev pub TrueAfter : Atoms → (GroundAtom → List Change) → ℕ → Atoms
TrueAfter start changes k g = Tells (start g) k (changes g)

-- the formula speaks of the atom, where the variables have these objects
module _ (w : Typing) (g : GroundAtom) where
  abbrev mutual
    pub Mentions : Formula → List ℕ → Type 0
    Mentions (holds a) env = atom_under env a ≡ g
    Mentions (and fs) env = SomeMention fs env
    Mentions (or fs) env = SomeMention fs env
    Mentions (not f) env = Mentions f env
    Mentions (imply f h) env = Mentions f env ⊎ Mentions h env
    Mentions (forall ts f) env = ForSome w (Mentions f) ts env
    Mentions (exists ts f) env = ForSome w (Mentions f) ts env
    Mentions (equal s t) env = ⊥

    pub SomeMention : Formulas → List ℕ → Type 0
    SomeMention no_formulas env = ⊥
    SomeMention (more_formulas f fs) env = Mentions f env ⊎ SomeMention fs env

-- j is the first index after k at which an atom changes that the formula speaks of, or
-- one past the last
pub record IsNextChange (p : Plan) (k : ℕ) (f : Formula) (env : List ℕ) (j : ℕ) : Type 0 where
  pub after : k < j
  pub within : j ≤ length p.actions + 1
  pub quiet : (i : ℕ) (g : GroundAtom) → k ≤ i → i + 1 < j → Mentions p.world.typing g f env
      → Stays p g i
  pub change : j ≤ length p.actions
      → (i : ℕ) × (i + 1 ≡ j)
      × ((g : GroundAtom) × Mentions p.world.typing g f env × (Stays p g i → ⊥))

-- the formula is false from one index on, up to before another
abbrev pub AreFalse : Plan → Formula → List ℕ → ℕ → ℕ → Type 0
AreFalse p f env from end = (k : ℕ) → from ≤ k → k < end → True p.world.typing (StateAt p k) f env
    → ⊥

-- i is the first index between two, both with, at which the formula is true, and j the last before
-- an atom changes that it speaks of: up to there it is true
pub record IsFirstTrue (p : Plan) (f : Formula) (env : List ℕ) (from upto i j : ℕ) : Type 0 where
  pub after : from ≤ i
  pub within : i ≤ upto
  pub before : AreFalse p f env from i
  pub order : i ≤ j
  pub stays : (k : ℕ) → i ≤ k → k ≤ j → True p.world.typing (StateAt p k) f env
  pub next : IsNextChange p i f env (j + 1)
