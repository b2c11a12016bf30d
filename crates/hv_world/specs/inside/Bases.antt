-- Types that have just the objects of one type below them, and what is left where each of these is
-- taken for that one.
use Rattle.std.specs.Prelude.{◌≡◌, ◌≢◌, ℕ, ◌<◌, ◌↔◌, ◌⊎◌, Bool, true, List, [], ◌∷◌, length, map, slice_index, slice_index_or, Option, Some, None, if◌then◌else◌}
use Rattle.std.specs.List.{Contains}
use Rattle.hv_world.specs.Types.{Typing, IsInRange, Reaches, Of}
use Rattle.hv_world.specs.declared.id.TypeId.{TypeId}
use Rattle.hv_world.specs.declared.bases.Graph.{Graph}
use Rattle.hv_world.specs.inside.TypeLists.{list_of, type_lists, type_numbers, AreSeconds, AscendsBelow, AreMembersBelow}

-- the member of a list that has one
abbrev pub only : List ℕ → Option ℕ
only (c ∷ []) = Some c
only _ = None

-- the one type directly below another, where that is not marked
abbrev pub sole_of : List (List ℕ) → List Bool → ℕ → Option ℕ
sole_of below marks t = if slice_index_or marks t true then None else only (list_of below t)

-- one type stands directly below the other, which is not `object`, and no other does and no object
-- is declared of it
pub record IsSole (w : Typing) (c t : ℕ) : Type 0 where
  pub other : t ≢ 0
  pub below : Contains w.parents (c, t)
  pub alone : (x : ℕ) → Contains w.parents (x, t) → x ≡ c
  pub none : (o : ℕ) → Contains w.declared (o, t) → ⊥

-- it is told so, if at all, of types of these
abbrev pub AreSole : Typing → (ℕ → Option ℕ) → Type 0
AreSole w sole = (t c : ℕ) → sole t ≡ Some c → IsSole w c t

-- the base of a type is itself, or else that of the one type below it, and is none that
-- has such a type
pub record IsBased (w : Typing) (sole : ℕ → Option ℕ) (bases : List ℕ) (t : ℕ) : Type 0 where
  pub within : slice_index bases t < w.types
  pub reaches : Reaches w.parents (slice_index bases t) t
  pub by : (slice_index bases t ≡ t)
      ⊎ ((c : ℕ) × (sole t ≡ Some c) × (slice_index bases t ≡ slice_index bases c))
  pub last : slice_index bases t ≢ t → sole (slice_index bases t) ≡ None
  pub object : slice_index bases t ≡ 0 → t ≡ 0

-- so of each type
pub record AreBased (w : Typing) (sole : ℕ → Option ℕ) (bases : List ℕ) : Type 0 where
  pub size : length bases ≡ w.types
  pub each : (t : ℕ) → t < w.types → IsBased w sole bases t

-- these types have this base
abbrev pub HaveBase : List ℕ → ℕ → List ℕ → Type 0
HaveBase bases b ts = (t : ℕ) → Contains ts t → (t < length bases) × (slice_index bases t ≡ b)

-- the types with these parents
abbrev pub with_parents : Typing → List (ℕ × ℕ) → Typing
with_parents w pairs =
    record { types = w.types; objects = w.objects; parents = pairs; declared = w.declared }

-- each pair says that a base stands below another: that of a type directly below it
abbrev pub AreContracted : List (ℕ × ℕ) → List ℕ → List (ℕ × ℕ) → Type 0
AreContracted parents bases pairs =
    (x y : ℕ)
    → Contains pairs (x, y)
    ↔ ((c : ℕ) × Contains parents (c, y) × (slice_index bases c ≡ x)
    × (slice_index bases y ≡ y))

-- the list of the base of each type has just the objects of the type, ascending
pub record AreShared (w : Typing) (bases : List ℕ) (lists : List (List ℕ)) : Type 0 where
  pub size : length bases ≡ w.types
  pub within : (t : ℕ) → t < w.types → slice_index bases t < length lists
  pub ascend : (t : ℕ) → AscendsBelow w.objects (list_of lists t)
  pub members : (t o : ℕ) → t < w.types
      → Contains (list_of lists (slice_index bases t)) o ↔ Of w o t

-- a type of which an object is declared is marked
abbrev pub AreMarked : List (ℕ × ℕ) → List Bool → Type 0
AreMarked declared marks = (o t : ℕ) → Contains declared (o, t) → slice_index_or marks t true ≡ true

-- the pairs turned round
abbrev pub turned : List (ℕ × ℕ) → List (ℕ × ℕ)
turned = map (λ p. (p.1, p.0))

-- the types above and below each, and the marks, are those of what is declared
pub record IsGraph (w : Typing) (g : Graph) : Type 0 where
  pub range : IsInRange w
  pub above : AreSeconds w.parents (type_lists g.above.items)
  pub below : AreSeconds (turned w.parents) (type_lists g.below.items)
  pub object : slice_index_or g.marks.items 0 true ≡ true
  pub declared : AreMarked w.declared g.marks.items

-- the one type directly below another
abbrev pub sole_in : Graph → ℕ → Option ℕ
sole_in g t = sole_of (type_lists g.below.items) g.marks.items t

-- the bases so far are right, and these types have this base, which is not `object` and has no one
-- type directly below it
pub record AreWaiting (w : Typing) (g : Graph) (bases : List ℕ) (b : ℕ) (ts : List ℕ) : Type 0 where
  pub based : AreBased w (sole_in g) bases
  pub have : HaveBase bases b ts
  pub last : sole_in g b ≡ None
  pub other : b ≢ 0

-- where the types of one list had this base by the bases before, those of another have it by the
-- bases now
abbrev pub StayWaiting : Graph → ℕ → List ℕ → List ℕ → List ℕ → List ℕ → Type 0
StayWaiting g b bases ts bases' ts' = (w : Typing) → IsGraph w g → AreWaiting w g bases b ts
    → AreWaiting w g bases' b ts'

-- in each typing that the graph is of, these are right as bases
abbrev pub TellsBases : List TypeId → Graph → Type 0
TellsBases bases g = (w : Typing) → IsGraph w g → length (type_lists g.above.items) ≡ w.types
    → AreBased w (sole_in g) (type_numbers bases)

-- a type has no other base, and another is the one type directly below it
abbrev pub IsOnlyAbove : Graph → ℕ → List ℕ → ℕ → Type 0
IsOnlyAbove g at bases p = (p < length bases) × (slice_index bases p ≡ p) × (sole_in g p ≡ Some at)

-- where the pairs that these bases leave say which objects the bases have, all types have theirs
abbrev pub ShareObjects : Typing → List ℕ → Type 0
ShareObjects w bases =
    (pairs : List (ℕ × ℕ)) (lists : List (List ℕ)) → AreContracted w.parents bases pairs
    → AreMembersBelow w.objects (with_parents w pairs) lists
    → AreShared w bases lists
