-- Which objects are of which type.
use Rattle.std.specs.Prelude.{◌≡◌, ℕ, ◌<◌, ◌≤◌, ◌⊎◌, List, length, map, slice_index}
use Rattle.std.specs.List.{All, Contains}
use Rattle.hv_world.specs.declared.id.TypeId.{TypeId}
use Rattle.hv_world.specs.declared.id.ObjectId.{ObjectId}

-- what is declared of types and objects, by number
pub record Typing : Type 0 where
  -- how many types there are; number 0 is `object`, and behind those declared stand the either
  -- types of variables
  pub types : ℕ
  pub objects : ℕ  -- how many objects there are
  -- a type and its parent; an either type is one of each type that it names
  pub parents : List (ℕ × ℕ)
  pub declared : List (ℕ × ℕ)  -- an object and its type

-- there is a type `object`, and each number of a pair is that of a type or an object
pub record IsInRange (w : Typing) : Type 0 where
  pub object : 0 < w.types
  pub parents : All (λ p. (p.0 < w.types) × (p.1 < w.types)) w.parents
  pub declared : All (λ p. (p.0 < w.objects) × (p.1 < w.types)) w.declared

-- a chain of declared pairs, perhaps none, leads from one type to the other
pub data Reaches (parents : List (ℕ × ℕ)) : ℕ → ℕ → Type 0 where
  same : {t : ℕ} → Reaches parents t t
  up : {a b c : ℕ} → Contains parents (a, b) → Reaches parents b c → Reaches parents a c

-- the object is of the type: it is `object`, or a chain leads to it from a type that the object has
abbrev pub Of : Typing → ℕ → ℕ → Type 0
Of w o t = (o < w.objects) × (t < w.types)
    × ((t ≡ 0) ⊎ ((a : ℕ) × Contains w.declared (o, a) × Reaches w.parents a t))

-- the object is of one of these types
abbrev pub IsOfOne : Typing → ℕ → List ℕ → Type 0
IsOfOne w o ts = (t : ℕ) × Contains ts t × Of w o t

-- what the code's pairs declare
abbrev pub typing : ℕ → ℕ → List (TypeId × TypeId) → List (ObjectId × TypeId) → Typing
typing types objects parents declared =
    record {
      types = types;
      objects = objects;
      parents = map (λ p. (p.0.0, p.1.0)) parents;
      declared = map (λ p. (p.0.0, p.1.0)) declared;
    }

abbrev pub object_numbers : List ObjectId → List ℕ
object_numbers = map (λ o. o.0)

-- the objects of these numbers, from one on, are not below that of the first of them,
-- and below another
abbrev pub AreBelow : List ℕ → ℕ → ℕ → ℕ → Type 0
AreBelow os from until upto =
    (from ≤ upto)
    × ((i : ℕ) → from ≤ i → i < upto
    → (i < length os) × (slice_index os from ≤ slice_index os i) × (slice_index os i < until))
