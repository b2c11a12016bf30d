-- The lists that the types of a world keep, by number.
use Rattle.std.specs.Prelude.{◌≡◌, ℕ, ◌<◌, ◌+◌, ◌++◌, ◌↔◌, ◌⊎◌, Bool, true, false, List, [], ◌∷◌, length, map, slice_index_or}
use Rattle.std.specs.List.{All, AllPairs, Contains}
use Rattle.std.specs.List.Sorted.{IsStrictlyIncreasing}
use Rattle.std.specs.Global.{Vec}
use Rattle.hv_world.specs.declared.id.TypeId.{TypeId}
use Rattle.hv_world.specs.declared.id.ObjectId.{ObjectId}
use Rattle.hv_world.specs.declared.lists.direct.TypesOf.{TypesOf}
use Rattle.hv_world.specs.declared.lists.direct.DirectTypes.{DirectTypes}
use Rattle.hv_world.specs.declared.lists.direct.DirectTypes.TheVariants as directs
use Rattle.hv_world.specs.Types.{Typing, Of, object_numbers}

-- the list of a number; none past the end
abbrev pub list_of : List (List ℕ) → ℕ → List ℕ
list_of lists n = slice_index_or lists n []

abbrev pub type_numbers : List TypeId → List ℕ
type_numbers = map (λ t. t.0)

abbrev pub type_lists : List (Vec TypeId) → List (List ℕ)
type_lists = map (λ v. type_numbers v.items)

-- the types that are declared of each object
abbrev pub declared_lists : List TypesOf → List (List ℕ)
declared_lists = map (λ o. type_numbers o.types.items)

abbrev pub direct_lists : DirectTypes → List (List ℕ)
direct_lists (directs.InOrder declared) = map (λ p. p.1.0 ∷ []) declared.now
direct_lists (directs.Listed lists) = declared_lists lists.items

-- each object stands at the place of its number
abbrev pub AreInOrder : List (ObjectId × TypeId) → Type 0
AreInOrder declared = (k : ℕ) (p : ObjectId × TypeId) → k < length declared → (slice_index_or declared k p).0.0 ≡ k

abbrev pub object_lists : List (Vec ObjectId) → List (List ℕ)
object_lists = map (λ v. object_numbers v.items)

-- the list of a number has the second of each pair whose first it is
abbrev pub AreSeconds : List (ℕ × ℕ) → List (List ℕ) → Type 0
AreSeconds pairs lists = (a b : ℕ) → Contains (list_of lists a) b ↔ Contains pairs (a, b)

-- steps, perhaps none, each from a number to one of its list, lead from one number to the other
pub data Climbs (lists : List (List ℕ)) : ℕ → ℕ → Type 0 where
  stays : {t : ℕ} → Climbs lists t t
  steps : {a b c : ℕ} → Contains (list_of lists a) b → Climbs lists b c → Climbs lists a c

-- they lead there from one of several
abbrev pub ClimbsFrom : List (List ℕ) → List ℕ → ℕ → Type 0
ClimbsFrom lists starts t = (a : ℕ) × Contains starts a × Climbs lists a t

-- the list ascends, and its numbers are below another
abbrev pub AscendsBelow : ℕ → List ℕ → Type 0
AscendsBelow n xs = AllPairs (λ x y. x < y) xs × All (λ x. x < n) xs

-- each list ascends
abbrev pub AllAscend : List (List ℕ) → Type 0
AllAscend lists = (t : ℕ) → IsStrictlyIncreasing (list_of lists t)

-- the number was put at the end of the list, or stood there
abbrev pub IsPut : ℕ → List ℕ → Bool → List ℕ → Type 0
IsPut n old true new = (Contains old n → ⊥) × (new ≡ old ++ n ∷ [])
IsPut n old false new = Contains old n × (new ≡ old)

-- the number was put into the lists of all types that steps from the starts lead to
pub record IsPutAbove (parents : List (List ℕ)) (starts : List ℕ) (n : ℕ)
    (old new : List (List ℕ)) : Type 0 where
  pub size : length new ≡ length old
  pub ascend : (t : ℕ) → AscendsBelow (n + 1) (list_of new t)
  pub members : (t x : ℕ)
      → Contains (list_of new t) x
      ↔ (Contains (list_of old t) x ⊎ ((x ≡ n) × ClimbsFrom parents starts t))

-- the list of each type has, ascending, those of the first n objects that are of the type
pub record AreMembersBelow (n : ℕ) (w : Typing) (lists : List (List ℕ)) : Type 0 where
  pub size : length lists ≡ w.types
  pub ascend : (t : ℕ) → AscendsBelow n (list_of lists t)
  pub members : (t o : ℕ) → Contains (list_of lists t) o ↔ ((o < n) × Of w o t)
