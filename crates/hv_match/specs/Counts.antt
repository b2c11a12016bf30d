-- How many candidates a node may have at most, by its method alone.
use Rattle.std.specs.Prelude.{◌≡◌, ◌↔◌, ◌<◌, ◌≤◌, Bool, ℕ, zero, suc, ◌*◌, ◌-◌, ◌^◌, min, List, [], ◌∷◌, map, length, slice_index, Contains, MatchOption}
use Rattle.std.specs.List.{AllZip}
use Rattle.hv_world.specs.Alike.{class_sizes, free_parameters}
use Rattle.hv_lists.specs.Lists.{Once}
use Rattle.hv_world.specs.Types.{Of}
use Rattle.hv_world.specs.Worlds.{World, Method, terms_of}
use Rattle.hv_plan.specs.PlanTrees.{PlanTree}
use Rattle.hv_match.specs.Candidates.{Listing, Tells, method_at}

abbrev pub factorial : ℕ → ℕ
factorial zero = 1
factorial (suc n) = suc n * factorial n

abbrev pub product : List ℕ → ℕ
product [] = 1
product (n ∷ ns) = n * product ns

-- so many objects are of the type
pub record AreSoMany (w : World) (t n : ℕ) : Type 0 where
  pub objects : List ℕ
  pub exact : (o : ℕ) → Contains objects o ↔ Of w.typing o t
  pub once : Once objects
  pub many : length objects ≡ n

-- the parameters that are arguments neither of the method's task nor of a subtask
abbrev pub free : Method → List ℕ
free m = free_parameters (length m.parameters) (terms_of m.task) m.network.subtasks

-- the i-th parameter may have so many objects
abbrev pub AreChoicesOf : World → Method → ℕ → ℕ → Type 0
AreChoicesOf w m i n = AreSoMany w (slice_index m.parameters i) n

-- the numbers of objects that these parameters may have
abbrev pub AreChoices : World → Method → List ℕ → List ℕ → Type 0
AreChoices w m is ns = AllZip (AreChoicesOf w m) is ns

-- The count: the product of the factorials of the sizes of the classes of alike subtasks, and of
-- the numbers of objects that the free parameters may have
pub record IsCount (w : World) (m : Method) (k : ℕ) : Type 0 where
  pub choices : List ℕ
  pub are_choices : AreChoices w m (free m) choices
  pub is : k ≡ product (map factorial (class_sizes m.network.subtasks)) * product choices

-- the method has a count, and P holds of it
abbrev pub CountIs : World → Method → (ℕ → Type 0) → Type 0
CountIs w m P = (k : ℕ) × IsCount w m k × P k

-- the number, and the greatest that 64 bits hold where it is greater
abbrev pub capped : ℕ → ℕ
capped n = min n (2 ^ 64 - 1)

-- the count of the node of a number
abbrev pub IsCountAt : World → PlanTree → ℕ → ℕ → Type 0
IsCountAt w t v k = MatchOption (method_at w t v) ⊥ (λ m. IsCount w m k)

-- the node of a number has a count, and P holds of it
abbrev pub CountIsAt : World → PlanTree → ℕ → (ℕ → Type 0) → Type 0
CountIsAt w t v P = (k : ℕ) × IsCountAt w t v k × P k

-- b says whether the count of the node of a number is greater than the limit
abbrev pub TellsIfAbove : World → PlanTree → ℕ → ℕ → Bool → Type 0
TellsIfAbove w t v limit b = CountIsAt w t v (λ k. Tells (limit < k) b)

-- no more are to come than the count of the node
abbrev pub IsInCountAt : World → PlanTree → ℕ → Listing → Type 0
IsInCountAt w t v l = (k : ℕ) → IsCountAt w t v k → length l.coming ≤ k
