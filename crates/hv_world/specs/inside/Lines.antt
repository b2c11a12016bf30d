-- Objects in a line, in which those of each type stand together.
use Rattle.std.specs.Prelude.{◌≡◌, ◌<◌, ◌≤◌, ◌-◌, ◌↔◌, ◌⊎◌, ℕ, List, [], ◌∷◌, length, map, take, drop, slice_get, slice_index_or, Option, Some}
use Rattle.std.specs.List.{Contains}
use Rattle.std.specs.Global.{Vec}
use Rattle.hv_world.specs.Types.{Typing, IsInRange, Reaches}
use Rattle.hv_world.specs.declared.bases.Graph.{Graph}
use Rattle.hv_world.specs.declared.id.ObjectId.{ObjectId}
use Rattle.hv_world.specs.declared.id.TypeId.{TypeId}
use Rattle.hv_world.specs.declared.nested.Nested.{Nested}
use Rattle.hv_world.specs.declared.nested.Span.{Span}
use Rattle.hv_world.specs.declared.nested.Step.{Step}
use Rattle.hv_world.specs.declared.nested.Step.TheVariants as steps
use Rattle.hv_world.specs.inside.Bases.{IsGraph}
use Rattle.hv_world.specs.inside.TypeLists.{object_lists}

-- the objects of a part of the line
abbrev pub part_of : List ℕ → Span → List ℕ
part_of os s = take (s.end - s.start) (drop s.start os)

-- these are the objects of a part, where the line is so long
abbrev pub IsPartOf : List ℕ → List ℕ → Span → Type 0
IsPartOf os xs s = s.start ≤ s.end → s.end ≤ length os → xs ≡ part_of os s

-- an object is declared of a type, or of one from which a chain of pairs leads there
abbrev pub Below : Typing → ℕ → ℕ → Type 0
Below w o t = (a : ℕ) × Contains w.declared (o, a) × Reaches w.parents a t

-- the steps that enter these types
abbrev pub entering : List TypeId → List Step
entering = map steps.Enter

-- the steps that a type leads to whose objects begin at a place, with these types directly below it
abbrev pub steps_of : TypeId → ℕ → List TypeId → List Step
steps_of t start below = steps.Leave t start ∷ entering below

-- an object comes with one of these steps
abbrev pub Comes : Typing → List Step → ℕ → Type 0
Comes w [] o = ⊥
Comes w (steps.Enter t ∷ xs) o = Below w o t.0 ⊎ Comes w xs o
Comes w (steps.Leave t start ∷ xs) o = Comes w xs o

-- of a type that is not over, the objects stand in the line from a place on, or come with steps
-- that are taken before
abbrev pub IsOpen : Typing → List ℕ → ℕ → ℕ → List Step → Type 0
IsOpen w os t start xs = (start ≤ length os)
    × ((o : ℕ) → (Contains (drop start os) o ⊎ Comes w xs o) ↔ Below w o t)

-- so of each; the last of the steps is taken first
pub data AreOpen (w : Typing) (os : List ℕ) : List Step → Type 0 where
  none : AreOpen w os []
  enter : {t : TypeId} {xs : List Step} → AreOpen w os xs → AreOpen w os (steps.Enter t ∷ xs)
  leave : {t : TypeId} {start : ℕ} {xs : List Step} → IsOpen w os t.0 start xs → AreOpen w os xs
      → AreOpen w os (steps.Leave t start ∷ xs)

-- a part of the line has the objects of a type
pub record IsPart (w : Typing) (os : List ℕ) (t : ℕ) (s : Span) : Type 0 where
  pub rises : s.start ≤ s.end
  pub within : s.end ≤ length os
  pub exact : (o : ℕ) → Contains (part_of os s) o ↔ Below w o t

-- so of each type that has a part
abbrev pub AreParts : Typing → List ℕ → List (Option Span) → Type 0
AreParts w os spans = (t : ℕ) (s : Span) → slice_get spans t ≡ Some (Some s) → IsPart w os t s

-- the type of a number has this part now, if there is one; the others have theirs
abbrev pub IsLeft : List (Option Span) → ℕ → ℕ → ℕ → List (Option Span) → Type 0
IsLeft old t start end new =
    (u : ℕ) (s : Span) → slice_get new u ≡ Some (Some s)
    → ((u ≡ t) × (s.start ≡ start) × (s.end ≡ end)) ⊎ (slice_get old u ≡ Some (Some s))

-- each of these steps enters a type
abbrev pub AreEntered : List Step → Type 0
AreEntered xs = (ts : List TypeId) × (xs ≡ entering ts)

-- the graph is that of a typing, and the lists have the objects that are declared of each type
pub record AreListed (w : Typing) (g : Graph) (lists : List (Vec ObjectId)) : Type 0 where
  pub graph : IsGraph w g
  pub own : (t o : ℕ)
      → Contains (slice_index_or (object_lists lists) t []) o ↔ Contains w.declared (o, t)

-- where types that are not over and parts are right before, parts are right after
abbrev pub Walks : Graph → List (Vec ObjectId) → List ℕ → List Step → List (Option Span) → List ℕ
    → List (Option Span) → Type 0
Walks g lists os xs spans os' spans' = (w : Typing) → AreListed w g lists → AreOpen w os xs
    → AreParts w os spans → AreParts w os' spans'

-- each type but `object` has a part
abbrev pub HaveParts : List (Option Span) → Type 0
HaveParts spans = (t : ℕ) → 0 < t → t < length spans
    → (s : Span) × (slice_get spans t ≡ Some (Some s))

-- so many objects
abbrev pub AreAll : ℕ → List ℕ → Type 0
AreAll n os = (o : ℕ) → Contains os o ↔ (o < n)

-- all objects, and for each type the part of the line that its objects have
pub record AreNested (w : Typing) (n : Nested) : Type 0 where
  pub range : IsInRange w
  pub all : AreAll w.objects n.all
  pub size : length n.spans.items ≡ w.types
  pub have : HaveParts n.spans.items
  pub parts : AreParts w n.line n.spans.items
