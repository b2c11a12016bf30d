-- How the shape of a plan is found: lines of ids, the places of ids, a walk along
-- places, and numbers.
use Rattle.std.specs.Prelude.{◌≡◌, zero, suc, take, drop, ◌+◌, ◌-◌, ◌<◌, ◌≤◌, ℕ, Bool, true, false, List, [], ◌∷◌, ◌++◌, map, flat_map, length, min, max, nat_eq, nat_lt, slice_index, slice_index_or, Contains, Option, Some, None, if◌then◌else◌}
use Rattle.std.specs.List.{list_any}
use Rattle.hv_lists.specs.Lists.{Once}
use Rattle.hv_plan.specs.Values.{Plan}
use Rattle.hv_plan.specs.Shapes.{heads, Parent, parents}
use Rattle.hv_plan.specs.Trees.{Item, Act, Task}
use Rattle.hv_plan.specs.Ids.{place_of}

-- the lines of heads, and for each child the line that names it
abbrev pub lines_of_heads : Plan → List ℕ
lines_of_heads p = map (λ a. a.line) (heads p)

abbrev pub child_lines : Parent → List ℕ
child_lines q = map (λ _. q.line) q.children

abbrev pub lines_of_children : Plan → List ℕ
lines_of_children p = flat_map child_lines (parents p)

-- the first of the lines of an id, with one line more
abbrev pub first_of : ℕ → Option ℕ → ℕ
first_of line None = line
first_of line (Some first) = min first line

-- where the id has a line, the later of that and this one
abbrev pub again_of : ℕ → Option ℕ → Option ℕ
again_of line None = None
again_of line (Some first) = Some (max first line)

-- the earlier of two lines, where there are lines
abbrev pub earlier : Option ℕ → Option ℕ → Option ℕ
earlier None other = other
earlier (Some l) None = Some l
earlier (Some l) (Some n) = Some (min l n)

-- a line, where something does not hold
abbrev pub line_unless : Bool → ℕ → Option ℕ
line_unless true l = None
line_unless false l = Some l

-- the first of the lines of which something holds; none where it holds of none
abbrev pub IsFirst : (ℕ → Type 0) → Option ℕ → Type 0
IsFirst P None = (l : ℕ) → P l → ⊥
IsFirst P (Some l) = P l × ((m : ℕ) → P m → l ≤ m)

-- among the first places, two have the same id, and this is the later of their lines
pub record IsRepeat (ids lines : List ℕ) (count line : ℕ) : Type 0 where
  pub one : ℕ
  pub other : ℕ
  pub before : one < other
  pub within : other < count
  pub same : slice_index ids one ≡ slice_index ids other
  pub later : line ≡ max (slice_index lines one) (slice_index lines other)

-- among the first places, one has not passed, and this is its line
pub record IsMissed (passes : ℕ → Bool) (lines : List ℕ) (count line : ℕ) : Type 0 where
  pub place : ℕ
  pub within : place < count
  pub fails : passes place ≡ false
  pub at : slice_index lines place ≡ line

-- whether the id at a place is among others
abbrev pub is_known : List ℕ → List ℕ → ℕ → Bool
is_known known ids k = list_any (nat_eq (slice_index ids k)) known

-- whether a place is marked
abbrev pub is_marked : List Bool → ℕ → Bool
is_marked marks k = slice_index_or marks k false

-- the places of the children of each decomposition line
abbrev pub places_of_lines : List ℕ → Plan → List (List ℕ)
places_of_lines is p = map (λ d. map (place_of is) d.children) p.decompositions

-- the places of the children of a place, where the first places are those of actions,
-- which have none
abbrev pub kids : List (List ℕ) → ℕ → ℕ → List ℕ
kids lists actions place =
    if nat_lt place actions then [] else slice_index_or lists (place - actions) []

-- what was met is marked, and was met once
pub record IsMeeting (met : List ℕ) (marks : List Bool) : Type 0 where
  pub marked : (k : ℕ) → is_marked marks k ≡ true → Contains met k
  pub marks_met : (b : ℕ) → b < length met → is_marked marks (slice_index met b) ≡ true
  pub once : Once met

-- a list that grew by some of these, and has them all
pub record Grows (old these new : List ℕ) : Type 0 where
  pub longer : length old ≤ length new
  pub kept : (b : ℕ) → b < length old → slice_index new b ≡ slice_index old b
  pub comes : (b : ℕ) → length old ≤ b → b < length new → Contains these (slice_index new b)
  pub has : (c : ℕ) → Contains these c → Contains new c
  pub fresh : ((c : ℕ) → Contains these c → Contains old c → ⊥) → Once these → new ≡ old ++ these

-- what was met is a child of the root, or of one that was met before it
pub data Comes (root : List ℕ) (kids : ℕ → List ℕ) (met : List ℕ) (b : ℕ) : Type 0 where
  of_root : Contains root (slice_index met b) → Comes root kids met b
  of_one : (a : ℕ) → a < b → Contains (kids (slice_index met a)) (slice_index met b)
      → Comes root kids met b

-- what stands below the root and below each place stands there once, and below nothing else
pub record AreApart (root : List ℕ) (kids : ℕ → List ℕ) : Type 0 where
  pub roots : Once root
  pub lists : (a : ℕ) → Once (kids a)
  pub below_root : (a c : ℕ) → Contains root c → Contains (kids a) c → ⊥
  pub below_one : (a b c : ℕ) → Contains (kids a) c → Contains (kids b) c → a ≡ b

-- where a walk is that has looked below the first it met
pub record IsWalking (root : List ℕ) (kids : ℕ → List ℕ) (looked : ℕ) (met : List ℕ)
    (marks : List Bool) : Type 0 where
  pub meeting : IsMeeting met marks
  pub has_root : (c : ℕ) → Contains root c → Contains met c
  pub closed : (a c : ℕ) → a < looked → Contains (kids (slice_index met a)) c → Contains met c
  pub comes : (b : ℕ) → b < length met → Comes root kids met b
  pub in_order : AreApart root kids → met ≡ root ++ flat_map kids (take looked met)

-- the walk from the children of the root to all below
abbrev pub IsWalk : List ℕ → (ℕ → List ℕ) → List ℕ → List Bool → Type 0
IsWalk root kids met marks = IsWalking root kids (length met) met marks

-- the walk has met all of so many places
pub record HasMetAll (root : List ℕ) (kids : ℕ → List ℕ) (count : ℕ) (met : List ℕ) : Type 0 where
  pub marks : List Bool
  pub walk : IsWalk root kids met marks
  pub count_is : length marks ≡ count
  pub all : (k : ℕ) → k < count → is_marked marks k ≡ true

-- the decomposition line of a place, where the first places are those of actions
abbrev pub line_in : ℕ → ℕ → List ℕ
line_in actions place = if nat_lt place actions then [] else (place - actions) ∷ []

-- the first n of a list, the last of them first
abbrev pub backward : List ℕ → ℕ → List ℕ
backward xs zero = []
backward xs (suc n) = slice_index xs n ∷ backward xs n

-- The lines among what was met from a place of the walk on are numbered, those met later
-- by lower numbers
pub record IsNumbering (actions from : ℕ) (met lines numbers : List ℕ) : Type 0 where
  pub back : (v : ℕ) → v < length lines
      → (slice_index lines v < length numbers) × (slice_index numbers (slice_index lines v) ≡ v)
  pub was_met : (v : ℕ) → v < length lines
      → (b : ℕ) × (from ≤ b) × (b < length met)
      × (slice_index met b ≡ actions + slice_index lines v)
  pub given : (b k : ℕ) → from ≤ b → b < length met → slice_index met b ≡ actions + k
      → (slice_index numbers k < length lines) × (slice_index lines (slice_index numbers k) ≡ k)
  pub falling : (a b j k : ℕ) → from ≤ a → a < b → b < length met → slice_index met a ≡ actions + j
      → slice_index met b ≡ actions + k
      → slice_index numbers k < slice_index numbers j
  pub in_order : flat_map (line_in actions) (drop from met) ≡ backward lines (length lines)

-- what stands at a place: an action, or the node of a line
abbrev pub item : ℕ → List ℕ → ℕ → Item
item actions numbers place =
    if nat_lt place actions then Act place else Task (slice_index numbers (place - actions))

-- what stands at the places of a list
abbrev pub items_at : ℕ → List ℕ → List ℕ → List Item
items_at actions numbers places = map (item actions numbers) places

-- the children of nodes by number, and those of the root line
abbrev pub children_by_number : ℕ → List ℕ → List ℕ → List ℕ → List (List ℕ) → List (List Item)
children_by_number actions lines numbers root lists =
    map (λ k. items_at actions numbers (slice_index_or lists k [])) lines
    ++ items_at actions numbers root ∷ []
