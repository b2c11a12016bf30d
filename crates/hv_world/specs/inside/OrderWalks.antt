-- How the order is found: lists of the earlier subtasks, and a walk along them.
use Rattle.std.specs.Prelude.{ℕ, ◌≡◌, ◌<◌, ◌≤◌, ◌↔◌, List, [], length, map, Contains, slice_index, slice_index_or, sum_by, ◌+◌, ◌-◌}
use Rattle.std.specs.Global.{Vec}
use Rattle.hv_world.specs.Orders.{Leads}
use Rattle.hv_lists.specs.Lists.{Once}
use Rattle.hv_world.specs.declared.order.walk.Mark.{Mark}
use Rattle.hv_world.specs.declared.order.walk.Mark.TheVariants as marks
use Rattle.hv_world.specs.declared.order.walk.Walk.{Walk}

abbrev pub lists_of : List (Vec ℕ) → List (List ℕ)
lists_of vs = map (λ v. v.items) vs

-- the list at j, or none
abbrev pub list_at : List (List ℕ) → ℕ → List ℕ
list_at xss j = slice_index_or xss j []

-- i is listed at j
abbrev pub IsListed : List (List ℕ) → ℕ → ℕ → Type 0
IsListed xss i j = Contains (list_at xss j) i

-- at each number the earlier ones of its pairs are listed
pub record AreEarlier (len : ℕ) (pairs : List (ℕ × ℕ)) (xss : List (List ℕ)) : Type 0 where
  pub count : length xss ≡ len
  pub listed : (i j : ℕ) → IsListed xss i j ↔ Contains pairs (i, j)

-- the mark at j
abbrev pub mark_at : List Mark → ℕ → Mark
mark_at ms j = slice_index_or ms j marks.Unseen

-- how often a mark can still change
abbrev pub changes : Mark → ℕ
changes marks.Unseen = 2
changes marks.Open = 1
changes marks.Placed = 0

-- how many steps a walk can still go
abbrev pub steps_left : Walk → ℕ
steps_left w = sum_by (λ n. n) w.left.items + sum_by changes w.marks.items

-- where a walk is among the subtasks whose earlier ones are listed
pub record IsWalk (xss : List (List ℕ)) (ms : List Mark) (left trail row : List ℕ) : Type 0 where
  pub marks_count : length ms ≡ length xss
  pub left_count : length left ≡ length xss
  -- of the earlier ones, those from `left` on are placed
  pub left_within : (j : ℕ) → slice_index left j ≤ length (list_at xss j)
  pub looked : (j m : ℕ) → slice_index left j ≤ m → m < length (list_at xss j)
      → Contains row (slice_index (list_at xss j) m)
  -- what is placed stands in the row
  pub placed : (j : ℕ) → mark_at ms j ≡ marks.Placed → Contains row j
  pub row_placed : (q : ℕ) → q < length row → mark_at ms (slice_index row q) ≡ marks.Placed
  pub row_once : Once row
  pub closed : (q i : ℕ) → q < length row → IsListed xss i (slice_index row q)
      → (p : ℕ) × (p < q) × (slice_index row p ≡ i)
  -- what is open stands on the trail
  pub opened : (j : ℕ) → mark_at ms j ≡ marks.Open → Contains trail j
  pub trail_open : (a : ℕ) → a < length trail → mark_at ms (slice_index trail a) ≡ marks.Open
  pub trail_once : Once trail
  -- each on the trail comes before those in front of it
  pub path : (a b : ℕ) → a < b → b < length trail
      → Leads (IsListed xss) (slice_index trail b) (slice_index trail a)

abbrev pub IsWalkOf : List (List ℕ) → Walk → Type 0
IsWalkOf xss w = IsWalk xss w.marks.items w.left.items w.trail.items w.row.items

-- the list ends with x
abbrev pub EndsWith : List ℕ → ℕ → Type 0
EndsWith xs x = (0 < length xs) × (slice_index xs (length xs - 1) ≡ x)

-- what was met stays so
abbrev pub StaySeen : Walk → Walk → Type 0
StaySeen v w = (j : ℕ) → mark_at w.marks.items j ≡ marks.Unseen
    → mark_at v.marks.items j ≡ marks.Unseen
