-- The place of each id, by the table of the ids that begin lines.
use Rattle.std.specs.Prelude.{◌≡◌, ◌<◌, ℕ, List, Bool, Option, Some, None, map, option_map, get_or, slice_get, slice_index, length, nat_eq, nat_lt, Contains}
use Rattle.std.specs.List.{flat_map}
use Rattle.std.specs.Map.{update}
use Rattle.std.specs.Option.{unwrap_or}
use Rattle.indexmap.specs.IndexMap as table
use Rattle.hv_plan.specs.Values.{Plan, Decomposition}
use Rattle.hv_plan.specs.Shapes.{ids, all_children, line_parent}
use Rattle.hv_plan.specs.Ids.{place_of}
use Rattle.hv_plan.specs.inside.Shaping.{first_of, again_of, IsFirst, IsRepeat, IsMissed, lines_of_heads, places_of_lines}
use Rattle.hv_plan.specs.declared.shape.table.Table.{Table}

-- what the list of small ids says, else what the map of the others says
abbrev pub small_or : Option (Option ℕ) → Option ℕ → Option ℕ
small_or None other = other
small_or (Some place) other = place

-- the place of an id in a table
abbrev pub place_by : Table → ℕ → Option ℕ
place_by t i = small_or (slice_get t.small.items i) (table.get nat_eq t.large i)

-- the line of the place of an id
abbrev pub line_by : Table → List ℕ → ℕ → Option ℕ
line_by t lines i = option_map (slice_index lines) (place_by t i)

-- the places in a table are among the first places, and their ids stand there
abbrev pub ArePlaces : Table → List ℕ → ℕ → Type 0
ArePlaces t ids count = (i k : ℕ) → place_by t i ≡ Some k → (k < count) × (slice_index ids k ≡ i)

-- each of these ids has its place in a table, and no other has one
abbrev pub HasPlaces : Table → List ℕ → Type 0
HasPlaces t ids = (i : ℕ) → unwrap_or (place_by t i) (length ids) ≡ place_of ids i

-- whether what stands at a place is below a number
abbrev pub is_within : ℕ → List ℕ → ℕ → Bool
is_within count places k = nat_lt (slice_index places k) count

-- a table takes in the id at a place: it has the first of the lines of each id
abbrev pub TakesIn : Table → Table → List ℕ → List ℕ → ℕ → Type 0
TakesIn old new ids lines place =
    let id = slice_index ids place in
    (q : ℕ) → line_by new lines q
    ≡ update nat_eq (line_by old lines) id
    (Some (first_of (slice_index lines place) (line_by old lines id))) q

-- where the id at a place has a line in a table, the later of that and the one at the place
abbrev pub line_again : Table → List ℕ → List ℕ → ℕ → Option ℕ
line_again t ids lines place =
    again_of (slice_index lines place) (line_by t lines (slice_index ids place))

-- a list takes in a line for a place: it has the first of the lines of each place
abbrev pub HasFirst : List (Option ℕ) → List (Option ℕ) → ℕ → ℕ → Type 0
HasFirst old new place line = (q : ℕ)
    → get_or new q None
    ≡ update nat_eq (λ k. get_or old k None) place (Some (first_of line (get_or old place None))) q

-- the first line that has an id for a second time, and the first that has what has not passed
abbrev pub IsSecond : List ℕ → List ℕ → Option ℕ → Type 0
IsSecond ids lines o = IsFirst (IsRepeat ids lines (length ids)) o

abbrev pub IsLineRepeat : Plan → Option ℕ → Type 0
IsLineRepeat p o = IsSecond (ids p) (lines_of_heads p) o

abbrev pub IsUnplaced : ℕ → List ℕ → List ℕ → Option ℕ → Type 0
IsUnplaced count places lines o =
    IsFirst (IsMissed (is_within count places) lines (length places)) o

-- the children of decomposition lines
abbrev pub line_children : List Decomposition → List ℕ
line_children ds = flat_map (λ q. q.children) (map line_parent ds)

-- the places of ids by a table, and a number of lines for those that it does not have
abbrev pub places_by : Table → ℕ → List ℕ → List ℕ
places_by t count is = map (λ i. unwrap_or (place_by t i) count) is

-- the places of all children, and those of the children of the decomposition lines
abbrev pub child_places : Plan → List ℕ
child_places p = map (place_of (ids p)) (all_children p)

abbrev pub places_of_rest : Plan → List ℕ
places_of_rest p = map (place_of (ids p)) (line_children p.decompositions)

-- the places of the children of the root line, and those of the children of each decomposition line
abbrev pub root_places : Plan → List ℕ
root_places p = map (place_of (ids p)) p.root.ids

abbrev pub line_places : Plan → List (List ℕ)
line_places p = places_of_lines (ids p) p

-- each child begins a line
abbrev pub AreKnown : Plan → Type 0
AreKnown p = (i : ℕ) → Contains (all_children p) i → Contains (ids p) i
