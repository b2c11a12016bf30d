-- Lists of objects that ascend, or are a part of a longer list.
use Rattle.std.specs.Prelude.{◌≡◌, ◌≢◌, ◌<◌, ◌+◌, ℕ, List, length, slice_get, slice_index, Option, Some, None}
use Rattle.std.specs.List.Sorted.{IsStrictlyIncreasing}
use Rattle.hv_world.specs.declared.range.Part.{Part}

-- for each object of the line its place is told
abbrev pub ArePlaced : List ℕ → List ℕ → Type 0
ArePlaced os places = (i : ℕ) → i < length os → slice_get places (slice_index os i) ≡ Some i

-- the object may have a place, and does not stand in the line
abbrev pub IsNew : List ℕ → List ℕ → ℕ → Type 0
IsNew os places o = (o < length places) × ((i : ℕ) → i < length os → slice_index os i ≢ o)

-- for each object it is told where it stands in the longer list
abbrev pub HasPlaces : List ℕ → Part → Type 0
HasPlaces os p = (i : ℕ) → i < length os
    → slice_get p.places.now (slice_index os i) ≡ Some (p.start + i)

-- the objects ascend, unless it is told which part they are
abbrev pub IsTold : List ℕ → Option Part → Type 0
IsTold os part = (part ≡ None → IsStrictlyIncreasing os)
    × ((p : Part) → part ≡ Some p → HasPlaces os p)
