-- Where rows stand in a list, by hashes of them.
use Rattle.std.specs.Prelude.{ℕ, suc, ◌<◌, ◌+◌, ◌*◌, ◌/◌, ◌%◌, ◌^◌, max, fold, List, [], length, slice_get, slice_index_or, Some, None}
use Rattle.std.specs.List.{Contains}

-- one more number taken into a hash, and the hash of numbers
abbrev pub mix : ℕ → ℕ → ℕ
mix h n = ((h * 11400714819323198485) % 2 ^ 64 / 2 ^ 32 + n) % 2 ^ 64

abbrev pub hash : List ℕ → ℕ
hash ns = fold mix 0 ns

-- which of the lists belongs to a hash, and what stands there
abbrev pub turn_of : List (List ℕ) → ℕ → ℕ
turn_of buckets h = h % max (length buckets) 1

abbrev pub bucket : List (List ℕ) → ℕ → List ℕ
bucket buckets h =
    elim (slice_get buckets (turn_of buckets h)) [ None ↦ [] | Some numbers ↦ numbers ]

-- there is room for one more number
abbrev pub HasRoom : List ℕ → Type 0
HasRoom numbers = Contains numbers 0

-- a number is put where there is room, and what stood there stands there still
pub record IsPut (old : List ℕ) (n : ℕ) (new : List ℕ) : Type 0 where
  pub has : HasRoom new → Contains new n
  pub keeps : (m : ℕ) → Contains old (suc m) → Contains new (suc m)
  pub room : HasRoom new → HasRoom old

-- the same for the one of the lists that belongs to a hash
pub record IsNoted (old : List (List ℕ)) (h n : ℕ) (new : List (List ℕ)) : Type 0 where
  pub has : HasRoom (bucket new h) → Contains (bucket new h) n
  pub keeps : (k m : ℕ) → Contains (bucket old k) (suc m) → Contains (bucket new k) (suc m)
  pub room : (k : ℕ) → HasRoom (bucket new k) → HasRoom (bucket old k)

-- where there is room, the number of each of the first rows stands, counted from 1
abbrev pub AreNoted : List (List ℕ) → List (List ℕ) → ℕ → Type 0
AreNoted buckets rows count = (i : ℕ) → i < count → i < length rows
    → HasRoom (bucket buckets (hash (slice_index_or rows i [])))
    → Contains (bucket buckets (hash (slice_index_or rows i []))) (suc i)

abbrev pub TellRows : List (List ℕ) → List (List ℕ) → Type 0
TellRows buckets rows = AreNoted buckets rows (length rows)
