-- How many ways there are to match, counted one place after another.
use Rattle.std.specs.Prelude.{◌≡◌, ℕ, zero, suc, ◌+◌, ◌*◌, ◌<◌, List, [], ◌∷◌, length, map, Contains}
use Rattle.hv_world.specs.Alike.{Key, how_many}
use Rattle.hv_lists.specs.Lists.{Once}

-- how many of the keys, from the first on, are like the first
abbrev pub first_alike : List Key → ℕ
first_alike [] = 0
first_alike (k ∷ ks) = 1 + how_many k ks

abbrev pub rising : List Key → ℕ
rising [] = 1
rising (k ∷ ks) = (1 + how_many k ks) * rising ks

-- M gives to each of the places, whose keys are ks, a number of its own with that key; the numbers
-- are all below the number of places
pub record IsMatching (key : ℕ → Key) (ks : List Key) (M : List ℕ) : Type 0 where
  pub once : Once M
  pub below : (x : ℕ) → Contains M x → x < length ks
  pub keys : map key M ≡ ks

-- the product of the factors of k levels from level l on
abbrev pub tower : (ℕ → ℕ) → ℕ → ℕ → ℕ
tower fac l zero = 1
tower fac l (suc k) = fac l * tower fac (l + 1) k
