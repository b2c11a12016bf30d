-- Words on lists.
use Rattle.std.specs.Prelude.{◌≢◌, List, [], ◌∷◌, AllPairs, drop, slice_index_or}

-- no two places have the same
abbrev pub Once : {X : Type 0} → List X → Type 0
Once xs = AllPairs ◌≢◌ xs

-- what heads are with lists: each takes the first of the lists that are left, and an empty one
-- where none is
abbrev pub with_lists : {H T X : Type 0} → (H → List T → X) → List H → List (List T) → List X
with_lists f [] lists = []
with_lists f (h ∷ hs) lists = f h (slice_index_or lists 0 []) ∷ with_lists f hs (drop 1 lists)
