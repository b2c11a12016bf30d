-- How the types that several names make are gathered: lists of names, in which one may stand twice.
use Rattle.std.specs.Prelude.{◌≡◌, ℕ, List, [], ◌∷◌, ◌++◌, map, Vec}
use Rattle.std.specs.List.{flat_map}
use Rattle.std.specs.declared.hash.DefaultHasher.{DefaultHasher}
use Rattle.hv_text.specs.declared.name.Name.{Name}
use Rattle.hv_syntax.specs.Values.{Variable}
use Rattle.hv_world.specs.Eithers.{with_lists, either_lists}
use Rattle.hv_world.specs.inside.Seeds.{start_from}
use Rattle.hv_world.specs.inside.Tables.{names_in}

abbrev pub lists_in : {A B : Type 0} → Vec (Vec Name A) B → List (List (List ℕ))
lists_in v = map names_in v.items

-- the last of lists
abbrev pub EndsWith : List (List (List ℕ)) → List (List ℕ) → Type 0
EndsWith lists ns = (front : List (List (List ℕ))) × (lists ≡ front ++ ns ∷ [])

-- what was put behind lists is, by sight, what these variables have
abbrev pub AreGathered : List (List (List ℕ)) → List Variable → List (List (List ℕ)) → Type 0
AreGathered old vs new = (seen : List (List (List ℕ)))
    → with_lists seen new ≡ with_lists (with_lists seen old) (either_lists vs)

-- the start has taken in the names of lists that are, by sight, these
abbrev pub IsSeededBy : List (List (List ℕ)) → DefaultHasher → Type 0
IsSeededBy lists start = (gathered : List (List (List ℕ))) × (with_lists [] gathered ≡ lists)
    × (start ≡ start_from (flat_map (λ ns. ns) gathered))
