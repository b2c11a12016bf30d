-- How lists stand one after another in one.
use Rattle.std.specs.Prelude.{◌≡◌, ◌≤◌, ◌-◌, ℕ, zero, suc, List, [], ◌∷◌, take, drop}

-- what stands from one place up to another
abbrev pub between : {T : Type 0} → ℕ → ℕ → List T → List T
between from end xs = take (end - from) (drop from xs)

-- the lists that end at these places, the first of which begins at this one
abbrev pub cut : {T : Type 0} → ℕ → List ℕ → List T → List (List T)
cut from [] xs = []
cut from (end ∷ ends) xs = between from end xs ∷ cut end ends xs

-- where the list of a place begins, where the first of them begins at this one
abbrev pub start_of : ℕ → List ℕ → ℕ → ℕ
start_of from ends zero = from
start_of from [] (suc k) = from
start_of from (end ∷ ends) (suc k) = start_of end ends k

-- the places ascend from this one, and the last of them is the end of so many items
abbrev pub EndUp : ℕ → List ℕ → ℕ → Type 0
EndUp from [] size = from ≡ size
EndUp from (end ∷ ends) size = (from ≤ end) × EndUp end ends size
