-- Names in lists of names.
use Rattle.std.specs.Prelude.{ℕ, suc, Bool, List, [], ◌∷◌, ◌++◌, map, length, Option, Some, None, option_map, bytes_eq, if◌then◌else◌}
use Rattle.std.specs.List.{list_any}
use Rattle.hv_syntax.specs.Values.{WordAt}

-- the names of words
abbrev pub names : List WordAt → List (List ℕ)
names ws = map (λ w. w.text) ws

abbrev pub is_among : List (List ℕ) → List ℕ → Bool
is_among ns n = list_any (bytes_eq n) ns

-- where a name stands first
abbrev pub place_in : List (List ℕ) → List ℕ → Option ℕ
place_in [] n = None
place_in (m ∷ ms) n = if bytes_eq n m then Some 0 else option_map suc (place_in ms n)

-- these names, and then the others of those, by first sight
abbrev pub with_names : List (List ℕ) → List (List ℕ) → List (List ℕ)
with_names seen [] = seen
with_names seen (n ∷ ns) = with_names (if is_among seen n then seen else seen ++ n ∷ []) ns

-- names, each once, by first sight
abbrev pub by_sight : List (List ℕ) → List (List ℕ)
by_sight ns = with_names [] ns

-- the number of a name in a list; for a name that is not there, the number behind the last
abbrev pub number_or : ℕ → Option ℕ → ℕ
number_or k None = k
number_or k (Some i) = i

abbrev pub number_in : List (List ℕ) → List ℕ → ℕ
number_in ns n = number_or (length ns) (place_in ns n)

-- the words that have one of their name before them, where these names stand before all
abbrev pub repeated_after : List (List ℕ) → List WordAt → List WordAt
repeated_after before [] = []
repeated_after before (w ∷ ws) =
    if is_among before w.text then w
    ∷ repeated_after (before ++ w.text ∷ []) ws else repeated_after (before ++ w.text ∷ []) ws

abbrev pub repeated : List WordAt → List WordAt
repeated ws = repeated_after [] ws
