-- What a search has still to give from a place, and how many steps it may still take.
use Rattle.std.specs.Prelude.{ℕ, zero, suc, ◌+◌, ◌-◌, ◌<◌, ◌≤◌, ◌^◌, ◌≡◌, Bool, true, false, List, [], ◌∷◌, ◌++◌, length, take, drop, slice_index, if◌then◌else◌, MatchBool, Contains}
use Rattle.std.specs.List.{sum_by, All}
use Rattle.hv_match.specs.inside.Search.{IsPath, below, Search}
use Rattle.hv_match.specs.declared.state.State.{State}

-- what is to come where xs was chosen after p, by the numbers ns, and c is the next number at the
-- end of xs: first what begins with the first of xs, and then what has a later choice in its place
abbrev pub rest : (List ℕ → List ℕ) → (List ℕ → Bool) → ℕ → List ℕ → List ℕ → List ℕ → ℕ
    → List (List ℕ)
rest options good k p [] ns c = below options good k p c
rest options good (suc k) p (x ∷ xs) (n ∷ ns) c =
    rest options good k (p ++ x ∷ []) xs ns c ++ below options good (suc k) p (n + 1)
rest options good _ _ _ _ _ = []

abbrev pub to_come : (List ℕ → List ℕ) → (List ℕ → Bool) → ℕ → State → List (List ℕ)
to_come options good levels at =
    if at.is_over then [] else rest options good levels [] at.chosen.items at.numbers.items at.next

-- the steps of a search that passes nothing over
unfoldable pub effort : (List ℕ → List ℕ) → ℕ → List ℕ → ℕ → ℕ
effort options zero p c = 1
effort options (suc k) p c =
    sum_by (λ x. effort options k (p ++ x ∷ []) 0 + 1) (drop c (options p)) + 1

unfoldable pub left : (List ℕ → List ℕ) → ℕ → List ℕ → List ℕ → List ℕ → ℕ → ℕ
left options k p [] ns c = effort options k p c
left options (suc k) p (x ∷ xs) (n ∷ ns) c =
    left options k (p ++ x ∷ []) xs ns c + effort options (suc k) p (n + 1)
left options _ _ _ _ _ = 0

abbrev pub steps_left : (List ℕ → List ℕ) → ℕ → State → ℕ
steps_left options levels at =
    if at.is_over then 0 else left options levels [] at.chosen.items at.numbers.items at.next

-- the table has for each of these choices the level at which it was made
abbrev pub AreTold : List ℕ → List ℕ → Type 0
AreTold made_at q = (l : ℕ) → l < length q → slice_index made_at (slice_index q l) ≡ l

-- the first so many of the choices, which are to differ, are told apart by the table
pub record IsState (options : List ℕ → List ℕ) (levels distinct width : ℕ)
    (at : State) : Type 0 where
  pub short : length at.chosen.items ≤ levels
  pub even : length at.numbers.items ≡ length at.chosen.items
  pub path : IsPath options [] at.chosen.items
  pub numbers : All (λ n. n + 1 < 2 ^ 64) at.numbers.items
  pub told : AreTold at.made_at.items (take distinct at.chosen.items)
  pub wide : length at.made_at.items ≡ width

-- a place in this search
abbrev pub IsPlaceIn : Search → State → Type 0
IsPlaceIn s at = IsState s.options s.levels s.distinct s.width at

-- as much is to come as before
abbrev pub KeepsComing : Search → State → State → Type 0
KeepsComing s old new =
    to_come s.options s.good s.levels new ≡ to_come s.options s.good s.levels old

-- the branch was left, with all that begins so
abbrev pub HasLeft : Search → State → State → Type 0
HasLeft s old new =
    to_come s.options s.good s.levels old
    ≡ below s.options s.good (s.levels - length old.chosen.items) old.chosen.items old.next
    ++ to_come s.options s.good s.levels new

-- the choices stand as they stood, but for some of the last
abbrev pub IsFrontOf : List ℕ → List ℕ → Type 0
IsFrontOf old new = (n : ℕ) → n ≤ length new → take n new ≡ take n old

-- of what was to come the first are left out, and each of these begins with the first so many of
-- the choices that stood
pub record LeavesOut (s : Search) (n : ℕ) (old new : State) : Type 0 where
  pub gone : List (List ℕ)
  pub coming : to_come s.options s.good s.levels old ≡ gone ++ to_come s.options s.good s.levels new
  pub alike : (q : List ℕ) → Contains gone q → take n q ≡ take n old.chosen.items

-- fewer steps are left, or no more
abbrev pub IsNearer : Search → State → State → Type 0
IsNearer s old new = steps_left s.options s.levels new < steps_left s.options s.levels old

-- the choices stand as they stood
abbrev pub SameChoices : State → State → Type 0
SameChoices old new = (new.chosen.items ≡ old.chosen.items)
    × (new.numbers.items ≡ old.numbers.items) × (new.next ≡ old.next)

-- all but the table is as it was
abbrev pub SameButTable : State → State → Type 0
SameButTable old new =
    (new.chosen.items ≡ old.chosen.items) × (new.numbers.items ≡ old.numbers.items)
    × (new.next ≡ old.next) × (new.is_over ≡ old.is_over)

abbrev pub IsNoFarther : Search → State → State → Type 0
IsNoFarther s old new = steps_left s.options s.levels new ≤ steps_left s.options s.levels old

-- a whole list that is wanted stands chosen
abbrev pub IsFound : Search → State → Type 0
IsFound s at = (at.is_over ≡ false) × (length at.chosen.items ≡ s.levels)
    × (s.good at.chosen.items ≡ true)

-- it does, or else the search is over
abbrev pub HasFound : Search → State → Bool → Type 0
HasFound s at found = MatchBool found (IsFound s at) (at.is_over ≡ true)

-- what is no choice is as it was
abbrev pub SameRest : State → State → Type 0
SameRest old new = (new.is_over ≡ old.is_over) × (new.made_at.items ≡ old.made_at.items)

-- the table tells one choice more
abbrev pub IsNoted : Search → State → ℕ → State → Type 0
IsNoted s old x new = AreTold new.made_at.items (take s.distinct (old.chosen.items ++ x ∷ []))
