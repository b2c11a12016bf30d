-- Choices that every match begins with.
use Rattle.std.specs.Prelude.{◌≡◌, ◌<◌, ℕ, true, Option, Some, List, [], ◌∷◌, ◌++◌, length, take}
use Rattle.hv_world.specs.Values.{TaskName}
use Rattle.hv_match.specs.inside.Puzzles.{Work, Puzzle, child_at, levels, IsMatch}
use Rattle.hv_match.specs.inside.Tables.{has_name}

-- no child but the one at place x does what has the name
abbrev pub IsAlone : List (Option Work) → TaskName → ℕ → Type 0
IsAlone cs n x = (y : ℕ) → has_name n (child_at cs y) ≡ true → y ≡ x

-- of the first k children, no one but the one that was found has the name
abbrev pub AreOthers : List (Option Work) → TaskName → ℕ → Option ℕ → Type 0
AreOthers cs n k found = (y : ℕ) → y < k → has_name n (child_at cs y) ≡ true → found ≡ Some y

-- every match begins with q
abbrev pub AllBegin : Puzzle → List ℕ → Type 0
AllBegin p q = (M B : List ℕ) → IsMatch p M B → take (length q) (M ++ B) ≡ q

-- where every match begins with q, it goes on with x
abbrev pub IsForced : Puzzle → List ℕ → ℕ → Type 0
IsForced p q x = AllBegin p q → AllBegin p (q ++ x ∷ [])

-- there is no match but q
pub record AreForced (p : Puzzle) (q : List ℕ) : Type 0 where
  pub whole : length q ≡ levels p
  pub only : AllBegin p q
