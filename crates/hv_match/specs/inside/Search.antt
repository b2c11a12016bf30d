-- All the lists that a search finds.
use Rattle.std.specs.Prelude.{ℕ, zero, suc, ◌+◌, ◌<◌, ◌≤◌, ◌≡◌, Bool, List, [], ◌∷◌, ◌++◌, drop, length, true, if◌then◌else◌, Option, MatchOption, Contains}
use Rattle.std.specs.List.{flat_map}

-- each choice is one of those that may follow what stands before it, which begins with p
abbrev pub IsPath : (List ℕ → List ℕ) → List ℕ → List ℕ → Type 0
IsPath options p [] = Unit {0}
IsPath options p (x ∷ xs) = Contains (options p) x × IsPath options (p ++ x ∷ []) xs

-- all that is wanted with k choices after p, the first of them not among the first c
-- that may follow
abbrev pub below : (List ℕ → List ℕ) → (List ℕ → Bool) → ℕ → List ℕ → ℕ → List (List ℕ)
below options good zero p c = if good p then p ∷ [] else []
below options good (suc k) p c =
    flat_map (λ x. below options good k (p ++ x ∷ []) 0) (drop c (options p))

-- q is wanted: a whole list of choices, each of them allowed, that is good
pub record IsWanted (options : List ℕ → List ℕ) (good : List ℕ → Bool) (levels : ℕ)
    (q : List ℕ) : Type 0 where
  pub whole : length q ≡ levels
  pub path : IsPath options [] q
  pub is_good : good q ≡ true

-- What a search chooses from, and what it wants: the choices that may follow others, whether a
-- whole list of choices is wanted, how many a whole one has, how many of the first differ from each
-- other, and the number that these are below
pub record Search : Type 0 where
  pub options : List ℕ → List ℕ
  pub good : List ℕ → Bool
  pub levels : ℕ
  pub distinct : ℕ
  pub width : ℕ

-- nothing that is wanted begins with p
abbrev pub NothingBegins : Search → List ℕ → Type 0
NothingBegins s p = (k : ℕ) → below s.options s.good k p 0 ≡ []

-- no whole list that is wanted begins with p
abbrev pub NothingWholeBegins : Search → List ℕ → Type 0
NothingWholeBegins s p = (k : ℕ) → k + length p ≡ s.levels → below s.options s.good k p 0 ≡ []

-- where the choice after p is to differ from those before it, it is below the width
abbrev pub IsWithin : Search → List ℕ → ℕ → Type 0
IsWithin s p x = length p < s.distinct → x < s.width

-- where the choice after p is to differ from those before it, it does
abbrev pub Differs : Search → List ℕ → ℕ → Type 0
Differs s p x = length p < s.distinct → Contains p x → ⊥

-- the choice of a number, if there are so many
abbrev pub IsChoice : List ℕ → ℕ → Option ℕ → Type 0
IsChoice xs n choice = MatchOption choice (length xs ≤ n) (λ x. drop n xs ≡ x ∷ drop (n + 1) xs)

-- nothing that is wanted begins with p and any of the choices from one number on up to
-- before another
abbrev pub ArePassed : Search → List ℕ → ℕ → ℕ → Type 0
ArePassed s p from upto = (from ≤ upto)
    × ((i : ℕ) → from ≤ i → i < upto
    → (x : ℕ) × (drop i (s.options p) ≡ x ∷ drop (i + 1) (s.options p))
    × NothingBegins s (p ++ x ∷ []))
