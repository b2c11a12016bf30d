-- How the code reads: what a reader answers, and what lists of parts spell.
use Rattle.std.specs.Prelude.{◌≡◌, List, [], ◌∷◌, ◌++◌, Option, Some, None, Result, Ok, Err, option_map}
use Rattle.hv_text.specs.Trees.{Tree, Trees, none, more}
use Rattle.hv_reading.specs.declared.refusal.Refusal.{Refusal}
use Rattle.hv_reading.specs.declared.refusal.Refusal.TheVariants as refusals

-- a refusal: nothing is spelled, or memory ran out
abbrev pub Fails : {Y : Type 0} → Refusal → Option Y → Type 0
Fails refusals.NoSpelling spelled = spelled ≡ None
Fails refusals.Memory spelled = Unit {0}

-- what a reader answers, seen by view, is the value that is spelled, unless memory ran out
abbrev pub Gives : {X Y : Type 0} → (X → Y) → Result X Refusal → Option Y → Type 0
Gives view (Ok x) spelled = spelled ≡ Some (view x)
Gives view (Err e) spelled = Fails e spelled

-- both parts
abbrev pub both : {A B C : Type 0} → (A → B → C) → Option A → Option B → Option C
both f None y = None
both f (Some x) None = None
both f (Some x) (Some y) = Some (f x y)

-- what all members spell
abbrev pub every : {A : Type 0} → (Tree → Option A) → Trees → Option (List A)
every f none = Some []
every f (more t ts) = both ◌∷◌ (f t) (every f ts)

-- what each of a list is, where each is something
abbrev pub all_some : {A : Type 0} → List (Option A) → Option (List A)
all_some [] = Some []
all_some (p ∷ ps) = both ◌∷◌ p (all_some ps)

-- with these before
abbrev pub behind : {A : Type 0} → List A → Option (List A) → Option (List A)
behind front r = option_map (λ xs. front ++ xs) r

-- the one member
abbrev pub only : Trees → Option Tree
only none = None
only (more t none) = Some t
only (more t (more u ts)) = None

-- two values, one beside the other
abbrev pub tuple : {A B : Type 0} → A → B → A × B
tuple a b = (a, b)

-- the two members
abbrev pub two : Trees → Option (Tree × Tree)
two none = None
two (more t ts) = option_map (tuple t) (only ts)
