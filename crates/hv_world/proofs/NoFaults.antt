-- Where lists of faults are empty.
use Rattle.std.proofs.Common.{◌≡◌, Bool, true, false, not, List, [], ◌∷◌, ◌++◌, All, refl}
use Rattle.std.specs.List.{flat_map}
use Rattle.std.proofs.lemmas.List.Elements.{All-cons, All-nil}
use Rattle.hv_lists.proofs.Places.{first_none}
use Rattle.hv_syntax.specs.Values.{WordAt}
use Rattle.hv_world.specs.declared.fault.StaticKind.{StaticKind}
use Rattle.hv_world.specs.declared.fault.Side.{Side}
use Rattle.hv_world.specs.StaticRules.{at_word_if}

-- where two lists are nothing together, each is
pub last_none : {A : Type 0} (xs ys : List A) → xs ++ ys ≡ [] → ys ≡ []
last_none [] ys e = e
last_none (x ∷ xs) ys e = absurd (cc)

pub none_of_each : {X A : Type 0} (f : X → List A) (xs : List X) → flat_map f xs ≡ [] → All (λ x. f x ≡ []) xs
none_of_each f [] e = All-nil (λ x. f x ≡ [])
none_of_each f (x ∷ xs) e = All-cons (λ y. f y ≡ []) x xs (first_none (f x) (flat_map f xs) e) (none_of_each f xs (last_none (f x) (flat_map f xs) e))

pub no_fault : (b : Bool) (k : StaticKind) (s : Side) (w : WordAt) → at_word_if (not b) k s w ≡ [] → b ≡ true
no_fault true k s w e = refl
no_fault false k s w e = absurd (cc)
