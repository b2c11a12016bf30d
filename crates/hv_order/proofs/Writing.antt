-- How what is chosen for nodes is written down, one after another.
use Rattle.std.proofs.Common.{◌≡◌, ℕ, zero, suc, ◌+◌, ◌<◌, ◌≤◌, List, [], ◌∷◌, ◌++◌, Option, Some, None, length, map, take, drop, get_or, slice_get, refl, sym, ap, ◌∙◌, arith, All}
use Rattle.std.specs.List.{AllZip}
use Rattle.std.proofs.lemmas.List.Elements.{All-head, All-tail, All-nil, All-cons}
use Rattle.std.proofs.lemmas.Option.{get_or_from_slice_get, slice_get_within}
use Rattle.std.specs.Option.{option_map}
use Rattle.hv_lists.proofs.Places.{member_at, take_one, map_end}
use Rattle.hv_lists.proofs.Pairs.{zip_end}
use Rattle.hv_text.specs.Names.{text_of}
use Rattle.hv_text.specs.declared.name.Name.{Name}

-- one more is written
pub zip_more : {X A Y : Type 0} (f : X → A) (R : A → Y → Type 0) (xs : List X) (i : ℕ) (d : X) (ys : List Y) (y : Y)
    → i < length xs → AllZip R (map f (take i xs)) ys → R (f (get_or xs i d)) y
    → AllZip R (map f (take (i + 1) xs)) (ys ++ y ∷ [])
zip_more f R xs i d ys y h a is =
    rw (take_one xs i d h, map_end f (take i xs) (get_or xs i d)) (zip_end R (map f (take i xs)) ys (f (get_or xs i d)) y a is)

-- what is true of all that a list says is true of what one of its members says
pub all_at : {X A : Type 0} (f : X → A) (P : A → Type 0) (xs : List X) (i : ℕ) (d : X) → i < length xs → All P (map f xs)
    → P (f (get_or xs i d))
all_at f P [] i d h all = absurd (omega arith)
all_at f P (x ∷ xs) zero d h all = All-head P (f x) (map f xs) all
all_at f P (x ∷ xs) (suc i) d h all = all_at f P xs i d (omega arith) (All-tail P (f x) (map f xs) all)

-- behind the first, one more is taken
pub behind_first : (xs : List ℕ) (i v : ℕ) → 1 ≤ i → slice_get xs i ≡ Some v → drop 1 (take (i + 1) xs) ≡ drop 1 (take i xs) ++ v ∷ []
behind_first [] i v h e = cc
behind_first (x ∷ xs) zero v h e = absurd (omega arith)
behind_first (x ∷ xs) (suc i) v h e =
    let at : slice_get xs i ≡ Some v = e in
    let lt : i < length xs = slice_get_within xs i v at in
    let is : get_or xs i 0 ≡ v = get_or_from_slice_get xs i v 0 at in
    let n : suc i + 1 ≡ suc (i + 1) = omega arith in
    rw n (take_one xs i 0 lt ∙ ap (λ y. take i xs ++ y ∷ []) is)

pub none_behind : (xs : List ℕ) → drop 1 (take 1 xs) ≡ []
none_behind [] = refl
none_behind (x ∷ xs) = refl

pub one_line_more : {Y : Type 0} (R : ℕ → Y → Type 0) (xs : List ℕ) (i v : ℕ) (ys : List Y) (y : Y) → 1 ≤ i → slice_get xs i ≡ Some v
    → AllZip R (drop 1 (take i xs)) ys → R v y → AllZip R (drop 1 (take (i + 1) xs)) (ys ++ y ∷ [])
one_line_more R xs i v ys y h e a is =
    let more = behind_first xs i v h e in
    rw more (zip_end R (drop 1 (take i xs)) ys v y a is)

-- what is written of what stands for something is written of it
pub zip_through : {A B C : Type 0} (P : A → B → Type 0) (Q : B → C → Type 0) (R : A → C → Type 0)
    → ((a : A) (b : B) (c : C) → P a b → Q b c → R a c) → (as' : List A) (bs : List B) (cs : List C)
    → AllZip P as' bs → AllZip Q bs cs → AllZip R as' cs
zip_through P Q R by [] [] [] p q = tt
zip_through P Q R by [] [] (c ∷ cs) p q = q
zip_through P Q R by [] (b ∷ bs) cs p q = absurd p
zip_through P Q R by (a ∷ as') [] cs p q = absurd p
zip_through P Q R by (a ∷ as') (b ∷ bs) [] p q = q
zip_through P Q R by (a ∷ as') (b ∷ bs) (c ∷ cs) p q = (by a b c p.0 q.0, zip_through P Q R by as' bs cs p.1 q.1)

pub zip_weaker : {A B : Type 0} (P Q : A → B → Type 0) → ((a : A) (b : B) → P a b → Q a b) → (as' : List A) (bs : List B)
    → AllZip P as' bs → AllZip Q as' bs
zip_weaker P Q by [] [] p = tt
zip_weaker P Q by [] (b ∷ bs) p = p
zip_weaker P Q by (a ∷ as') [] p = p
zip_weaker P Q by (a ∷ as') (b ∷ bs) p = (by a b p.0, zip_weaker P Q by as' bs p.1)

-- what follows of each second of a pair, or of each first
pub seconds : {A B : Type 0} (P : A → B → Type 0) (Q : B → Type 0) → ((a : A) (b : B) → P a b → Q b) → (as' : List A) (bs : List B)
    → AllZip P as' bs → All Q bs
seconds P Q by [] [] p = All-nil Q
seconds P Q by [] (b ∷ bs) p = absurd p
seconds P Q by (a ∷ as') [] p = absurd p
seconds P Q by (a ∷ as') (b ∷ bs) p = All-cons Q b bs (by a b p.0) (seconds P Q by as' bs p.1)

pub firsts : {A B : Type 0} (P : A → B → Type 0) (Q : A → Type 0) → ((a : A) (b : B) → P a b → Q a) → (as' : List A) (bs : List B)
    → AllZip P as' bs → All Q as'
firsts P Q by [] [] p = All-nil Q
firsts P Q by [] (b ∷ bs) p = absurd p
firsts P Q by (a ∷ as') [] p = absurd p
firsts P Q by (a ∷ as') (b ∷ bs) p = All-cons Q a as' (by a b p.0) (firsts P Q by as' bs p.1)

-- the name of a number, where there is one
pub name_at : (names : List (List ℕ)) (o : Option Name) (k : ℕ) (n : Name) → option_map text_of o ≡ slice_get names k → o ≡ Some n
    → slice_get names k ≡ Some (text_of n)
name_at names None k n e f = cc
name_at names (Some m) k n e f = let same : m ≡ n = cc in sym e ∙ ap (λ x. Some (text_of x)) same

pub no_name : (names : List (List ℕ)) (o : Option Name) (k : ℕ) → option_map text_of o ≡ slice_get names k → o ≡ None
    → k < length names → ⊥
no_name names None k e f lt = let (x, at) = member_at names k lt in cc
no_name names (Some m) k e f lt = cc
