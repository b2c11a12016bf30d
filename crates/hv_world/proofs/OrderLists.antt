-- Lists of the earlier subtasks, and what they list.
use Rattle.std.proofs.Common.{◌≡◌, ◌≢◌, ◌<◌, ◌++◌, ◌∷◌, ◌==◌, ◌⊎◌, inl, inr, ℕ, zero, suc, Bool, true, false, List, [], Vec, refl, sym, ap, ◌∙◌, subst, arith, append_assoc, append-nil, length, set, get_or, Contains, if◌then◌else◌, eqb-true, eq-eqb, get_or-set_same, get_or-set_other, true≢false}
use Rattle.std.proofs.lemmas.Grind.{common_steps}
use Rattle.std.proofs.lemmas.List.{map-set}
use Rattle.std.specs.declared.alloc.Global.{Global}
use Rattle.hv_lists.proofs.Contained.{none_in_empty, in_tail}
use Rattle.hv_world.specs.inside.OrderWalks.{list_at, lists_of, AreEarlier}

-- what a list contains
cases_at : {X : Type 0} (x y : X) (xs : List X) (k : ℕ) → k < length (x ∷ xs) → get_or (x ∷ xs) k y ≡ y → (x ≡ y) ⊎ Contains xs y
cases_at x y xs zero h e = inl e
cases_at x y xs (suc k) h e = inr (k, omega (arith, h), e)

pub contains_cases : {X : Type 0} (x y : X) (xs : List X) → Contains (x ∷ xs) y → (x ≡ y) ⊎ Contains xs y
contains_cases x y xs h = cases_at x y xs h.0 h.1 h.2

-- a row of lists
pub one_more_empty : (xss : List (List ℕ)) → ((j : ℕ) → list_at xss j ≡ []) → (j : ℕ) → list_at (xss ++ [] ∷ []) j ≡ []
one_more_empty [] h zero = refl
one_more_empty [] h (suc j) = refl
one_more_empty (xs ∷ xss) h zero = h zero
one_more_empty (xs ∷ xss) h (suc j) = one_more_empty xss (λ k. h (suc k)) j

-- the earlier ones of j among these pairs
abbrev pub earlier_of : List (ℕ × ℕ) → ℕ → List ℕ
earlier_of [] j = []
earlier_of (p ∷ ps) j = if p.1 == j then p.0 ∷ earlier_of ps j else earlier_of ps j

-- the lists so far, with what the pairs behind add, are all that the pairs name
abbrev pub HasRest : List (ℕ × ℕ) → List (List ℕ) → List (ℕ × ℕ) → Type 0
HasRest pairs xss rest = (j : ℕ) → list_at xss j ++ earlier_of rest j ≡ earlier_of pairs j

list_at_set : (xss : List (List ℕ)) (j : ℕ) (xs : List ℕ) → j < length xss → list_at (set xss j xs) j ≡ xs
list_at_set xss j xs w = get_or-set_same xss j xs [] w

more_by : (xss : List (List ℕ)) (i j k : ℕ) (rest : List (ℕ × ℕ)) (whole : List ℕ) (b : Bool) → (j == k) ≡ b → j < length xss
    → list_at xss k ++ (if j == k then i ∷ earlier_of rest k else earlier_of rest k) ≡ whole
    → list_at (set xss j (list_at xss j ++ i ∷ [])) k ++ earlier_of rest k ≡ whole
more_by xss i j k rest whole true e w h =
    let same : j ≡ k = eqb-true j k e in
    let was : list_at xss k ++ (i ∷ earlier_of rest k) ≡ whole = rw e at h in
    let moved : list_at xss j ++ (i ∷ earlier_of rest k) ≡ whole = subst (λ m. list_at xss m ++ (i ∷ earlier_of rest k) ≡ whole) (sym same) was in
    let now : list_at (set xss j (list_at xss j ++ i ∷ [])) k ≡ list_at xss j ++ i ∷ [] = subst (λ m. list_at (set xss j (list_at xss j ++ i ∷ [])) m ≡ list_at xss j ++ i ∷ []) same (list_at_set xss j _ w) in
    ap (λ l. l ++ earlier_of rest k) now ∙ append_assoc (list_at xss j) (i ∷ []) (earlier_of rest k) ∙ moved
more_by xss i j k rest whole false e w h =
    let other : k ≢ j = λ q. true≢false (sym (eq-eqb j k (sym q)) ∙ e) in
    let was : list_at xss k ++ earlier_of rest k ≡ whole = rw e at h in
    ap (λ l. l ++ earlier_of rest k) (get_or-set_other xss j k _ [] other) ∙ was

pub one_pair_more : (pairs : List (ℕ × ℕ)) (xss : List (List ℕ)) (i j : ℕ) (rest : List (ℕ × ℕ)) → j < length xss → HasRest pairs xss ((i, j) ∷ rest) → HasRest pairs (set xss j (list_at xss j ++ i ∷ [])) rest
one_pair_more pairs xss i j rest w h k = more_by xss i j k rest (earlier_of pairs k) (j == k) refl w (h k)

named_at : (a b i j : ℕ) (ps : List (ℕ × ℕ)) → b ≡ j → (a ≡ i) ⊎ Contains ps (i, j) → Contains ((a, b) ∷ ps) (i, j)
named_at a b i j ps q (inl e) = (0, omega arith, ap (λ x. (x, b)) e ∙ ap (λ y. (i, y)) q)
named_at a b i j ps q (inr g) = in_tail (a, b) ps (i, j) g

in_second : {A B C : Type 0} → (B → C) → A ⊎ B → A ⊎ C
in_second f (inl a) = inl a
in_second f (inr b) = inr (f b)

named_by : (a b i j : ℕ) (ps : List (ℕ × ℕ)) (t : Bool) → (b == j) ≡ t → (Contains (earlier_of ps j) i → Contains ps (i, j))
    → Contains (if b == j then a ∷ earlier_of ps j else earlier_of ps j) i → Contains ((a, b) ∷ ps) (i, j)
named_by a b i j ps true e again h = named_at a b i j ps (eqb-true b j e) (in_second again (contains_cases a i (earlier_of ps j) (subst (λ t. Contains (if t then a ∷ earlier_of ps j else earlier_of ps j) i) e h)))
named_by a b i j ps false e again h = in_tail (a, b) ps (i, j) (again (subst (λ t. Contains (if t then a ∷ earlier_of ps j else earlier_of ps j) i) e h))

pub earlier_named : (ps : List (ℕ × ℕ)) (i j : ℕ) → Contains (earlier_of ps j) i → Contains ps (i, j)
earlier_named [] i j h = absurd (none_in_empty i h)
earlier_named ((a, b) ∷ ps) i j h = named_by a b i j ps (b == j) refl (earlier_named ps i j) h

earlier_behind : (a b i j : ℕ) (ps : List (ℕ × ℕ)) (t : Bool) → (b == j) ≡ t → Contains (earlier_of ps j) i → Contains (if b == j then a ∷ earlier_of ps j else earlier_of ps j) i
earlier_behind a b i j ps true e g = subst (λ t. Contains (if t then a ∷ earlier_of ps j else earlier_of ps j) i) (sym e) (in_tail a (earlier_of ps j) i g)
earlier_behind a b i j ps false e g = subst (λ t. Contains (if t then a ∷ earlier_of ps j else earlier_of ps j) i) (sym e) g

earlier_by : (a b i j : ℕ) (ps : List (ℕ × ℕ)) → (Contains ps (i, j) → Contains (earlier_of ps j) i) → ◌≡◌ {A = ℕ × ℕ} (a, b) (i, j) ⊎ Contains ps (i, j)
    → Contains (if b == j then a ∷ earlier_of ps j else earlier_of ps j) i
earlier_by a b i j ps again (inl e) = subst (λ t. Contains (if t then a ∷ earlier_of ps j else earlier_of ps j) i) (sym (eq-eqb b j (ap (λ p. p.1) e))) (0, omega arith, ap (λ p. p.0) e)
earlier_by a b i j ps again (inr g) = earlier_behind a b i j ps (b == j) refl (again g)

pub named_earlier : (ps : List (ℕ × ℕ)) (i j : ℕ) → Contains ps (i, j) → Contains (earlier_of ps j) i
named_earlier [] i j h = absurd (none_in_empty (i, j) h)
named_earlier ((a, b) ∷ ps) i j h = earlier_by a b i j ps (named_earlier ps i j) (contains_cases (a, b) (i, j) ps h)

pub all_listed : (n : ℕ) (pairs : List (ℕ × ℕ)) (xss : List (List ℕ)) → length xss ≡ n → HasRest pairs xss [] → AreEarlier n pairs xss
all_listed n pairs xss c h = record {
  count = c;
  listed = λ i j.
      let e : list_at xss j ≡ earlier_of pairs j = sym (append-nil (list_at xss j)) ∙ h j in
      (λ g. earlier_named pairs i j (subst (λ l. Contains l i) e g), λ g. subst (λ l. Contains l i) (sym e) (named_earlier pairs i j g));
}

-- one of the lists, as it is read
pub list_read : (vs : List (Vec ℕ Global)) (v : Vec ℕ Global) (j : ℕ) → j < length vs → v ≡ get_or vs j v → list_at (lists_of vs) j ≡ v.items
list_read vs v j w e = grind (arith, common_steps, e, w)

-- a push to one of the lists
pub pushed_lists : (vs : List (Vec ℕ Global)) (was now : Vec ℕ Global) (j i : ℕ) → j < length vs → was ≡ get_or vs j was → now.items ≡ was.items ++ i ∷ []
    → lists_of (set vs j now) ≡ set (lists_of vs) j (list_at (lists_of vs) j ++ i ∷ [])
pushed_lists vs was now j i w e q =
    map-set (λ v. v.items) vs j now ∙ ap (set (lists_of vs) j) (q ∙ ap (λ l. l ++ i ∷ []) (sym (list_read vs was j w e)))
