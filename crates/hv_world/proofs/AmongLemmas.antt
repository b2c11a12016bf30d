-- Names among names.
use Rattle.std.proofs.Common.{◌≡◌, ℕ, suc, ◌<◌, Bool, true, false, ◌||◌, List, [], ◌∷◌, ◌++◌, length, Some, option_map, bytes_eq, if◌then◌else◌, refl, ap, sym, subst, ◌∙◌, arith}
use Rattle.std.specs.Cmp.Lexicographic.{bytes_decides}
use Rattle.hv_lists.proofs.Bools.{or_left, or_right}
use Rattle.hv_world.specs.Names.{is_among, place_in, with_names, by_sight, number_or, number_in}

pub among_append : (xs ys : List (List ℕ)) (n : List ℕ) → is_among (xs ++ ys) n ≡ (is_among xs n || is_among ys n)
among_append [] ys n = refl
among_append (x ∷ xs) ys n = go (bytes_eq n x) (among_append xs ys n)
  where
    go : (b : Bool) → is_among (xs ++ ys) n ≡ (is_among xs n || is_among ys n) → (b || is_among (xs ++ ys) n) ≡ ((b || is_among xs n) || is_among ys n)
    go true e = refl
    go false e = e

pub among_left : (xs ys : List (List ℕ)) (n : List ℕ) → is_among xs n ≡ true → is_among (xs ++ ys) n ≡ true
among_left xs ys n e = among_append xs ys n ∙ or_left _ _ e

pub among_right : (xs ys : List (List ℕ)) (n : List ℕ) → is_among ys n ≡ true → is_among (xs ++ ys) n ≡ true
among_right xs ys n e = among_append xs ys n ∙ or_right (is_among xs n) _ e

pub among_self : (n : List ℕ) (ns : List (List ℕ)) → is_among (n ∷ ns) n ≡ true
among_self n ns = or_left (bytes_eq n n) (is_among ns n) ((bytes_decides n n).1 refl)

noted : (seen : List (List ℕ)) (m n : List ℕ) → is_among seen n ≡ true → is_among (if is_among seen m then seen else seen ++ m ∷ []) n ≡ true
noted seen m n e = go (is_among seen m)
  where
    go : (b : Bool) → is_among (if b then seen else seen ++ m ∷ []) n ≡ true
    go true = e
    go false = among_left seen (m ∷ []) n e

noted_itself : (seen : List (List ℕ)) (m : List ℕ) → is_among (if is_among seen m then seen else seen ++ m ∷ []) m ≡ true
noted_itself seen m = go (is_among seen m) refl
  where
    go : (b : Bool) → is_among seen m ≡ b → is_among (if b then seen else seen ++ m ∷ []) m ≡ true
    go true e = e
    go false e = among_right seen (m ∷ []) m (among_self m [])

pub still_seen : (seen ns : List (List ℕ)) (n : List ℕ) → is_among seen n ≡ true → is_among (with_names seen ns) n ≡ true
still_seen seen [] n e = e
still_seen seen (m ∷ ns) n e = still_seen (if is_among seen m then seen else seen ++ m ∷ []) ns n (noted seen m n e)

pub seen_of : (seen ns : List (List ℕ)) (n : List ℕ) → is_among ns n ≡ true → is_among (with_names seen ns) n ≡ true
seen_of seen [] n e = absurd (cc)
seen_of seen (m ∷ ns) n e = go (bytes_eq n m) refl e (seen_of (if is_among seen m then seen else seen ++ m ∷ []) ns n)
  where
    go : (b : Bool) → bytes_eq n m ≡ b → (b || is_among ns n) ≡ true → (is_among ns n ≡ true → is_among (with_names seen (m ∷ ns)) n ≡ true) → is_among (with_names seen (m ∷ ns)) n ≡ true
    go false t h later = later h
    go true t h later =
        still_seen (if is_among seen m then seen else seen ++ m ∷ []) ns n
        (subst (λ q. is_among (if is_among seen m then seen else seen ++ m ∷ []) q ≡ true) (sym ((bytes_decides n m).0 t)) (noted_itself seen m))

-- by sight, each of these is among them
pub by_sight_has : (ns : List (List ℕ)) (n : List ℕ) → is_among ns n ≡ true → is_among (by_sight ns) n ≡ true
by_sight_has ns n e = seen_of [] ns n e

-- a name that is there has a number within
pub place_there : (ns : List (List ℕ)) (n : List ℕ) → is_among ns n ≡ true → (i : ℕ) × (place_in ns n ≡ Some i) × (i < length ns)
place_there [] n e = absurd (cc)
place_there (m ∷ ns) n e = go (bytes_eq n m) e (place_there ns n)
  where
    go : (b : Bool) → (b || is_among ns n) ≡ true → (is_among ns n ≡ true → (i : ℕ) × (place_in ns n ≡ Some i) × (i < length ns))
        → (i : ℕ) × ((if b then Some 0 else option_map suc (place_in ns n)) ≡ Some i) × (i < suc (length ns))
    go true h later = (0, refl, omega arith)
    go false h later = let r = later h in let lt = r.2 in (suc r.0, ap (option_map suc) r.1, omega arith)

pub number_within : (ns : List (List ℕ)) (n : List ℕ) → is_among ns n ≡ true → number_in ns n < length ns
number_within ns n e = let r = place_there ns n e in subst (λ o. number_or (length ns) o < length ns) (sym r.1) r.2

pub some_within : (ns : List (List ℕ)) (n : List ℕ) → is_among ns n ≡ true → 0 < length ns
some_within ns n e = let lt = number_within ns n e in omega arith
