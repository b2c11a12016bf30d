-- A search finds no more than the product of the choices of each level, where only hopeful ones count.
use Rattle.std.proofs.Common.{◌≡◌, ℕ, zero, suc, ◌+◌, ◌*◌, ◌<◌, ◌≤◌, Bool, true, false, List, [], ◌∷◌, ◌++◌, length, map, drop, refl, sym, ap, ◌∙◌, arith, length-append, append_assoc, subst, inl, inr, if◌then◌else◌, Contains}
use Rattle.std.proofs.lemmas.List.{append-nil}
use Rattle.std.proofs.lemmas.List.Elements.{Contains-append_right, Contains-append_cases}
use Rattle.std.proofs.Math.Nat.{mul-le-mul_right}
use Rattle.std.specs.List.{flat_map}
use Rattle.hv_lists.specs.Lists.{Once}
use Rattle.hv_lists.proofs.Contained.{at_head, in_tail, none_in_empty}
use Rattle.hv_lists.proofs.EachOnce.{once_head, once_tail, once_more}
use Rattle.hv_match.specs.inside.Search.{IsPath, below, IsWanted}
use Rattle.hv_world.specs.Alike.{Key, same_key, how_many}
use Rattle.hv_match.specs.inside.Counting.{first_alike, IsMatching, tower}
use Rattle.hv_match.proofs.Members.{at_most, all_there, once_none}
use Rattle.hv_match.proofs.Listing.{found}
use Rattle.hv_match.proofs.Factors.{key_same}

-- the elements at which f gives something
keep : {Y : Type 0} → List Y → ℕ → List ℕ → List ℕ
keep [] x r = r
keep (q ∷ qs) x r = x ∷ r

hits : {Y : Type 0} → (ℕ → List Y) → List ℕ → List ℕ
hits f [] = []
hits f (x ∷ xs) = keep (f x) x (hits f xs)

hits_len : {Y : Type 0} (f : ℕ → List Y) (xs : List ℕ) (b : ℕ) → ((x : ℕ) → Contains xs x → length (f x) ≤ b) → length (flat_map f xs) ≤ length (hits f xs) * b
unfolding hits keep
hits_len f [] b h = omega arith
hits_len {Y} f (x ∷ xs) b h = go (f x) (h x (at_head x xs x refl)) (hits_len f xs b (λ y m. h y (in_tail x xs y m)))
  where
    go : (l : List Y) → length l ≤ b → length (flat_map f xs) ≤ length (hits f xs) * b → length (l ++ flat_map f xs) ≤ length (keep l x (hits f xs)) * b
    go [] e r = r
    go (q ∷ qs) e r = omega (arith, length-append (q ∷ qs) (flat_map f xs), e, r)

hits_mem : {Y : Type 0} (f : ℕ → List Y) (xs : List ℕ) (y : ℕ) → Contains (hits f xs) y → Contains xs y × ((q : Y) × Contains (f y) q)
unfolding hits keep
hits_mem f [] y m = absurd (none_in_empty y m)
hits_mem {Y} f (x ∷ xs) y m = go (f x) refl m (hits_mem f xs y)
  where
    go : (l : List Y) → f x ≡ l → Contains (keep l x (hits f xs)) y → (Contains (hits f xs) y → Contains xs y × ((q : Y) × Contains (f y) q)) → Contains (x ∷ xs) y × ((q : Y) × Contains (f y) q)
    go [] e m k = let r = k m in (in_tail x xs y r.0, r.1)
    go (q ∷ qs) e (zero, lt, i) k =
        let same : x ≡ y = i in
        let P : List Y → Type 0 = λ l. Contains l q in
        let n : Contains (f x) q = subst P (sym e) (at_head q qs q refl) in
        let Q : ℕ → Type 0 = λ w. Contains (f w) q in (at_head x xs y (sym same), (q, subst Q same n))
    go (q ∷ qs) e (suc j, lt, i) k =
        let within : suc j < suc (length (hits f xs)) = lt in
        let r = k (j, omega (arith, within), i) in
        (in_tail x xs y r.0, r.1)

hits_once : {Y : Type 0} (f : ℕ → List Y) (xs : List ℕ) → Once xs → Once (hits f xs)
unfolding hits keep
hits_once f [] o = once_none
hits_once {Y} f (x ∷ xs) o = go (f x) (hits_once f xs (once_tail x xs o))
  where
    go : (l : List Y) → Once (hits f xs) → Once (keep l x (hits f xs))
    go [] r = r
    go (q ∷ qs) r = once_more x (hits f xs) (λ m. once_head x xs o (hits_mem f xs x m).0) r

pub path_join : (options : List ℕ → List ℕ) (a p xs : List ℕ) → IsPath options a p → IsPath options (a ++ p) xs → IsPath options a (p ++ xs)
path_join options a [] xs h k = rw append-nil at k
path_join options a (y ∷ p) xs h k = (h.0, path_join options (a ++ y ∷ []) p xs h.1 (rw (append_assoc a (y ∷ []) p) k))

module _ (options : List ℕ → List ℕ) (good : List ℕ → Bool) (levels : ℕ) (fac : ℕ → ℕ) (o : (p : List ℕ) → Once (options p))
    (few : (p ys : List ℕ) → length p < levels → Once ys → ((y : ℕ) → Contains ys y → Contains (options p) y × ((t : List ℕ) × IsWanted options good levels (p ++ y ∷ t))) → length ys ≤ fac (length p)) where
  pub bounded : (k : ℕ) (p : List ℕ) → k + length p ≡ levels → IsPath options [] p → length (below options good k p 0) ≤ tower fac (length p) k
  bounded zero p e h = go (good p)
    where
      go : (b : Bool) → length {A = List ℕ} (if b then p ∷ [] else []) ≤ 1
      go true = omega arith
      go false = omega arith
  bounded (suc k) p e h =
      let f : ℕ → List (List ℕ) = λ x. below options good k (p ++ x ∷ []) 0 in
      let one = λ (x : ℕ) (m : Contains (options p) x).
      (let r = bounded k (p ++ x ∷ []) (omega (arith, length-append p (x ∷ []))) (path_join options [] p (x ∷ []) h (m, tt)) in
      let i : length (p ++ x ∷ []) ≡ length p + 1 = omega (arith, length-append p (x ∷ [])) in
      rw i at r) in
      let l : length (flat_map f (options p)) ≤ length (hits f (options p)) * tower fac (length p + 1) k = hits_len f (options p) (tower fac (length p + 1) k) one in
      let s : length (hits f (options p)) ≤ fac (length p) = few p (hits f (options p)) (omega arith) (hits_once f (options p) (o p)) (λ y m. wanted y (hits_mem f (options p) y m)) in
      omega (arith, l, mul-le-mul_right (tower fac (length p + 1) k) s)
    where
      wanted : (y : ℕ) → Contains (options p) y × ((q : List ℕ) × Contains (below options good k (p ++ y ∷ []) 0) q) → Contains (options p) y × ((t : List ℕ) × IsWanted options good levels (p ++ y ∷ t))
      wanted y (m, (q, n)) =
          let r = found options good k (p ++ y ∷ []) q n in
          let same : q ≡ p ++ (y ∷ r.0) = r.1 ∙ append_assoc p (y ∷ []) r.0 in (
            m,
            (
              r.0,
              record {
                whole = omega (arith, length-append p (y ∷ r.0), r.2, e);
                path = path_join options [] p (y ∷ r.0) h (m, r.3);
                is_good = ap good (sym same) ∙ r.4;
              },
            ),
          )

-- matching: the numbers of a key that are not yet used
once_left : {X : Type 0} (p ys : List X) (y : X) → Once (p ++ ys) → Contains p y → Contains ys y → ⊥
once_left [] ys y o m n = absurd (none_in_empty y m)
once_left {X} (x ∷ p) ys y o (zero, lt, e) n = let P : X → Type 0 = λ w. Contains ys w in once_head x (p ++ ys) o (Contains-append_right p ys x (subst P (sym e) n))
once_left (x ∷ p) ys y o (suc k, lt, e) n = once_left p ys y (once_tail x (p ++ ys) o) (k, omega (arith, lt), e) n

module _ (key : ℕ → Key) where
  take_key : Bool → ℕ → List ℕ → List ℕ
  take_key true z r = z ∷ r
  take_key false z r = r

  picked : Key → List ℕ → List ℕ
  picked k [] = []
  picked k (z ∷ zs) = take_key (same_key k (key z)) z (picked k zs)

  picked_len : (k : Key) (zs : List ℕ) → length (picked k zs) ≡ how_many k (map key zs)
  unfolding picked take_key
  picked_len k [] = refl
  picked_len k (z ∷ zs) = go (same_key k (key z)) (picked_len k zs)
    where
      go : (b : Bool) → length (picked k zs) ≡ how_many k (map key zs) → length (take_key b z (picked k zs)) ≡ (if b then 1 else 0) + how_many k (map key zs)
      go true e = omega (arith, e)
      go false e = omega (arith, e)

  picked_mem : (k : Key) (zs : List ℕ) (y : ℕ) → key y ≡ k → Contains zs y → Contains (picked k zs) y
  unfolding picked take_key
  picked_mem k [] y e m = absurd (none_in_empty y m)
  picked_mem k (z ∷ zs) y e m = go (same_key k (key z)) refl m (picked_mem k zs y e)
    where
      go : (b : Bool) → same_key k (key z) ≡ b → Contains (z ∷ zs) y → (Contains zs y → Contains (picked k zs) y) → Contains (take_key b z (picked k zs)) y
      go true b (zero, lt, i) r = at_head z (picked k zs) y (sym i)
      go true b (suc j, lt, i) r = in_tail z (picked k zs) y (r (j, omega (arith, lt), i))
      go false b (zero, lt, i) r = let at : y ≡ z = sym i in let f : k ≡ key z = sym e ∙ ap key at in let P : Key → Type 0 = λ l. same_key k l ≡ true in let c : same_key k (key z) ≡ true = subst P f (key_same k) in cc
      go false b (suc j, lt, i) r = r (j, omega (arith, lt), i)

  same_tail : (p t u : List ℕ) → map key (p ++ t) ≡ map key (p ++ u) → map key t ≡ map key u
  same_tail [] t u e = e
  same_tail (x ∷ p) t u e = let f : map key (p ++ t) ≡ map key (p ++ u) = cc in same_tail p t u f

  drop_keys : (p t : List ℕ) (ks : List Key) → map key (p ++ t) ≡ ks → map key t ≡ drop (length p) ks
  drop_keys [] t ks e = e
  drop_keys (x ∷ p) t [] e = cc
  drop_keys (x ∷ p) t (k ∷ ks) e = let f : map key (p ++ t) ≡ ks = cc in drop_keys p t ks f

  map_len : (xs : List ℕ) → length (map key xs) ≡ length xs
  map_len [] = refl
  map_len (x ∷ xs) = ap suc (map_len xs)

  pub few_matches : (ks : List Key) (p ys : List ℕ) → Once ys → ((y : ℕ) → Contains ys y → (t : List ℕ) × IsMatching key ks (p ++ y ∷ t)) → length ys ≤ first_alike (drop (length p) ks)
  few_matches ks p [] o w = omega arith
  few_matches ks p (y0 ∷ ys) o w =
      let w0 = w y0 (at_head y0 ys y0 refl) in
      let size : length (p ++ y0 ∷ w0.0) ≡ length ks = sym (map_len (p ++ y0 ∷ w0.0)) ∙ ap length w0.1.keys in
      let there = λ (y : ℕ) (m : Contains (y0 ∷ ys) y).
      (let v = w y m in
      let tails : map key (y ∷ v.0) ≡ map key (y0 ∷ w0.0) = same_tail p (y ∷ v.0) (y0 ∷ w0.0) (v.1.keys ∙ sym w0.1.keys) in
      let k : key y ≡ key y0 = cc in
      let all : Contains (p ++ y0 ∷ w0.0) y = all_there (length ks) (p ++ y0 ∷ w0.0) w0.1.once size w0.1.below y (v.1.below y (Contains-append_right p (y ∷ v.0) y (at_head y v.0 y refl))) in
      let out : Contains p y → ⊥ = λ n. once_left p (y ∷ v.0) y v.1.once n (at_head y v.0 y refl) in
      let here : Contains (y0 ∷ w0.0) y = elim (Contains-append_cases p (y0 ∷ w0.0) y all) [ inl a ↦ absurd (out a) | inr b ↦ b ] in
      picked_mem (key y0) (y0 ∷ w0.0) y k here) in
      let n = at_most (y0 ∷ ys) (picked (key y0) (y0 ∷ w0.0)) o there in
      let c = picked_len (key y0) (y0 ∷ w0.0) in
      let d : map key (y0 ∷ w0.0) ≡ drop (length p) ks = drop_keys p (y0 ∷ w0.0) ks w0.1.keys in
      let one : how_many (key y0) (map key (y0 ∷ w0.0)) ≡ first_alike (map key (y0 ∷ w0.0)) = rw (key_same (key y0)) refl in
      rw (← d) (omega (arith, n, c, one))
