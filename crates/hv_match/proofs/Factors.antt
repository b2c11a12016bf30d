-- The product of factorials, one class after another, is the product of the factors, one key after another.
use Rattle.std.proofs.Common.{◌≡◌, ◌≢◌, ℕ, zero, suc, ◌+◌, ◌*◌, Bool, true, false, List, [], ◌∷◌, map, get_or, refl, sym, ap, ◌∙◌, arith, subst, if◌then◌else◌, All, AllPairs, Contains, eqb-true, eq-eqb}
use Rattle.std.specs.Str.{bytes_eq}
use Rattle.std.proofs.lemmas.Slice.Eq.{bytes_eq-Decides}
use Rattle.hv_lists.proofs.Contained.{mem_map, map_mem, at_head, in_tail, none_in_empty}
use Rattle.hv_lists.proofs.EachOnce.{once_head, once_tail, once_more}
use Rattle.hv_lists.proofs.Bools.{both_true}
use Rattle.hv_world.specs.Values.{TaskName, compound, primitive}
use Rattle.hv_world.specs.Alike.{Key, key_with, same_name, same_key, how_many, classes}
use Rattle.hv_lists.specs.Lists.{Once}
use Rattle.hv_match.specs.Counts.{factorial, product}
use Rattle.hv_match.specs.inside.Counting.{rising}
use Rattle.hv_match.proofs.Members.{once_none}

pub name_is : (a b : TaskName) → same_name a b ≡ true → a ≡ b
name_is (compound t) (compound u) e = ap compound (eqb-true t u e)
name_is (compound t) (primitive u) e = cc
name_is (primitive t) (compound u) e = cc
name_is (primitive t) (primitive u) e = ap primitive (eqb-true t u e)

pub name_itself : (a : TaskName) → same_name a a ≡ true
name_itself (compound t) = eq-eqb t t refl
name_itself (primitive t) = eq-eqb t t refl

pub key_is : (k j : Key) → same_key k j ≡ true → k ≡ j
key_is k j e =
    let r = both_true (same_name k.name j.name) (bytes_eq k.objects j.objects) e in
    ap (λ n. key_with n k.objects) (name_is k.name j.name r.0) ∙ ap (key_with j.name) ((bytes_eq-Decides k.objects j.objects).0 r.1)

pub key_same : (k : Key) → same_key k k ≡ true
key_same k = rw (name_itself k.name, (bytes_eq-Decides k.objects k.objects).1 refl) refl

-- over different keys, one more of a key that is among them adds one factor
none_more : (k : Key) (ks ds : List Key) → (Contains ds k → ⊥) → product (map (λ d. factorial (how_many d (k ∷ ks))) ds) ≡ product (map (λ d. factorial (how_many d ks)) ds)
none_more k ks [] n = refl
none_more k ks (d ∷ ds) n = go (same_key d k) refl (none_more k ks ds (λ m. n (in_tail d ds k m)))
  where
    go : (b : Bool) → same_key d k ≡ b → product (map (λ (z : Key). factorial (how_many z (k ∷ ks))) ds) ≡ product (map (λ (z : Key). factorial (how_many z ks)) ds) →
        factorial ((if b then 1 else 0) + how_many d ks) * product (map (λ (z : Key). factorial (how_many z (k ∷ ks))) ds) ≡ factorial (how_many d ks) * product (map (λ (z : Key). factorial (how_many z ks)) ds)
    go true b r = absurd (n (at_head d ds k (sym (key_is d k b))))
    go false b r = let z : 0 + how_many d ks ≡ how_many d ks = omega arith in rw (z, r) refl

shuffle : (n m f a : ℕ) → m ≡ n → (suc n * f) * a ≡ (1 + m) * (f * a)
shuffle n m f a e = rw e (grind arith)

swap : (f m a : ℕ) → f * ((1 + m) * a) ≡ (1 + m) * (f * a)
swap f m a = grind arith

one_more : (k : Key) (ks ds : List Key) → Once ds → Contains ds k → product (map (λ d. factorial (how_many d (k ∷ ks))) ds) ≡ (1 + how_many k ks) * product (map (λ d. factorial (how_many d ks)) ds)
one_more k ks [] o m = absurd (none_in_empty k m)
one_more k ks (d ∷ ds) o m = go (same_key d k) refl (product (map (λ (z : Key). factorial (how_many z ks)) ds)) (product (map (λ (z : Key). factorial (how_many z (k ∷ ks))) ds)) m (one_more k ks ds (once_tail d ds o)) (none_more k ks ds)
  where
    go : (b : Bool) → same_key d k ≡ b → (a c : ℕ) → Contains (d ∷ ds) k → (Contains ds k → c ≡ (1 + how_many k ks) * a) → ((Contains ds k → ⊥) → c ≡ a) →
        factorial ((if b then 1 else 0) + how_many d ks) * c ≡ (1 + how_many k ks) * (factorial (how_many d ks) * a)
    go true b a c m r n =
        let e : d ≡ k = key_is d k b in
        let P : Key → Type 0 = λ l. Contains ds l → ⊥ in
        let out : Contains ds k → ⊥ = subst P e (once_head d ds o) in
        let one : 1 + how_many d ks ≡ suc (how_many d ks) = omega arith in
        let same : how_many k ks ≡ how_many d ks = ap (λ (l : Key). how_many l ks) (sym e) in
        rw (n out, one) (shuffle (how_many d ks) (how_many k ks) (factorial (how_many d ks)) a same)
    go false b a c (zero, lt, e) r n = let P : Key → Type 0 = λ l. same_key d l ≡ true in let t : same_key d k ≡ true = subst P e (key_same d) in cc
    go false b a c (suc i, lt, e) r n =
        let m : Contains ds k = (i, omega (arith, lt), e) in
        let z : 0 + how_many d ks ≡ how_many d ks = omega arith in
        rw (z, r m) (swap (factorial (how_many d ks)) (how_many k ks) a)

nothing : (ds : List Key) → product (map (λ d. factorial (how_many d [])) ds) ≡ 1
nothing [] = refl
nothing (d ∷ ds) = rw (nothing ds) refl

pub over_classes : (ks ds : List Key) → Once ds → ((k : Key) → Contains ks k → Contains ds k) → product (map (λ d. factorial (how_many d ks)) ds) ≡ rising ks
over_classes [] ds o s = nothing ds
over_classes (k ∷ ks) ds o s = one_more k ks ds o (s k (at_head k ks k refl)) ∙ ap (λ (n : ℕ). (1 + how_many k ks) * n) (over_classes ks ds o (λ j m. s j (in_tail k ks j m)))

-- classes by their keys
first_apart : (c : Key × ℕ) (cs : List (Key × ℕ)) (d : Key × ℕ) → AllPairs (λ c d. c.0 ≢ d.0) (c ∷ cs) → Contains cs d → c.0 ≡ d.0 → ⊥
first_apart c cs d a (i, h, e) f =
    let n : c.0 ≢ (get_or cs i d).0 = a 0 (suc i) d (omega arith) (omega arith) in
    n (f ∙ ap (λ (z : Key × ℕ). z.0) (sym e))

pub firsts_once : (cs : List (Key × ℕ)) → AllPairs (λ c d. c.0 ≢ d.0) cs → Once (map (λ c. c.0) cs)
firsts_once [] a = once_none
firsts_once (c ∷ cs) a =
    once_more c.0 (map (λ (z : Key × ℕ). z.0) cs) (λ m. let r = map_mem (λ (z : Key × ℕ). z.0) cs c.0 m in first_apart c cs r.0 a r.1 (sym r.2))
    (firsts_once cs (λ i j d lt within. a (suc i) (suc j) d (omega arith) (omega arith)))

sizes_said : (ks : List Key) (cs : List (Key × ℕ)) → All (λ c. c.1 ≡ how_many c.0 ks) cs → map factorial (map (λ c. c.1) cs) ≡ map (λ d. factorial (how_many d ks)) (map (λ c. c.0) cs)
sizes_said ks [] a = refl
sizes_said ks (c ∷ cs) a =
    let first : c.1 ≡ how_many c.0 ks = a 0 c (omega arith) in
    rw (first, sizes_said ks cs (λ i d h. a (suc i) d (omega arith))) refl

pub orders_rising : (ks : List Key)
    → ((k : Key) → Contains ks k → Contains (classes ks) (k, how_many k ks))
    → All (λ c. c.1 ≡ how_many c.0 ks) (classes ks)
    → AllPairs (λ c d. c.0 ≢ d.0) (classes ks)
    → product (map factorial (map (λ c. c.1) (classes ks))) ≡ rising ks
orders_rising ks each sizes once =
    rw (sizes_said ks (classes ks) sizes)
    (over_classes ks (map (λ c. c.0) (classes ks)) (firsts_once (classes ks) once)
    (λ k m. mem_map (λ (z : Key × ℕ). z.0) (classes ks) (k, how_many k ks) (each k m)))
