-- Products, one factor after another, and as far as 64 bits hold them.
use Rattle.std.proofs.Common.{◌≡◌, ℕ, zero, suc, ◌+◌, ◌*◌, ◌^◌, ◌<◌, ◌≤◌, Bool, true, false, List, [], ◌∷◌, ◌++◌, length, take, get_or, map, filter, nat_lt, refl, sym, ap, ◌∙◌, arith, Some, None, if◌then◌else◌, AllPairs, Contains, ◌≢◌, slice_index}
use Rattle.std.proofs.lemmas.Bool.{ltb-true, ltb-false}
use Rattle.std.proofs.lemmas.Bool.Decides.{nat_tests}
use Rattle.std.specs.List.{range_with_len}
use Rattle.hv_lists.proofs.Places.{take_one, map_end}
use Rattle.hv_lists.proofs.Pairs.{zip_end}
use Rattle.hv_world.specs.Alike.{class_sizes}
use Rattle.hv_world.specs.Worlds.{World, Method}
use Rattle.hv_match.specs.Counts.{factorial, product, AreSoMany, AreChoices, free, IsCount}
use Rattle.hv_match.proofs.Members.{at_most}
use Rattle.hv_match.specs.inside.Numbers.{in_64_bits}

pub fits : (n : ℕ) → n < 2 ^ 64 → in_64_bits n ≡ Some n
fits n h = let t : nat_lt n (2 ^ 64) ≡ true = grind (arith, nat_tests) in ap (λ b. if b then Some n else None) t

pub past : (n : ℕ) → 2 ^ 64 ≤ n → in_64_bits n ≡ None
past n h = let t : nat_lt n (2 ^ 64) ≡ false = grind (arith, nat_tests) in ap (λ b. if b then Some n else None) t

pub fits_from : (n x : ℕ) → Some x ≡ in_64_bits n → (x ≡ n) × (n < 2 ^ 64)
fits_from n x e = go (nat_lt n (2 ^ 64)) refl e
  where
    go : (b : Bool) → nat_lt n (2 ^ 64) ≡ b → Some x ≡ (if b then Some n else None) → (x ≡ n) × (n < 2 ^ 64)
    go true t e = let f : x ≡ n = cc in (f, ltb-true n (2 ^ 64) t)
    go false t e = cc

pub past_from : (n : ℕ) → None ≡ in_64_bits n → 2 ^ 64 ≤ n
past_from n e = go (nat_lt n (2 ^ 64)) refl e
  where
    go : (b : Bool) → nat_lt n (2 ^ 64) ≡ b → None ≡ (if b then Some n else None) → 2 ^ 64 ≤ n
    go true t e = cc
    go false t e = ltb-false n (2 ^ 64) t

-- one element more
pub product_end : (ns : List ℕ) (n : ℕ) → product (ns ++ n ∷ []) ≡ product ns * n
product_end [] n = omega arith
product_end (m ∷ ns) n = rw (product_end ns n) (grind arith)

pub more_orders : (n k : ℕ) → n * factorial k * (k + 1) ≡ n * factorial (k + 1)
more_orders n k = let e : k + 1 ≡ suc k = omega arith in rw e (grind arith)

-- what a test lets through of some numbers is among them
kept_below : (p : ℕ → Bool) (n a i : ℕ) → i < length (filter p (range_with_len a n)) → get_or (filter p (range_with_len a n)) i 0 < a + n
kept_below p zero a i h = absurd (omega arith)
kept_below p (suc n) a i h = go (p a) i h (λ j k. let r = kept_below p n (a + 1) j k in omega (arith, r))
  where
    go : (b : Bool) (i : ℕ) → i < length (if b then a ∷ filter p (range_with_len (a + 1) n) else filter p (range_with_len (a + 1) n))
        → ((j : ℕ) → j < length (filter p (range_with_len (a + 1) n)) → get_or (filter p (range_with_len (a + 1) n)) j 0 < a + suc n)
        → get_or (if b then a ∷ filter p (range_with_len (a + 1) n) else filter p (range_with_len (a + 1) n)) i 0 < a + suc n
    go true zero h r = omega arith
    go true (suc i) h r = r i (omega arith)
    go false i h r = r i h

pub kept_in : (p : ℕ → Bool) (n i : ℕ) → i < length (filter p (range_with_len 0 n)) → get_or (filter p (range_with_len 0 n)) i 0 < n
kept_in p n i h = omega (arith, kept_below p n 0 i h)

-- one count
no_more : (xs ys : List ℕ) → AllPairs ◌≢◌ xs → ((x : ℕ) → Contains xs x → Contains ys x) → length xs ≤ length ys
no_more xs ys o s = at_most xs ys o s

pub one_number : (w : World) (t n m : ℕ) → AreSoMany w t n → AreSoMany w t m → n ≡ m
one_number w t n m a b =
    let l = no_more a.objects b.objects a.once (λ o c. (b.exact o).1 ((a.exact o).0 c)) in
    let g = no_more b.objects a.objects b.once (λ o c. (a.exact o).1 ((b.exact o).0 c)) in
    omega (arith, l, g, a.many, b.many)

one_choice : (w : World) (m : Method) (is ns ms : List ℕ) → AreChoices w m is ns → AreChoices w m is ms → ns ≡ ms
one_choice w m [] [] [] a b = refl
one_choice w m [] [] (y ∷ ms) a b = absurd b
one_choice w m [] (x ∷ ns) ms a b = absurd a
one_choice w m (i ∷ is) [] ms a b = absurd a
one_choice w m (i ∷ is) (x ∷ ns) [] a b = absurd b
one_choice w m (i ∷ is) (x ∷ ns) (y ∷ ms) a b =
    let e = one_number w (slice_index m.parameters i) x y a.0 b.0 in
    let r = one_choice w m is ns ms a.1 b.1 in
    rw (e, r) refl

pub one_count : (w : World) (m : Method) (j k : ℕ) → IsCount w m j → IsCount w m k → j ≡ k
one_count w m j k a b =
    let e = one_choice w m (free m) a.choices b.choices a.are_choices b.are_choices in
    a.is ∙ ap (λ ns. product (map factorial (class_sizes m.network.subtasks)) * product ns) e ∙ sym b.is

pub orders_more : (sizes : List ℕ) (i : ℕ) → i < length sizes → product (map factorial (take i sizes)) * factorial (get_or sizes i 0) ≡ product (map factorial (take (i + 1) sizes))
orders_more sizes i h =
    sym (product_end (map factorial (take i sizes)) (factorial (get_or sizes i 0)))
    ∙ ap product (sym (map_end factorial (take i sizes) (get_or sizes i 0)))
    ∙ ap (λ l. product (map factorial l)) (sym (take_one sizes i 0 h))

pub one_factor : (n m : ℕ) (ns : List ℕ) → (n * product ns) * m ≡ n * product (ns ++ m ∷ [])
one_factor n m ns = let e = product_end ns m in rw e (grind arith)

pub more_choices : (w : World) (m : Method) (is ns : List ℕ) (i k : ℕ) → i < length is → AreSoMany w (slice_index m.parameters (get_or is i 0)) k → AreChoices w m (take i is) ns → AreChoices w m (take (i + 1) is) (ns ++ k ∷ [])
more_choices w m is ns i k h c a = rw (take_one is i 0 h) (zip_end (λ (j n : ℕ). AreSoMany w (slice_index m.parameters j) n) (take i is) ns (get_or is i 0) k a c)
