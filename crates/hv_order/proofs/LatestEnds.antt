-- Where each child of a tree is over, for any indices of its lines: such finishes are worked out.
use Rattle.std.proofs.Common.{◌≡◌, ℕ, zero, suc, ◌+◌, ◌≤◌, ◌<◌, List, [], ◌∷◌, refl, ap, subst, arith, Contains}
use Rattle.std.specs.Prelude.{max}
use Rattle.hv_lists.proofs.Contained.{at_head, in_tail, none_in_empty}
use Rattle.hv_plan.specs.Trees.{Item, Act, Task, Pre, Tree, IsTree}
use Rattle.hv_order.specs.Certificates.{AreFinishes}

-- the latest of an index and what a function gives for the members of a list
abbrev latest : (Item → ℕ) → ℕ → List Item → ℕ
latest f low [] = low
latest f low (x ∷ xs) = max (f x) (latest f low xs)

latest_low : (f : Item → ℕ) (low : ℕ) (xs : List Item) → low ≤ latest f low xs
latest_low f low [] = omega arith
latest_low f low (x ∷ xs) = let h = latest_low f low xs in omega arith

latest_each : (f : Item → ℕ) (low : ℕ) (xs : List Item) (x : Item) → Contains xs x → f x ≤ latest f low xs
latest_each f low [] x m = absurd (none_in_empty x m)
latest_each f low (y ∷ ys) x (zero, lt, e) = let h = ap f e in omega arith
latest_each f low (y ∷ ys) x (suc k, lt, e) = let h = latest_each f low ys x (k, omega (arith, lt), e) in omega arith

latest_least : (f : Item → ℕ) (low : ℕ) (xs : List Item) (g : ℕ) → low ≤ g → ((x : Item) → Contains xs x → f x ≤ g) → latest f low xs ≤ g
latest_least f low [] g a h = a
latest_least f low (x ∷ xs) g a h =
    let b = h x (at_head x xs x refl) in
    let d = latest_least f low xs g a (λ y m. h y (in_tail x xs y m)) in
    omega arith

latest_same : (f g : Item → ℕ) (low : ℕ) (xs : List Item) → ((x : Item) → Contains xs x → f x ≡ g x) → latest f low xs ≡ latest g low xs
latest_same f g low [] h = refl
latest_same f g low (x ∷ xs) h =
    let a = h x (at_head x xs x refl) in
    let b = latest_same f g low xs (λ y m. h y (in_tail x xs y m)) in
    omega arith

module _ (t : Tree) (tree : IsTree t) (at : ℕ → ℕ) where
  -- where an item is over, by the levels of the tree below it
  ends : ℕ → Item → ℕ
  ends zero (Act k) = k + 1
  ends zero (Task v) = 0
  ends zero (Pre v) = 0
  ends (suc depth) (Act k) = k + 1
  ends (suc depth) (Task v) = latest (ends depth) (at v) (t.children v)
  ends (suc depth) (Pre v) = 0

  -- the lines among items have numbers below a depth
  abbrev Below : Item → ℕ → Type 0
  Below x depth = (u : ℕ) → x ≡ Task u → u < depth

  child_below : (v depth : ℕ) → v < suc depth → (x : Item) → Contains (t.children v) x → Below x depth
  child_below v depth lt x m u e = let a = tree.lower v u (let P : Item → Type 0 = λ w. Contains (t.children v) w in subst P e m) in omega arith

  same_ends : (d e : ℕ) (x : Item) → Below x d → Below x e → ends d x ≡ ends e x
  unfolding ends
  same_ends zero zero x a b = refl
  same_ends zero (suc e) (Act k) a b = refl
  same_ends zero (suc e) (Task v) a b = absurd (let h = a v refl in omega arith)
  same_ends zero (suc e) (Pre v) a b = refl
  same_ends (suc d) zero (Act k) a b = refl
  same_ends (suc d) zero (Task v) a b = absurd (let h = b v refl in omega arith)
  same_ends (suc d) zero (Pre v) a b = refl
  same_ends (suc d) (suc e) (Act k) a b = refl
  same_ends (suc d) (suc e) (Task v) a b =
      latest_same (ends d) (ends e) (at v) (t.children v) (λ x m. same_ends d e x (child_below v d (a v refl) x m) (child_below v e (b v refl) x m))
  same_ends (suc d) (suc e) (Pre v) a b = refl

  levels : Item → ℕ
  levels (Act k) = 0
  levels (Task v) = suc v
  levels (Pre v) = 0

  enough : (x : Item) → Below x (levels x)
  unfolding levels
  enough (Act k) u e = absurd (let h : Act k ≡ Task u = e in cc)
  enough (Task v) u e = let h : v ≡ u = cc in omega arith
  enough (Pre k) u e = absurd (let h : Pre k ≡ Task u = e in cc)

  pub over_by : Item → ℕ
  over_by x = ends (levels x) x

  child_ends : (v : ℕ) (x : Item) → Contains (t.children v) x → ends v x ≡ over_by x
  unfolding over_by
  child_ends v x m = same_ends v (levels x) x (child_below v v (omega arith) x m) (enough x)

  line_ends : (v : ℕ) → over_by (Task v) ≡ latest (ends v) (at v) (t.children v)
  unfolding over_by ends levels
  line_ends v = refl

  act_ends : (k : ℕ) → over_by (Act k) ≡ k + 1
  unfolding over_by ends levels
  act_ends k = refl

  pub are_finishes : AreFinishes t at over_by
  are_finishes = record {
    act = act_ends;
    own = λ v. let e = line_ends v in let a = latest_low (ends v) (at v) (t.children v) in omega arith;
    child = λ v x m. let e = line_ends v in let a = latest_each (ends v) (at v) (t.children v) x m in let b = child_ends v x m in omega arith;
    least = λ v g a h.
        let e = line_ends v in
        let b = latest_least (ends v) (at v) (t.children v) g a (λ x m. let d = child_ends v x m in let k = h x m in omega arith) in
        omega arith;
  }
