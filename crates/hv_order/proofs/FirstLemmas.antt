-- No node begins behind the actions below it.
use Rattle.std.proofs.Common.{◌≡◌, ℕ, zero, suc, ◌+◌, ◌<◌, ◌≤◌, ◌⊎◌, inl, inr, List, [], ◌∷◌, ◌++◌, length, refl, sym, ap, ◌∙◌, subst, arith, Contains}
use Rattle.std.specs.Prelude.{map, min, take, get_or}
use Rattle.std.proofs.lemmas.Bool.{cases_lt}
use Rattle.hv_lists.proofs.Places.{take_one, map_end, length_pushed}
use Rattle.hv_lists.proofs.Contained.{at_head}
use Rattle.hv_plan.specs.Trees.{Item, Act, Task, Pre}
use Rattle.hv_plan.specs.PlanTrees.{PlanTree, children_at}
use Rattle.hv_order.specs.Meanings.{Meaning}
use Rattle.hv_order.specs.Finishes.{Fits}
use Rattle.hv_order.specs.Settings.{Setting, IsMeaning}
use Rattle.hv_order.specs.inside.Firsts.{never, first_of, item_first, IsFirstOf, AreFirsts}
use Rattle.hv_order.specs.inside.PlanFacts.{FitsNode}
use Rattle.hv_order.proofs.Members.{mem_left, mem_right}

-- where a line begins no later than its children, it begins no later than the actions below it
pub begun_before :
    (t : PlanTree) (lines : ℕ → Meaning → Type 0) (firsts : List ℕ) → AreFirsts t firsts → (s : ℕ) → s ≤ never
    → (depth : ℕ) (x : Item) (s' f : ℕ) → s ≤ s' → Fits (children_at t.nodes) lines depth x s' f → s ≤ item_first firsts x
begun_before t lines firsts are s small zero (Act k) s' f le (late, early) = omega (arith, le, late)
begun_before t lines firsts are s small zero (Task v) s' f le fits = absurd fits
begun_before t lines firsts are s small zero (Pre v) s' f le fits = absurd fits
begun_before t lines firsts are s small (suc depth) (Act k) s' f le (late, early) = omega (arith, le, late)
begun_before t lines firsts are s small (suc depth) (Pre v) s' f le fits = absurd fits
begun_before t lines firsts are s small (suc depth) (Task v) s' f le fits =
    let by = fits.fact in
    let g = by.together in
    are v s small
    (λ x m. let from = g.from x m in begun_before t lines firsts are s small depth x (g.start x) (g.finish x) (omega (arith, le, by.late, from)) (g.fits x m))

pub node_before : (q : Setting) (firsts : List ℕ) → AreFirsts q.tree firsts → (v s s' f : ℕ) → s ≤ never → s ≤ s' → FitsNode q v s' f → s ≤ first_of firsts v
node_before q firsts are v s s' f small le fits = begun_before q.tree (IsMeaning q) firsts are s small (suc v) (Task v) s' f le fits

-- one child more
pub earlier_first :
    {X : Type 0} (f : X → Item) (firsts : List ℕ) (xs : List X) (i : ℕ) (d : X) (b g : ℕ) → i < length xs → IsFirstOf firsts (map f (take i xs)) b
    → g ≡ item_first firsts (f (get_or xs i d)) → IsFirstOf firsts (map f (take (i + 1) xs)) (min b g)
earlier_first f firsts xs i d b g lt is e s small bound =
    let here : map f (take (i + 1) xs) ≡ map f (take i xs) ++ f (get_or xs i d) ∷ [] = ap (map f) (take_one xs i d lt) ∙ map_end f (take i xs) (get_or xs i d) in
    let P : List Item → Type 0 = λ ys. (x : Item) → Contains ys x → s ≤ item_first firsts x in
    let each : P (map f (take i xs) ++ f (get_or xs i d) ∷ []) = subst P here bound in
    let a = is s small (λ x m. each x (mem_left x (map f (take i xs)) (f (get_or xs i d) ∷ []) m)) in
    let c = each (f (get_or xs i d)) (mem_right (f (get_or xs i d)) (map f (take i xs)) (f (get_or xs i d) ∷ []) (at_head (f (get_or xs i d)) [] (f (get_or xs i d)) refl)) in
    omega (arith, a, c, e)

-- what is no later than the firsts of a longer list is no later than those so far
first_more : (xs : List ℕ) (y u s : ℕ) → s ≤ never → s ≤ first_of (xs ++ y ∷ []) u → s ≤ first_of xs u
first_more [] y u s small le = small
first_more (x ∷ xs) y zero s small le = le
first_more (x ∷ xs) y (suc u) s small le = first_more xs y u s small le

item_more : (firsts : List ℕ) (y s : ℕ) (x : Item) → s ≤ never → s ≤ item_first (firsts ++ y ∷ []) x → s ≤ item_first firsts x
item_more firsts y s (Act k) small le = le
item_more firsts y s (Task v) small le = first_more firsts y v s small le
item_more firsts y s (Pre v) small le = le

first_past : (xs : List ℕ) (u : ℕ) → length xs ≤ u → first_of xs u ≡ never
first_past [] u le = refl
first_past (x ∷ xs) zero le = absurd (omega (arith, le))
first_past (x ∷ xs) (suc u) le = first_past xs u (omega (arith, le))

first_front : (xs : List ℕ) (y k : ℕ) → k < length xs → first_of (xs ++ y ∷ []) k ≡ first_of xs k
first_front [] y k lt = absurd (omega (arith, lt))
first_front (x ∷ xs) y zero lt = refl
first_front (x ∷ xs) y (suc k) lt = first_front xs y k (omega (arith, lt))

first_last : (xs : List ℕ) (y : ℕ) → first_of (xs ++ y ∷ []) (length xs) ≡ y
first_last [] y = refl
first_last (x ∷ xs) y = first_last xs y

-- the firsts of the first nodes
pub record AreFirstsUpto (t : PlanTree) (firsts : List ℕ) (n : ℕ) : Type 0 where
  pub as_many : length firsts ≡ n
  pub each : (v : ℕ) → v < n → IsFirstOf firsts (children_at t.nodes v) (first_of firsts v)

pub no_firsts : (t : PlanTree) → AreFirstsUpto t [] 0
no_firsts t = record { as_many = refl; each = λ v lt. absurd (omega (arith, lt)) }

pub one_first_more :
    (t : PlanTree) (firsts : List ℕ) (n b : ℕ) (xs : List Item) → AreFirstsUpto t firsts n → xs ≡ children_at t.nodes n → IsFirstOf firsts xs b
    → AreFirstsUpto t (firsts ++ b ∷ []) (n + 1)
one_first_more t firsts n b xs are children is = record {
  as_many = length_pushed firsts b ∙ ap (λ k. k + 1) are.as_many;
  each = λ v lt s small bound. by v s small (λ x m. item_more firsts b s x small (bound x m)) (cases_lt v n) lt;
}
  where
    by : (v s : ℕ) → s ≤ never → ((x : Item) → Contains (children_at t.nodes v) x → s ≤ item_first firsts x) → (v < n) ⊎ (n ≤ v) → v < n + 1 → s ≤ first_of (firsts ++ b ∷ []) v
    by v s small bound (inl below) lt = let a = are.each v below s small bound in let c = first_front firsts b v (omega (arith, below, are.as_many)) in omega (arith, a, c)
    by v s small bound (inr above) lt =
        let same : v ≡ n = omega (arith, above, lt) in
        let P : ℕ → Type 0 = λ k. (x : Item) → Contains (children_at t.nodes k) x → s ≤ item_first firsts x in
        let Q : List Item → Type 0 = λ ys. (x : Item) → Contains ys x → s ≤ item_first firsts x in
        let a : s ≤ b = is s small (subst Q (sym children) (subst P same bound)) in
        let at : length firsts ≡ v = are.as_many ∙ sym same in
        let c : first_of (firsts ++ b ∷ []) v ≡ b = subst (λ k. first_of (firsts ++ b ∷ []) k ≡ b) at (first_last firsts b) in
        omega (arith, a, c)

pub all_firsts : (t : PlanTree) (firsts : List ℕ) (n : ℕ) → AreFirstsUpto t firsts n → length t.nodes ≤ n → AreFirsts t firsts
all_firsts t firsts n are most v s small bound = by (cases_lt v n)
  where
    by : (v < n) ⊎ (n ≤ v) → s ≤ first_of firsts v
    by (inl below) = are.each v below s small bound
    by (inr above) = let a = first_past firsts v (omega (arith, above, are.as_many)) in omega (arith, a, small)
