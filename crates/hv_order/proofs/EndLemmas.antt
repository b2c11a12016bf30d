-- No node is over before the actions below it are.
use Rattle.std.proofs.Common.{◌≡◌, ℕ, zero, suc, ◌+◌, ◌<◌, ◌≤◌, ◌⊎◌, inl, inr, List, [], ◌∷◌, ◌++◌, length, refl, sym, ap, ◌∙◌, subst, arith, Contains}
use Rattle.std.specs.Prelude.{map, max, take, slice_index, get_or}
use Rattle.std.proofs.lemmas.Bool.{cases_lt}
use Rattle.hv_lists.proofs.Places.{take_one, map_end, push_front, push_last}
use Rattle.hv_lists.proofs.Contained.{at_head}
use Rattle.hv_plan.specs.Trees.{Item, Act, Task, Pre}
use Rattle.hv_plan.specs.PlanTrees.{PlanTree, children_at}
use Rattle.hv_order.specs.Meanings.{Meaning}
use Rattle.hv_order.specs.Finishes.{Fits}
use Rattle.hv_order.specs.Settings.{Setting, IsMeaning}
use Rattle.hv_order.specs.inside.Ends.{item_end, IsEndOf, AreEnds}
use Rattle.hv_order.specs.inside.PlanFacts.{FitsNode}
use Rattle.hv_order.proofs.Members.{mem_left, mem_right}

-- where a line is over no earlier than its children, it is over no earlier than the actions below it
pub over_behind : (t : PlanTree) (lines : ℕ → Meaning → Type 0) (ends : List ℕ) → AreEnds t ends → (depth : ℕ) (x : Item) (s f : ℕ) → Fits (children_at t.nodes) lines depth x s f → item_end ends x ≤ f
over_behind t lines ends are zero (Act k) s f (late, early) = omega (arith, early)
over_behind t lines ends are zero (Task v) s f fits = absurd fits
over_behind t lines ends are zero (Pre v) s f fits = absurd fits
over_behind t lines ends are (suc depth) (Act k) s f (late, early) = omega (arith, early)
over_behind t lines ends are (suc depth) (Pre v) s f fits = absurd fits
over_behind t lines ends are (suc depth) (Task v) s f fits =
    let g = fits.fact.together in
    are v f (λ x m. let a = over_behind t lines ends are depth x (g.start x) (g.finish x) (g.fits x m) in let b = g.until x m in omega (arith, a, b))

pub node_behind : (q : Setting) (ends : List ℕ) → AreEnds q.tree ends → (v s f : ℕ) → FitsNode q v s f → slice_index ends v ≤ f
node_behind q ends are v s f fits = over_behind q.tree (IsMeaning q) ends are (suc v) (Task v) s f fits

-- one child more
pub later_end : {X : Type 0} (f : X → Item) (ends : List ℕ) (xs : List X) (i : ℕ) (d : X) (e g : ℕ) → i < length xs → IsEndOf ends (map f (take i xs)) e → g ≤ item_end ends (f (get_or xs i d)) → IsEndOf ends (map f (take (i + 1) xs)) (max e g)
later_end f ends xs i d e g lt is le k bound =
    let here : map f (take (i + 1) xs) ≡ map f (take i xs) ++ f (get_or xs i d) ∷ [] = ap (map f) (take_one xs i d lt) ∙ map_end f (take i xs) (get_or xs i d) in
    let P : List Item → Type 0 = λ ys. (x : Item) → Contains ys x → item_end ends x ≤ k in
    let each : P (map f (take i xs) ++ f (get_or xs i d) ∷ []) = subst P here bound in
    let a = is k (λ x m. each x (mem_left x (map f (take i xs)) (f (get_or xs i d) ∷ []) m)) in
    let b = each (f (get_or xs i d)) (mem_right (f (get_or xs i d)) (map f (take i xs)) (f (get_or xs i d) ∷ []) (at_head (f (get_or xs i d)) [] (f (get_or xs i d)) refl)) in
    omega (arith, a, b, le)

-- the ends so far are no later than those of a longer list
index_more : (xs : List ℕ) (y u : ℕ) → slice_index xs u ≤ slice_index (xs ++ y ∷ []) u
index_more [] y u = let none : slice_index [] u ≡ 0 = refl in omega (arith, none)
index_more (x ∷ xs) y zero = omega arith
index_more (x ∷ xs) y (suc u) = index_more xs y u

end_more : (ends : List ℕ) (y : ℕ) (x : Item) → item_end ends x ≤ item_end (ends ++ y ∷ []) x
end_more ends y (Act k) = omega arith
end_more ends y (Task v) = index_more ends y v
end_more ends y (Pre v) = omega arith

index_past : (xs : List ℕ) (u : ℕ) → length xs ≤ u → slice_index xs u ≡ 0
index_past [] u le = refl
index_past (x ∷ xs) zero le = absurd (omega (arith, le))
index_past (x ∷ xs) (suc u) le = index_past xs u (omega (arith, le))

-- the ends of the first nodes
pub record AreFirstEnds (t : PlanTree) (ends : List ℕ) (n : ℕ) : Type 0 where
  pub as_many : length ends ≡ n
  pub each : (v : ℕ) → v < n → IsEndOf ends (children_at t.nodes v) (slice_index ends v)

pub no_ends : (t : PlanTree) → AreFirstEnds t [] 0
no_ends t = record { as_many = refl; each = λ v lt. absurd (omega (arith, lt)) }

pub one_end_more : (t : PlanTree) (ends : List ℕ) (n e : ℕ) (xs : List Item) → AreFirstEnds t ends n → xs ≡ children_at t.nodes n → IsEndOf ends xs e → AreFirstEnds t (ends ++ e ∷ []) (n + 1)
one_end_more t ends n e xs are children is = record {
  as_many = more ends e ∙ ap (λ k. k + 1) are.as_many;
  each = λ v lt f bound. by v f (λ x m. let a = bound x m in let b = end_more ends e x in omega (arith, a, b)) (cases_lt v n) lt;
}
  where
    more : (xs : List ℕ) (y : ℕ) → length (xs ++ y ∷ []) ≡ length xs + 1
    more [] y = refl
    more (x ∷ xs) y = let rest = more xs y in omega (arith, rest)

    by : (v f : ℕ) → ((x : Item) → Contains (children_at t.nodes v) x → item_end ends x ≤ f) → (v < n) ⊎ (n ≤ v) → v < n + 1 → slice_index (ends ++ e ∷ []) v ≤ f
    by v f bound (inl below) lt = let a = are.each v below f bound in let b = push_front ends e v (omega (arith, below, are.as_many)) in omega (arith, a, b)
    by v f bound (inr above) lt =
        let same : v ≡ n = omega (arith, above, lt) in
        let P : ℕ → Type 0 = λ k. (x : Item) → Contains (children_at t.nodes k) x → item_end ends x ≤ f in
        let Q : List Item → Type 0 = λ ys. (x : Item) → Contains ys x → item_end ends x ≤ f in
        let a : e ≤ f = is f (subst Q (sym children) (subst P same bound)) in
        let at : length ends ≡ v = are.as_many ∙ sym same in
        let b : slice_index (ends ++ e ∷ []) v ≡ e = subst (λ k. slice_index (ends ++ e ∷ []) k ≡ e) at (push_last ends e) in
        omega (arith, a, b)

pub all_ends : (t : PlanTree) (ends : List ℕ) (n : ℕ) → AreFirstEnds t ends n → length t.nodes ≤ n → AreEnds t ends
all_ends t ends n are most v f bound = by (cases_lt v n)
  where
    by : (v < n) ⊎ (n ≤ v) → slice_index ends v ≤ f
    by (inl below) = are.each v below f bound
    by (inr above) = let a = index_past ends v (omega (arith, above, are.as_many)) in omega (arith, a)
