-- The table of least finishes, as it is computed: children first, and for each start
-- the least finish.
use Rattle.std.specs.Prelude.{◌≡◌, ℕ, zero, suc, ◌+◌, ◌-◌, ◌≤◌, Bool, true, if◌then◌else◌, nat_le, nat_lt, max, min, List, [], ◌∷◌, Option, Some, None, Contains}
use Rattle.hv_lists.specs.Lists.{Once}
use Rattle.hv_plan.specs.Trees.{Item, Act, Task, Pre, Tree}
use Rattle.hv_order.specs.Meanings.{Meaning, IsOrder}

-- f is at most n, and the least number at which P holds
pub record IsLeastAt (P : ℕ → Type 0) (n f : ℕ) : Type 0 where
  pub reached : P f
  pub within : f ≤ n
  pub least : (g : ℕ) → P g → f ≤ g

-- the least number at which P holds, if that is at most n
abbrev pub IsLeast : (ℕ → Type 0) → ℕ → Option ℕ → Type 0
IsLeast P n None = (g : ℕ) → g ≤ n → P g → ⊥
IsLeast P n (Some f) = IsLeastAt P n f

-- the second finish is no earlier than the first, where none is later than all
abbrev pub IsNoEarlier : Option ℕ → Option ℕ → Type 0
IsNoEarlier first None = Unit {0}
IsNoEarlier None (Some g) = ⊥
IsNoEarlier (Some f) (Some g) = f ≤ g

-- what a function makes of a number, if there is one
abbrev pub and_then : Option ℕ → (ℕ → Option ℕ) → Option ℕ
and_then None next = None
and_then (Some f) next = next f

-- the first of `count` indices from s on at which a test is true
abbrev pub first_index : (ℕ → Bool) → ℕ → ℕ → Option ℕ
first_index test zero s = None
first_index test (suc count) s = if test s then Some s else first_index test count (s + 1)

-- the earliest start of x: behind `at`, and behind the finish of each item laid out that must come
-- before x
abbrev pub earliest_start : (Item → Item → Bool) → ℕ → Item → List (Item × ℕ) → ℕ
earliest_start before at x [] = at
earliest_start before at x (p ∷ laid) =
    if before p.0 x then max p.1
    (earliest_start before at x laid) else earliest_start before at x laid

-- where all that is laid out is over
abbrev pub last_finish : ℕ → List (Item × ℕ) → ℕ
last_finish at [] = at
last_finish at (p ∷ laid) = max p.1 (last_finish at laid)

-- The finish of items that are laid out one after another, each as early as it can be, behind `at`
-- and what is laid out already. `row` has the least finish of an item for a start
abbrev pub layout_finish :
    (Item → ℕ → Option ℕ) → (Item → Item → Bool) → ℕ → List (Item × ℕ) → List Item → Option ℕ
layout_finish row before at laid [] = Some (last_finish at laid)
layout_finish row before at laid (x ∷ xs) =
    and_then (row x (earliest_start before at x laid))
    (λ f. layout_finish row before at ((x, f) ∷ laid) xs)

-- the finish of a line with one candidate: the precondition step stands at the first index from s
-- to n where it is true, and the children are laid out behind it
abbrev pub meaning_finish : (Item → ℕ → Option ℕ) → ℕ → ℕ → Meaning → List Item → Option ℕ
meaning_finish row n s c xs =
    and_then (first_index c.true_at (n + 1 - s) s) (λ at. layout_finish row c.before at [] xs)

-- the earlier of two finishes
abbrev pub earlier_finish : Option ℕ → Option ℕ → Option ℕ
earlier_finish None other = other
earlier_finish (Some f) None = Some f
earlier_finish (Some f) (Some g) = Some (min f g)

-- the earliest finish that one of the candidates gives
abbrev pub best_finish : (Meaning → Option ℕ) → List Meaning → Option ℕ
best_finish finish [] = None
best_finish finish (c ∷ cs) = earlier_finish (finish c) (best_finish finish cs)

-- action k of n finishes in state k + 1, for a start up to k
abbrev pub action_finish : ℕ → ℕ → ℕ → Option ℕ
action_finish n k s = if nat_le s k then (if nat_lt k n then Some (k + 1) else None) else None

-- The least finish of an item for a start, from its children's. `sort v c` has the children of line
-- v in an order that the candidate c allows; the tree is looked at `depth` levels deep
abbrev pub least_finish :
    (ℕ → List Item) → (ℕ → List Meaning) → (ℕ → Meaning → List Item)
    → ℕ → ℕ → Item → ℕ → Option ℕ
least_finish children lines sort n zero (Act k) s = action_finish n k s
least_finish children lines sort n zero (Task v) s = None
least_finish children lines sort n zero (Pre v) s = None
least_finish children lines sort n (suc depth) (Act k) s = action_finish n k s
least_finish children lines sort n (suc depth) (Task v) s =
    best_finish (λ c. meaning_finish (least_finish children lines sort n depth) n s c (sort v c))
    (lines v)
least_finish children lines sort n (suc depth) (Pre v) s = None

-- the least finish of the whole tree for a start
abbrev pub root_finish :
    Tree → List Meaning → (Meaning → List Item) → (ℕ → List Meaning)
    → (ℕ → Meaning → List Item) → ℕ → ℕ → ℕ → Option ℕ
root_finish t roots root_sort lines sort n depth s =
    best_finish
    (λ c. layout_finish (least_finish t.children lines sort n depth) c.before s [] (root_sort c))
    roots

-- no member of a list must come before one that stands earlier
abbrev pub Respects : (Item → Item → Bool) → List Item → Type 0
Respects before [] = Unit {0}
Respects before (x ∷ xs) = ((y : Item) → Contains xs y → before y x ≡ true → ⊥) × Respects before xs

-- ys is a topological sort of xs: the same members, each once, in an order that `before` allows
pub record IsSort (xs : List Item) (before : Item → Item → Bool) (ys : List Item) : Type 0 where
  pub has : (x : Item) → Contains xs x → Contains ys x
  pub only : (x : Item) → Contains ys x → Contains xs x
  pub distinct : Once ys
  pub respects : Respects before ys

-- there is a topological sort
pub record HasSort (xs : List Item) (before : Item → Item → Bool) : Type 0 where
  pub sort : List Item
  pub is_sort : IsSort xs before sort

-- each candidate of each line orders the line's children, and `sort` sorts them by it
pub record AreSorts
    (children : ℕ → List Item) (lines : ℕ → List Meaning) (sort : ℕ → Meaning → List Item)
    : Type 0 where
  pub orders : (v : ℕ) (c : Meaning) → Contains (lines v) c → IsOrder (children v) c.before
  pub sorts : (v : ℕ) (c : Meaning) → Contains (lines v) c → IsSort (children v) c.before (sort v c)

-- each candidate of the root orders the initial tasks, and `sort` sorts them by it
pub record AreRootSorts (t : Tree) (roots : List Meaning)
    (sort : Meaning → List Item) : Type 0 where
  pub orders : (c : Meaning) → Contains roots c → IsOrder t.initial_tasks c.before
  pub sorts : (c : Meaning) → Contains roots c → IsSort t.initial_tasks c.before (sort c)
