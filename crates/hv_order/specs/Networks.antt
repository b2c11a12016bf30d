-- Task networks, decomposition and derivations, as hierarchical networks are published for HDDL:
-- decomposition puts the subtasks of a method in the place of a task, and they inherit the task's
-- place in the order. Here the network of a method holds one step more, the precondition step,
-- which comes before all subtasks. It stays when the method has no subtask.
use Rattle.std.specs.Prelude.{◌≡◌, ℕ, Bool, false, if◌then◌else◌, ◌==◌, List, [], ◌∷◌, ◌++◌, map, Contains}
use Rattle.hv_lists.specs.Lists.{Once}
use Rattle.hv_plan.specs.Trees.{Item, Act, Task, Pre, Tree, Reached, IsPrimitive}
use Rattle.hv_order.specs.Meanings.{Choice}

-- Items, and pairs (x, y) of them where x must come before y. A list stands for the set
-- of its members
pub record Network : Type 0 where
  pub items : List Item
  pub pairs : List (Item × Item)

-- the pairs (c, d) of one item c with each d of a list that it must come before
abbrev pub pairs_from : (Item → Item → Bool) → Item → List Item → List (Item × Item)
pairs_from before c [] = []
pairs_from before c (d ∷ ds) =
    if before c d then (c, d) ∷ pairs_from before c ds else pairs_from before c ds

-- the pairs (c, d), c of one list and d of another, where c must come before d
abbrev pub ordered_pairs : (Item → Item → Bool) → List Item → List Item → List (Item × Item)
ordered_pairs before [] ds = []
ordered_pairs before (c ∷ cs) ds = pairs_from before c ds ++ ordered_pairs before cs ds

-- is it the task of line v
abbrev pub is_line : ℕ → Item → Bool
is_line v (Act k) = false
is_line v (Task u) = u == v
is_line v (Pre u) = false

-- the items with new ones in the place of the task of line v
abbrev pub items_after : ℕ → List Item → List Item → List Item
items_after v new [] = []
items_after v new (x ∷ xs) =
    if is_line v x then new ++ items_after v new xs else x ∷ items_after v new xs

-- The pairs that (x, y) leaves behind. If x is the task of line v, each new item comes before y in
-- its place; if y is, each new item comes behind x in its place; else the pair stays. No network of
-- a derivation orders a task before itself, so x and y are never both that task
abbrev pub inherited : ℕ → List Item → Item → Item → List (Item × Item)
inherited v new x y =
    if is_line v x then map (λ z. (z, y)) new
    else (if is_line v y then map (λ z. (x, z)) new else (x, y) ∷ [])

-- the pairs that all pairs of a network leave behind
abbrev pub inherited_pairs : ℕ → List Item → List (Item × Item) → List (Item × Item)
inherited_pairs v new [] = []
inherited_pairs v new (p ∷ ps) = inherited v new p.0 p.1 ++ inherited_pairs v new ps

-- the initial network: the initial tasks, ordered by the root's candidate
abbrev pub initial_network : Tree → Choice → Network
initial_network t o =
    record {
      items = t.initial_tasks;
      pairs = ordered_pairs o.root.before t.initial_tasks t.initial_tasks;
    }

-- the network after the task of line v was decomposed: in its place stand its precondition
-- step and its children, the precondition step before each child, the children ordered by the
-- line's candidate
abbrev pub decomposition : Tree → Choice → ℕ → Network → Network
decomposition t o v n =
    record {
      items = items_after v (Pre v ∷ t.children v) n.items;
      pairs =
          inherited_pairs v (Pre v ∷ t.children v) n.pairs
          ++ map (λ c. (Pre v, c)) (t.children v)
          ++ ordered_pairs (o.line v).before (t.children v) (t.children v);
    }

-- one network is turned into another by decomposing the tasks of these lines, one after another;
-- each stands in the network when its turn comes
abbrev pub Leads : Tree → Choice → Network → List ℕ → Network → Type 0
Leads t o from [] to = from ≡ to
Leads t o from (v ∷ vs) to = Contains from.items (Task v)
    × Leads t o (decomposition t o v from) vs to

-- A derivation: decompositions in some order, of each line of the tree exactly once, that lead from
-- the initial network to one of actions and precondition steps alone
pub record Derives (t : Tree) (o : Choice) (lines : List ℕ) (end : Network) : Type 0 where
  pub leads : Leads t o (initial_network t o) lines end
  pub once : Once lines
  pub all : (v : ℕ) → Reached t (Task v) → Contains lines v
  pub done : (x : Item) → Contains end.items x → IsPrimitive x

-- there is a derivation
pub record HasDerivation (t : Tree) (o : Choice) : Type 0 where
  pub lines : List ℕ
  pub end : Network
  pub derives : Derives t o lines end
