-- Which steps must come before which, said of the tree alone, with no derivation.
use Rattle.std.specs.Prelude.{◌≡◌, ℕ, true, ◌↔◌, Contains}
use Rattle.hv_plan.specs.Trees.{Item, Task, Pre, Tree, AtOrBelow, Reached, IsPrimitive}
use Rattle.hv_order.specs.Meanings.{Choice}
use Rattle.hv_order.specs.Networks.{Network}

-- x must come before y: x is the precondition step of a line, and y is or stands below one of its
-- children; or a line, or the root, orders a child c before a child d, and x is or stands below c
-- and y is or stands below d
pub data Precedes (t : Tree) (o : Choice) : Item → Item → Type 0 where
  of_pre :
      {v : ℕ} {c x : Item} → Reached t (Task v) → Contains (t.children v) c → AtOrBelow t c x
      → Precedes t o (Pre v) x
  of_line :
      {v : ℕ} {c d x y : Item} → Reached t (Task v) → Contains (t.children v) c
      → Contains (t.children v) d
      → (o.line v).before c d ≡ true → AtOrBelow t c x → AtOrBelow t d y → Precedes t o x y
  of_root :
      {c d x y : Item} → Contains t.initial_tasks c → Contains t.initial_tasks d
      → o.root.before c d ≡ true
      → AtOrBelow t c x → AtOrBelow t d y → Precedes t o x y

-- What End says of the network at the end of a derivation: its items are the steps of the tree, and
-- its pairs are the pairs of steps of which the tree says that one precedes the other
pub record IsEnd (t : Tree) (o : Choice) (n : Network) : Type 0 where
  pub primitive : (x : Item) → Contains n.items x → IsPrimitive x
  pub reached : (x : Item) → Contains n.items x → Reached t x
  pub complete : (x : Item) → IsPrimitive x → Reached t x → Contains n.items x
  pub first_in : (x y : Item) → Contains n.pairs (x, y) → Contains n.items x
  pub second_in : (x y : Item) → Contains n.pairs (x, y) → Contains n.items y
  pub precede : (x y : Item) → Contains n.pairs (x, y) → Precedes t o x y
  pub paired : (x y : Item) → Contains n.items x → Contains n.items y → Precedes t o x y
      → Contains n.pairs (x, y)

-- two networks have the same items and the same pairs
pub record SameNetwork (m n : Network) : Type 0 where
  pub items : (x : Item) → Contains m.items x ↔ Contains n.items x
  pub pairs : (x y : Item) → Contains m.pairs (x, y) ↔ Contains n.pairs (x, y)

-- What Split says of a line v and an item x that does not stand at or below it: where x must come
-- before one item there it must come before all of them, and likewise behind
pub record IsSplit (t : Tree) (o : Choice) (v : ℕ) (x : Item) : Type 0 where
  pub before_all :
      (y z : Item) → AtOrBelow t (Task v) y → AtOrBelow t (Task v) z → Precedes t o x y
      → Precedes t o x z
  pub behind_all :
      (y z : Item) → AtOrBelow t (Task v) y → AtOrBelow t (Task v) z → Precedes t o y x
      → Precedes t o z x
