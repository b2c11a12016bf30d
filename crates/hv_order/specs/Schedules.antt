-- Schedules: a state index for each precondition step, instead of a sequence.
use Rattle.std.specs.Prelude.{◌≡◌, ℕ, ◌+◌, ◌≤◌, true}
use Rattle.hv_plan.specs.Trees.{Item, Act, Task, Pre, Tree, Reached, IsPrimitive, AtOrBelow, line_tree}
use Rattle.hv_order.specs.Meanings.{Choice, free_meaning}
use Rattle.hv_order.specs.Precedence.{Precedes}

-- the state in which a step begins: action k in state k, a precondition step at its index
abbrev pub begins : (ℕ → ℕ) → Item → ℕ
begins at (Act k) = k
begins at (Task v) = 0
begins at (Pre v) = at v

-- the state in which a step ends: action k in state k + 1, a precondition step where it begins
abbrev pub ends : (ℕ → ℕ) → Item → ℕ
ends at (Act k) = k + 1
ends at (Task v) = 0
ends at (Pre v) = at v

-- The indices are a schedule of the tree's steps between s and f: each precondition is true
-- at its index, no step begins before s or ends after f, and a step ends before those begin
-- that it precedes
pub record IsSchedule (t : Tree) (o : Choice) (at : ℕ → ℕ) (s f : ℕ) : Type 0 where
  pub holds : (v : ℕ) → Reached t (Task v) → (o.line v).true_at (at v) ≡ true
  pub from : (x : Item) → IsPrimitive x → Reached t x → s ≤ begins at x
  pub until : (x : Item) → IsPrimitive x → Reached t x → ends at x ≤ f
  pub order :
      (x y : Item) → IsPrimitive x → IsPrimitive y → Reached t x → Reached t y → Precedes t o x y
      → ends at x ≤ begins at y

-- there is a schedule
pub record HasSchedule (t : Tree) (o : Choice) (s f : ℕ) : Type 0 where
  pub at : ℕ → ℕ
  pub schedule : IsSchedule t o at s f
  pub ordered : s ≤ f

-- a choice with an index for each line's precondition step
pub record Schedule : Type 0 where
  pub choice : Choice
  pub at : ℕ → ℕ

-- From s to f no other step meets the line v: what must come before it ends by s, and what must
-- come behind it begins no earlier than f
pub record IsWindow (t : Tree) (v : ℕ) (a : Schedule) (s f : ℕ) : Type 0 where
  pub before : (x : Item) → IsPrimitive x → Reached t x → Precedes t a.choice x (Task v)
      → ends a.at x ≤ s
  pub behind : (y : Item) → IsPrimitive y → Reached t y → Precedes t a.choice (Task v) y
      → f ≤ begins a.at y

-- the choice for the lines alone: the tree of one line has no root candidate of its own
abbrev pub for_lines : Choice → Choice
for_lines o = record { root = free_meaning; line = o.line }

-- The steps of the line v lie between one start and one finish, which no other step meets
pub record HasWindow (t : Tree) (v : ℕ) (a : Schedule) (low high : ℕ) : Type 0 where
  pub start : ℕ
  pub finish : ℕ
  pub late : low ≤ start
  pub early : finish ≤ high
  pub within : IsSchedule (line_tree t v) (for_lines a.choice) a.at start finish
  pub window : IsWindow t v a start finish

-- c is the schedule a with what b says of the line v and the lines below it
pub record IsExchange (t : Tree) (v : ℕ) (a b c : Schedule) : Type 0 where
  pub root : c.choice.root ≡ a.choice.root
  pub below_line : (u : ℕ) → AtOrBelow t (Task v) (Task u) → c.choice.line u ≡ b.choice.line u
  pub below_at : (u : ℕ) → AtOrBelow t (Task v) (Task u) → c.at u ≡ b.at u
  pub other_line : (u : ℕ) → (AtOrBelow t (Task v) (Task u) → ⊥) → c.choice.line u ≡ a.choice.line u
  pub other_at : (u : ℕ) → (AtOrBelow t (Task v) (Task u) → ⊥) → c.at u ≡ a.at u
