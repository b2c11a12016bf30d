-- What is known of the least finishes of a plan's nodes, while they are worked out on demand.
use Rattle.std.specs.Prelude.{◌≡◌, ℕ, zero, suc, ◌+◌, ◌<◌, ◌≤◌, ◌⊎◌, if◌then◌else◌, nat_eq, nat_le, Bool, true, List, length, Option, Some, None, MatchOption, slice_get, is_some}
use Rattle.std.specs.List.{slice_set}
use Rattle.std.specs.declared.cmp.Ordering.{Ordering}
use Rattle.std.specs.Ordering.{nat_cmp, ordering_then}
use Rattle.std.specs.BTreeMap.{get}
use Rattle.hv_order.specs.inside.Facts.{Facts, IsNodeRun}
use Rattle.hv_order.specs.inside.Marks.{IsMarked}
use Rattle.hv_order.specs.inside.Nodes.{IsSettled}
use Rattle.hv_order.specs.inside.Walks.{said_of}
use Rattle.hv_order.specs.declared.trial.Run.{Run}
use Rattle.hv_order.specs.declared.trial.Finish.{Finish}
use Rattle.hv_order.specs.declared.trial.Finish.TheVariants as finishes
use Rattle.hv_order.specs.declared.memo.Memo.{Memo}
use Rattle.hv_order.specs.declared.memo.Pair.{Pair}
use Rattle.hv_order.specs.declared.memo.Span.{Span}
use Rattle.hv_order.specs.declared.memo.Won.{Won}
use Rattle.hv_order.specs.declared.settle.Settled.{Settled}

-- by node, and then by start
abbrev pub pair_cmp : Pair → Pair → Ordering
pair_cmp a b = ordering_then (nat_cmp a.node b.node) (nat_cmp a.start b.start)

-- the finish that a number stands for: the greatest number of 32 bits stands for none
abbrev pub finish_from : ℕ → Option ℕ
finish_from f = if nat_eq f 4294967295 then None else Some f

-- a finish that is no such number
abbrev pub IsSmall : Option ℕ → Type 0
IsSmall o = (f : ℕ) → o ≡ Some f → f < 4294967295

-- what an interval of starts says of a start
abbrev pub in_span : Span → ℕ → Option Run
in_span p s =
    if nat_le p.first s
    then (if nat_le s p.last then Some
    (record { last = p.last; finish = finish_from p.finish }) else None)
    else None

-- the one that is there, or else the other
abbrev pub or_else : Option Run → Option Run → Option Run
or_else None o = o
or_else (Some r) o = Some r

-- what the interval of a node says of a start
abbrev pub spanned : Option Span → ℕ → Option Run
spanned None s = None
spanned (Some p) s = in_span p s

-- what the memory says of a node and a start
abbrev pub found : Memo → ℕ → ℕ → Option Run
found m v s =
    or_else (spanned (slice_get m.spans.items v) s)
    (get pair_cmp m.more (record { node = v; start = s }))

-- as the answer of a table
abbrev pub as_finish : Option Run → Finish
as_finish None = finishes.Unknown
as_finish (Some r) = finishes.Known r

-- what the memory keeps is right, and it has room for so many nodes
pub record AreKnown (q : Facts) (size : ℕ) (m : Memo) : Type 0 where
  pub room : size ≤ length m.spans.items
  pub right : (v s : ℕ) (r : Run) → found m v s ≡ Some r → IsNodeRun q v s r
  pub won : (v : ℕ) (w : Won) → said_of m.won.items v ≡ Some w → IsSettled q v w.start w.settled

-- what it keeps is right, and it may be asked for the nodes before one
pub record IsBelow (q : Facts) (size : ℕ) (m : Memo) (v : ℕ) : Type 0 where
  pub known : AreKnown q size m
  pub node : v < size

-- nothing is said of any of so many nodes
pub record IsEmptyList (size : ℕ) (won : List (Option Won)) : Type 0 where
  pub as_many : length won ≡ size
  pub none : (v : ℕ) → said_of won v ≡ None

-- it has room for so many nodes, and knows nothing of any
pub record KnowsNothing (size : ℕ) (m : Memo) : Type 0 where
  pub room : length m.spans.items ≡ size
  pub nothing : (v s : ℕ) → found m v s ≡ None
  pub won : (v : ℕ) → said_of m.won.items v ≡ None

-- the intervals of nodes that are to be kept are as they were, and the others have no start
abbrev pub KeepsSpans : List Span → List Bool → List Span → Type 0
KeepsSpans old kept new =
    (v s : ℕ) (r : Run) → spanned (slice_get new v) s ≡ Some r
    → IsMarked kept v × (spanned (slice_get old v) s ≡ Some r)

-- what is known of nodes that are to be kept was known, and of the others nothing is
pub record KeepsOnly (m : Memo) (kept : List Bool) (m' : Memo) : Type 0 where
  pub room : length m'.spans.items ≡ length m.spans.items
  pub only :
      (v s : ℕ) (r : Run) → found m' v s ≡ Some r
      → IsMarked kept v × (found m v s ≡ Some r)
  pub won : (v : ℕ) → said_of m'.won.items v ≡ None

-- a finish of the node is known
pub record KnowsFinish (m : Memo) (v : ℕ) : Type 0 where
  pub start : ℕ
  pub run : Run
  pub finish : ℕ
  pub known : found m v start ≡ Some run
  pub is : run.finish ≡ Some finish

-- such nodes alone are marked
abbrev pub TellsFinishes : Memo → List Bool → Type 0
TellsFinishes m told = (v : ℕ) → IsMarked told v → KnowsFinish m v

-- the same is known of all starts
pub record SameRuns (m m' : Memo) : Type 0 where
  pub spans : m'.spans ≡ m.spans
  pub more : m'.more ≡ m.more

-- a run of a node from a start on is kept with its winner, where there is a place for it
abbrev pub IsRemembered : Memo → Memo → ℕ → ℕ → Settled → Type 0
IsRemembered m m' v s r =
    m'.won.items ≡ slice_set m.won.items v (Some (record { start = s; settled = r }))

-- there are no other winners than before
pub record OnlyTaken (m m' : Memo) : Type 0 where
  pub won : (v : ℕ) (w : Won) → said_of m'.won.items v ≡ Some w → said_of m.won.items v ≡ Some w

-- the run was kept, and the start lies in it
pub record IsTakenRun (m : Memo) (v s : ℕ) (r : Settled) : Type 0 where
  pub start : ℕ
  pub kept : said_of m.won.items v ≡ Some (record { start = start; settled = r })
  pub late : start ≤ s
  pub early : s ≤ r.run.last

abbrev pub IsTaken : Memo → ℕ → ℕ → Option Settled → Type 0
IsTaken m v s o = MatchOption o (Unit {0}) (IsTakenRun m v s)

-- a start lies in a run of a node from a start on
pub record LiesIn (v s : ℕ) (r : Run) (w x : ℕ) : Type 0 where
  pub node : w ≡ v
  pub late : s ≤ x
  pub early : x ≤ r.last

-- Nothing is forgotten, and what is new is that a run of a node from a start on is the one that its
-- starts lie in
pub record Keeps (m m' : Memo) (v s : ℕ) (r : Run) : Type 0 where
  pub room : length m'.spans.items ≡ length m.spans.items
  pub kept : (w x : ℕ) → is_some (found m w x) ≡ true → is_some (found m' w x) ≡ true
  pub only :
      (w x : ℕ) (u : Run) → found m' w x ≡ Some u
      → (found m w x ≡ Some u) ⊎ (LiesIn v s r w x × (u ≡ r))

-- a node with a lower number than another, and a start of which nothing is known
pub record IsWanted (q : Facts) (m : Memo) (v w x : ℕ) : Type 0 where
  pub below : w < v
  pub within : x ≤ q.last
  pub unknown : found m w x ≡ None

-- the sum of a function of the numbers below n
abbrev pub total : (ℕ → ℕ) → ℕ → ℕ
total f zero = 0
total f (suc n) = total f n + f n

-- what is not known yet, each pair of a node and a start counted as often as there are nodes: this
-- falls by more than a node's number can grow when a pair is learned
abbrev pub to_learn : ℕ → ℕ → Memo → ℕ
to_learn last size m =
    total (λ v. total (λ s. if is_some (found m v s) then 0 else size) (suc last)) size
