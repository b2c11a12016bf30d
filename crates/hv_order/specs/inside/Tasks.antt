-- Nodes that are worked out, one waiting for another.
use Rattle.std.specs.Prelude.{◌≡◌, ℕ, ◌<◌, ◌≤◌, List, ◌∷◌, Option, Some, None}
use Rattle.hv_order.specs.inside.Arrangements.{Arrangement, arrangement_of}
use Rattle.hv_order.specs.inside.Facts.{Facts}
use Rattle.hv_order.specs.inside.Memos.{IsSmall, IsWanted}
use Rattle.hv_order.specs.inside.Trials.{IfOver}
use Rattle.hv_order.specs.inside.Frames.{IsEarliest, IsFrame, IsBest}
use Rattle.hv_order.specs.inside.Winners.{AreListed, as_winner}
use Rattle.hv_order.specs.inside.Nodes.{AreAllOf, IsSettled, settled_by}
use Rattle.hv_order.specs.declared.frame.Frame.{Frame}
use Rattle.hv_order.specs.declared.memo.Memo.{Memo}
use Rattle.hv_order.specs.declared.memo.Pair.{Pair}
use Rattle.hv_order.specs.declared.settle.Settled.{Settled}
use Rattle.hv_order.specs.declared.solve.Task.{Task}
use Rattle.hv_order.specs.declared.solve.Pending.{Pending}
use Rattle.hv_order.specs.declared.solve.Pending.TheVariants as pending
use Rattle.hv_order.specs.declared.solve.Outcome.{Outcome}
use Rattle.hv_order.specs.declared.solve.Outcome.TheVariants as outcome
use Rattle.hv_order.specs.declared.trial.Arranged.{Arranged}
use Rattle.hv_order.specs.declared.trial.Progress.{Progress}

-- A node is worked out from a frame's start on: the frame's candidate and those that are left are
-- all of the node's that were not tried
pub record IsWorking (q : Facts) (size v : ℕ) (f : Frame) (left : List Arrangement) : Type 0 where
  pub within : v < size
  pub start : f.start ≤ q.last
  pub frame : IsFrame q v f.start f left
  pub all : List Arrangement
  pub whole : AreAllOf q v f.start all
  pub earliest : IsEarliest q f.start all f.earliest
  pub tried : IsBest q f.start all (arrangement_of f.candidate ∷ left) f.best
  pub listed : AreListed all f left

-- so a task's node is
abbrev pub IsTask : {L : Type 0} → (L → List Arrangement) → Facts → ℕ → Task L → Type 0
IsTask left q size t = IsWorking q size t.node t.frame (left t.left)

-- it is the task of a node from a start on
pub record IsTaskFrom
    {L : Type 0} (left : L → List Arrangement) (q : Facts) (size v s : ℕ) (t : Task L)
    : Type 0 where
  pub node : t.node ≡ v
  pub start : t.frame.start ≡ s
  pub task : IsTask left q size t

-- where a node has no task from a start on, neither that start nor a later one has a finish
abbrev pub IsOpened :
    {L : Type 0} → (L → List Arrangement) → Facts → ℕ → ℕ → ℕ → Option (Task L) → Type 0
IsOpened left q size v s None = IsSettled q v s (settled_by None q.last)
IsOpened left q size v s (Some t) = IsTaskFrom left q size v s t

-- where all candidates are over, the best with its winner gives the run of the node
abbrev pub Settles : Facts → ℕ → ℕ → Arranged → Progress → Type 0
Settles q v s winner p =
    IfOver p (λ best. IsSettled q v s (settled_by (as_winner best winner) q.last))

-- the node and the start of a task
abbrev pub task_pair : {L : Type 0} → Task L → Pair
task_pair t = record { node = t.node; start = t.frame.start }

-- and of a node that waits
abbrev pub pair_of : {L : Type 0} → Pending L → Pair
pair_of (pending.Asked p) = p
pair_of (pending.Ready p) = p
pair_of (pending.Begun t) = task_pair t.value

-- a node of the plan, from one of its states on
pub record IsPair (q : Facts) (size : ℕ) (p : Pair) : Type 0 where
  pub node : p.node < size
  pub start : p.start ≤ q.last

-- a node that waits is worked out, or is to be
abbrev pub IsPending : {L : Type 0} → (L → List Arrangement) → Facts → ℕ → Pending L → Type 0
IsPending left q size (pending.Asked p) = IsPair q size p
IsPending left q size (pending.Ready p) = IsPair q size p
IsPending left q size (pending.Begun t) = IsTask left q size t.value

-- so one does that has this node and this start
pub record Waits
    {L : Type 0} (left : L → List Arrangement) (q : Facts) (size : ℕ) (p : Pair) (w : Pending L)
    : Type 0 where
  pub same : pair_of w ≡ p
  pub pending : IsPending left q size w

-- a node goes on when this child's finish is known
pub record IsWaitingFor
    {L : Type 0} (left : L → List Arrangement) (q : Facts) (size : ℕ) (m : Memo) (p : Pair)
    (w : Pending L) (child : Pair) : Type 0 where
  pub waits : Waits left q size p w
  pub wanted : IsWanted q m p.node child.node child.start

-- a run of this node from this start on, with its winner
pub record IsOverWith (q : Facts) (p : Pair) (r : Settled) : Type 0 where
  pub settled : IsSettled q p.node p.start r
  pub small : IsSmall r.run.finish

-- what a node came to that is worked out from a start on
abbrev pub IsOutcome :
    {L : Type 0} → (L → List Arrangement) → Facts → ℕ → Memo → Pair → Outcome L → Type 0
IsOutcome left q size m p (outcome.Wants w child) = IsWaitingFor left q size m p w child
IsOutcome left q size m p (outcome.Over r) = IsOverWith q p r
