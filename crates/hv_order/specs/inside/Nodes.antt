-- The nodes of a plan, and what one comes to from a start.
use Rattle.std.specs.Prelude.{◌≡◌, ◌≤◌, ◌↔◌, ℕ, List, Option, Some, None, Contains}
use Rattle.hv_order.specs.inside.Arrangements.{Arrangement, arrangement_of}
use Rattle.hv_order.specs.inside.Children.{AreNodesBelow}
use Rattle.hv_order.specs.inside.Facts.{Facts, AreFits, FitsWith, IsNodeRun}
use Rattle.hv_order.specs.inside.Choosing.{Gives}
use Rattle.hv_order.specs.inside.Frames.{IsArranged}
use Rattle.hv_order.specs.declared.trial.Arranged.{Arranged}
use Rattle.hv_order.specs.declared.trial.Run.{Run}
use Rattle.hv_order.specs.declared.winner.Winner.{Winner}
use Rattle.hv_order.specs.declared.settle.Settled.{Settled}

-- the node fits between s and f with one of its candidates
pub record FitsWithOne (q : Facts) (v s f : ℕ) : Type 0 where
  pub candidate : Arrangement
  pub is_candidate : q.is_candidate v candidate
  pub fits : FitsWith q s candidate f

-- These are candidates of the node, and where it fits with any candidate from a start on, it does
-- with one of these
pub record AreAllOf (q : Facts) (v start : ℕ) (all : List Arrangement) : Type 0 where
  pub each : (c : Arrangement) → Contains all c → q.is_candidate v c
  pub with_one : (s f : ℕ) → start ≤ s → FitsWithOne q v s f → Gives all (FitsWith q s) f

-- Nothing finishes before it starts, and what fits from a start fits from an earlier one. A node
-- fits exactly where it does with one of its candidates; these are arranged, and the nodes among
-- their children have lower numbers
pub record AreNodes (q : Facts) : Type 0 where
  pub fits : AreFits q.fits
  pub by_one : (v s f : ℕ) → q.fits v s f ↔ FitsWithOne q v s f
  pub arranged :
      (v : ℕ) (c : Arrangement) → q.is_candidate v c → IsArranged q c × AreNodesBelow v c.children

-- with this candidate of the node it fits from the run's last start up to the run's finish
pub record GivesRun (q : Facts) (v : ℕ) (r : Run) (c : Arrangement) : Type 0 where
  pub is_candidate : q.is_candidate v c
  pub finish : ℕ
  pub finish_is : r.finish ≡ Some finish
  pub fits : FitsWith q r.last c finish

-- the candidate that gives the finish of a run, or there is no finish
abbrev pub IsWinnerOf : Facts → ℕ → Run → Option Arranged → Type 0
IsWinnerOf q v r None = r.finish ≡ None
IsWinnerOf q v r (Some c) = GivesRun q v r (arrangement_of c)

-- a run of the node from a start on, with its winner
pub record IsSettled (q : Facts) (v s : ℕ) (r : Settled) : Type 0 where
  pub run : IsNodeRun q v s r.run
  pub winner : IsWinnerOf q v r.run r.winner

-- what the best of a node's candidates comes to: where there is none, there is none for
-- any later start
abbrev pub settled_by : Option Winner → ℕ → Settled
settled_by None n = record { run = record { last = n; finish = None }; winner = None }
settled_by (Some w) n =
    record {
      run = record { last = w.best.last; finish = Some w.best.finish };
      winner =
          Some w.candidate;
    }
