-- That the winner of a node is one of its candidates.
use Rattle.std.specs.Prelude.{◌≡◌, ℕ, List, ◌∷◌, Option, Some, None, Contains}
use Rattle.hv_order.specs.inside.Arrangements.{Arrangement, arrangement_of}
use Rattle.hv_order.specs.inside.Facts.{Facts}
use Rattle.hv_order.specs.inside.Frames.{AreLeastOf, IsWonBy}
use Rattle.hv_order.specs.declared.trial.Arranged.{Arranged}
use Rattle.hv_order.specs.declared.trial.Best.{Best}
use Rattle.hv_order.specs.declared.trial.Progress.{Progress}
use Rattle.hv_order.specs.declared.trial.Progress.TheVariants as progress
use Rattle.hv_order.specs.declared.frame.Frame.{Frame}
use Rattle.hv_order.specs.declared.winner.Winner.{Winner}

-- the winner, where there is a best, is of a list
abbrev pub IsListed : List Arrangement → Arrangement → Option Best → Type 0
IsListed all winner best = (b : Best) → best ≡ Some b → Contains all winner

-- a frame's candidates, those that are left with them, are of a list
pub record AreListed (all : List Arrangement) (f : Frame) (left : List Arrangement) : Type 0 where
  pub sub : (c : Arrangement) → Contains (arrangement_of f.candidate ∷ left) c → Contains all c
  pub winner : IsListed all (arrangement_of f.winner) f.best

-- where the candidates were of a list, so they are, and where all are over, so is the winner
abbrev pub StaysListed : Frame → Frame → List Arrangement → List Arrangement → Progress → Type 0
StaysListed f f' left left' (progress.Wants v s) =
    (all : List Arrangement) → AreListed all f left → AreListed all f' left'
StaysListed f f' left left' (progress.Over best) =
    (all : List Arrangement) → AreListed all f left → IsListed all (arrangement_of f'.winner) best

-- a best with its candidate
abbrev pub as_winner : Option Best → Arranged → Option Winner
as_winner None c = None
as_winner (Some b) c = Some (record { best = b; candidate = c })

-- the best of these candidates from a start on, which one of them gave
pub record IsWinner (q : Facts) (s : ℕ) (all : List Arrangement) (w : Winner) : Type 0 where
  pub least : AreLeastOf q s all (Some w.best)
  pub won : IsWonBy q s (arrangement_of w.candidate) w.best
  pub listed : Contains all (arrangement_of w.candidate)

-- where none is the winner, the node has no finish from any start on from s
abbrev pub IsBestOf : Facts → ℕ → List Arrangement → Option Winner → Type 0
IsBestOf q s all None = AreLeastOf q s all None
IsBestOf q s all (Some w) = IsWinner q s all w
