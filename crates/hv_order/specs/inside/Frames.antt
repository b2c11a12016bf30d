-- One node from one start: its candidates one after another.
use Rattle.std.specs.Prelude.{◌≡◌, ℕ, ◌<◌, ◌≤◌, List, [], ◌∷◌, length, Option, Some, None, MatchOption, Contains}
use Rattle.hv_order.specs.Tables.{IsLeast}
use Rattle.hv_order.specs.inside.Layouts.{IsOrderOf, AreDirect}
use Rattle.hv_order.specs.inside.Children.{AreNodesBelow}
use Rattle.hv_order.specs.inside.Arrangements.{Arrangement, listed_before, arrangement_of}
use Rattle.hv_order.specs.inside.Facts.{Facts, FitsWith}
use Rattle.hv_order.specs.inside.Trials.{finish_of, AreWithin, IsTrialOf, IsUnderCap, LaysOut, IfOver, IfWants}
use Rattle.hv_order.specs.inside.Choosing.{cap_under, IsSoFar, Gives}
use Rattle.hv_order.specs.declared.trial.Trial.{Trial}
use Rattle.hv_order.specs.declared.trial.Best.{Best}
use Rattle.hv_order.specs.declared.trial.Progress.{Progress}
use Rattle.hv_order.specs.declared.trial.Arranged.{Arranged}
use Rattle.hv_order.specs.declared.frame.Frame.{Frame}
use Rattle.hv_order.specs.declared.frame.Turn.{Turn}

-- a candidate's subtasks are arranged as its order allows
pub record IsArranged (q : Facts) (c : Arrangement) : Type 0 where
  pub strict : (j : ℕ) → q.before c j j → ⊥
  pub order : IsOrderOf (λ j. j < length c.children) (q.before c) c.order
  pub directs :
      (j : ℕ) → j < length c.children
      → AreDirect (λ j. j < length c.children) (q.before c) j (listed_before c.direct j)
  pub in_order : AreWithin (length c.children) c.order
  pub in_direct : (j : ℕ) → AreWithin (length c.children) (listed_before c.direct j)

-- so is each of a list, and the nodes among its children have numbers below n
abbrev pub AreArranged : Facts → ℕ → List Arrangement → Type 0
AreArranged q n cs = (c : Arrangement) → Contains cs c → IsArranged q c × AreNodesBelow n c.children

-- the first of these candidates, and those behind it; or there is none
abbrev pub IsHead : List Arrangement → List Arrangement → Option Arranged → Type 0
IsHead left left' o = MatchOption o (left ≡ []) (λ c. left ≡ arrangement_of c ∷ left')

-- none of these candidates finishes before this
abbrev pub IsEarliest : Facts → ℕ → List Arrangement → ℕ → Type 0
IsEarliest q s all earliest = (c : Arrangement) (g : ℕ) → Contains all c → FitsWith q s c g
    → earliest ≤ g

-- the least finish of the node from s with this candidate, if it is no later than n
abbrev pub IsLeastWith : Facts → ℕ → Arrangement → ℕ → Option ℕ → Type 0
IsLeastWith q s c n o = IsLeast (FitsWith q s c) n o

-- the least finish of the node from s with one of these candidates
abbrev pub IsLeastOf : Facts → ℕ → List Arrangement → Option ℕ → Type 0
IsLeastOf q s all o = IsLeast (Gives all (FitsWith q s)) q.last o

-- The least finish of the node with one of these candidates for each start from s on up to which
-- the best is kept; where there is no best, none for any start from s on
abbrev pub AreLeastOf : Facts → ℕ → List Arrangement → Option Best → Type 0
AreLeastOf q s all None = (x : ℕ) → s ≤ x → IsLeastOf q x all None
AreLeastOf q s all (Some b) = (x : ℕ) → s ≤ x → x ≤ b.last → IsLeastOf q x all (Some b.finish)

-- with this candidate the node fits up to the finish from the last start that is kept, and so from
-- each before it
pub record IsWonBy (q : Facts) (s : ℕ) (c : Arrangement) (b : Best) : Type 0 where
  pub late : s ≤ b.last
  pub within : b.finish ≤ q.last
  pub fits : FitsWith q b.last c b.finish

-- the winner gave the best finish
abbrev pub Won : Facts → ℕ → Arrangement → Option Best → Type 0
Won q s winner best = (b : Best) → best ≡ Some b → IsWonBy q s winner b

-- all of these candidates but those that are left were tried, and this is the best of
-- what they gave
pub record IsBest (q : Facts) (s : ℕ) (all left : List Arrangement) (best : Option Best)
    : Type 0 where
  pub tried : IsSoFar all left (FitsWith q s) q.last (finish_of best)
  pub won : (b : Best) → best ≡ Some b → (c : Arrangement) × Contains all c × IsWonBy q s c b

-- where all but those that are left were tried, this is the least finish with one of all
abbrev pub Decides : Facts → ℕ → List Arrangement → Option Best → Option Best → Type 0
Decides q s left best o = (all : List Arrangement) → IsBest q s all left best → AreLeastOf q s all o

-- where all but those that were left were tried, so they are now
abbrev pub StaysBest :
    Facts → ℕ → List Arrangement → List Arrangement → Option Best → Option Best → Type 0
StaysBest q s left left' best best' =
    (all : List Arrangement) → IsBest q s all left best → IsBest q s all left' best'

-- a candidate is being laid out, and what its layout comes to is its least finish under the cap;
-- its precondition is true as long as the layout stays alike
pub record IsTrying (q : Facts) (s : ℕ) (c : Arranged) (t : Trial) : Type 0 where
  pub under : IsUnderCap q t
  pub late : s ≤ t.at
  pub holds : (k : ℕ) → t.at ≤ k → k ≤ t.last → q.holds (arrangement_of c) k
  pub zeros : List ℕ
  pub room : length t.finishes.items ≡ length c.children.items
  pub trial :
      IsTrialOf q t.cap c.children.items c.sequencing.value.order.items
      c.sequencing.value.direct zeros t
  pub gives :
      (o : Option ℕ)
      → LaysOut q t.cap c.children.items c.sequencing.value.order.items
      c.sequencing.value.direct t.at zeros o
      → IsLeastWith q s (arrangement_of c) t.cap o

-- what begins a candidate: its precondition is true nowhere under the cap, or it is being laid out
abbrev pub IsBegun : Facts → ℕ → Arranged → ℕ → Option Trial → Type 0
IsBegun q s c cap o =
    MatchOption o (IsLeastWith q s (arrangement_of c) cap None)
    (λ t. IsTrying q s c t × (t.cap ≡ cap))

-- the current candidate is being laid out under the cap that the best so far leaves; of those that
-- were left it is one, and fewer are left
pub record IsTurn
    (q : Facts) (n s : ℕ) (best : Option Best) (turn : Turn) (before after : List Arrangement)
    : Type 0 where
  pub trying : IsTrying q s turn.candidate turn.trial
  pub cap : cap_under q.last (finish_of best) ≡ Some turn.trial.cap
  pub arranged : IsArranged q (arrangement_of turn.candidate)
  pub nodes : AreNodesBelow n turn.candidate.children.items
  pub rest : AreArranged q n after
  pub sub :
      (c : Arrangement) → Contains (arrangement_of turn.candidate ∷ after) c → Contains before c
  pub fewer : length after < length before

-- One node from one start: the current candidate is being laid out under the cap that the best so
-- far leaves, and the winner gave the best so far
pub record IsFrame (q : Facts) (n s : ℕ) (f : Frame) (left : List Arrangement) : Type 0 where
  pub trying : IsTrying q s f.candidate f.trial
  pub cap : cap_under q.last (finish_of f.best) ≡ Some f.trial.cap
  pub arranged : IsArranged q (arrangement_of f.candidate)
  pub nodes : AreNodesBelow n f.candidate.children.items
  pub rest : AreArranged q n left
  pub won : Won q s (arrangement_of f.winner) f.best

-- The next turn, where these candidates were left and now those are: there is none, and the best is
-- the least finish; or the candidate of the turn and those left are all that were not tried
abbrev pub IsNext :
    Facts → ℕ → Option Best → List Arrangement → List Arrangement → Option Turn → Type 0
IsNext q s best left left' None = Decides q s left best best
IsNext q s best left left' (Some t) =
    StaysBest q s left (arrangement_of t.candidate ∷ left') best best

-- where there is a next turn, it is one
abbrev pub IfTurn :
    Facts → ℕ → ℕ → Option Best → List Arrangement → List Arrangement → Option Turn → Type 0
IfTurn q n s best left left' None = Unit {0}
IfTurn q n s best left left' (Some t) = IsTurn q n s best t left left'

-- where all are over, they came to the least finish of the node, for each start up to the last kept
abbrev pub EndsLeast : Facts → Frame → List Arrangement → Progress → Type 0
EndsLeast q f left p = IfOver p (Decides q f.start (arrangement_of f.candidate ∷ left) f.best)

-- and that finish is the winner's
abbrev pub EndsWon : Facts → Frame → Frame → Progress → Type 0
EndsWon q f f' p = IfOver p (Won q f.start (arrangement_of f'.winner))

-- where the current candidate came to a finish, it is the winner, and else the winner stays
abbrev pub TakesWinner : Frame → Frame → Option Best → Type 0
TakesWinner f f' o = MatchOption o (f'.winner ≡ f.winner) (λ b. f'.winner ≡ f.candidate)

-- where a finish is wanted, it is a frame of the same node and start
abbrev pub StaysFrame : Facts → ℕ → Frame → Frame → List Arrangement → Progress → Type 0
StaysFrame q n f f' left' p = IfWants p (IsFrame q n f.start f' left')

-- where a finish is wanted, all candidates but the current one and those left were tried
abbrev pub StaysTried :
    Facts → Frame → Frame → List Arrangement → List Arrangement → Progress → Type 0
StaysTried q f f' left left' p =
    IfWants p
    (StaysBest q f.start (arrangement_of f.candidate ∷ left) (arrangement_of f'.candidate ∷ left')
    f.best f'.best)
