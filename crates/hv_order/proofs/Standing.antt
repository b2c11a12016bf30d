-- A node stands by the winner of its run from its start on.
use Rattle.std.proofs.Common.{◌≡◌, ℕ, ◌≤◌, List, refl, sym, ◌∙◌, subst, arith, Option, Some, None}
use Rattle.hv_order.specs.Tables.{IsLeastAt, IsLeast}
use Rattle.hv_order.specs.inside.Arrangements.{Arrangement, arrangement_of}
use Rattle.hv_order.specs.inside.Facts.{Facts, FitsWith, IsNodeRun, IsFirstTrue, IsFirstStretch}
use Rattle.hv_order.specs.inside.Walks.{winner_of}
use Rattle.hv_order.specs.inside.Nodes.{AreNodes, IsWinnerOf, GivesRun}
use Rattle.hv_order.specs.inside.Begun.{CanBeOver, AreLaidOut, HasFinish, IsStandFrom, AreSet, IsVisited}
use Rattle.hv_order.specs.declared.trial.Arranged.{Arranged}
use Rattle.hv_order.specs.declared.trial.Run.{Run}
use Rattle.hv_order.specs.declared.trial.Stretch.{Stretch}
use Rattle.hv_order.specs.declared.walk.Stand.{Stand}
use Rattle.hv_order.proofs.BeginChildren.{can_be_over}

-- a start from which a node has a finish is no later than the last state
pub start_within : (q : Facts) → AreNodes q → (v s : ℕ) → HasFinish q v s → s ≤ q.last
start_within q are v s (f, least) = let a = are.fits.climbs v s f least.reached in let b = least.within in omega arith

-- a run's finish is the least
pub least_of : (q : Facts) (v s f : ℕ) (r : Run) → IsNodeRun q v s r → r.finish ≡ Some f → IsLeastAt (q.fits v s) q.last f
least_of q v s f r is e = let P : Option ℕ → Type 0 = λ o. IsLeast (q.fits v s) q.last o in subst P e (is.least s (omega arith) is.begun)

-- where there is a finish, the run has one
pub has_finish : (q : Facts) (v s f : ℕ) (r : Run) → IsLeastAt (q.fits v s) q.last f → IsNodeRun q v s r → r.finish ≡ None → ⊥
has_finish q v s f r least is e = let P : Option ℕ → Type 0 = λ o. IsLeast (q.fits v s) q.last o in subst P e (is.least s (omega arith) is.begun) f least.within least.reached

-- the winner of a run with a finish
pub has_winner : (q : Facts) (v f : ℕ) (r : Run) (w : Option Arranged) → IsWinnerOf q v r w → r.finish ≡ Some f → w ≡ None → ⊥
has_winner q v f r None is e none = let k : None ≡ Some f = sym is ∙ e in cc
has_winner q v f r (Some c) is e none = let k : Some c ≡ None = none in cc

pub winner_gives : (q : Facts) (v : ℕ) (r : Run) (w : Option Arranged) (c : Arranged) → IsWinnerOf q v r w → w ≡ Some c → GivesRun q v r (arrangement_of c)
winner_gives q v r w c is e = let P : Option Arranged → Type 0 = λ o. IsWinnerOf q v r o in subst P e is

module _ (q : Facts) (v s f : ℕ) (r : Run) (is : IsNodeRun q v s r) (finish : r.finish ≡ Some f) (c : Arrangement) (gives : GivesRun q v r c) where
  same_finish : gives.finish ≡ f
  same_finish = let k : Some gives.finish ≡ Some f = sym gives.finish_is ∙ finish in cc

  fits : FitsWith q r.last c f
  fits = let P : ℕ → Type 0 = λ k. FitsWith q r.last c k in subst P same_finish gives.fits

  -- the winner's precondition is true somewhere up to the finish
  pub is_true : IsFirstTrue (q.holds c) s f None → ⊥
  is_true none = let a = fits.late in let b = is.begun in none fits.at (omega arith) fits.early fits.holds

  pub winner_over : (first : Stretch) → IsFirstStretch (q.holds c) s f first → CanBeOver q c first.first f
  winner_over first stretch = let least = least_of q v s f r is finish in can_be_over q c s r.last f first fits is.begun least.within stretch

  -- so the node stands by it
  pub stands_by : (w : Arranged) (first : Stretch) → c ≡ arrangement_of w → IsFirstStretch (q.holds c) s f first
      → IsStandFrom q v s (record { start = s; finish = f; at = first.first; winner = w })
  stands_by w first e stretch =
      let P : Arrangement → Type 0 = λ a. q.is_candidate v a in
      let Q : Arrangement → Type 0 = λ a. q.holds a first.first in
      let R : Arrangement → Type 0 = λ a. CanBeOver q a first.first f in
      record {
        start = refl;
        is = record {
          is_candidate = subst P e gives.is_candidate;
          least = least_of q v s f r is finish;
          late = stretch.behind;
          early = stretch.within;
          holds = subst Q e (stretch.holds first.first (omega arith) stretch.begun);
        };
        over = subst R e (winner_over first stretch);
      }

-- the node is visited, and its children are begun
pub node_visited : (q : Facts) (v s : ℕ) (t : Stand) (starts starts' : List (Option ℕ)) (ss fs : List ℕ) → IsStandFrom q v s t
    → AreLaidOut q (winner_of t) t.at t.finish ss fs → AreSet starts t.winner.children.items ss starts' → IsVisited q v s starts starts' t
node_visited q v s t starts starts' ss fs from laid set = record {
  start = from.start;
  placed = record { is = from.is; begun = record { begins = ss; ends = fs; laid = laid; begun = set.begun } };
  kept = set.kept;
}
