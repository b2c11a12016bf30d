-- What the best of a node's candidates comes to.
use Rattle.std.proofs.Common.{◌≡◌, ℕ, ◌≤◌, ◌∙◌, List, refl, sym, subst, arith, Option, Some, None}
use Rattle.std.specs.Prelude.{max, MatchOption, Contains}
use Rattle.hv_lists.proofs.Contained.{at_head}
use Rattle.hv_order.specs.inside.Choosing.{newer, Gives}
use Rattle.hv_order.specs.inside.Arrangements.{Arrangement, arrangement_of}
use Rattle.hv_order.specs.inside.Facts.{Facts, FitsWith}
use Rattle.hv_order.specs.inside.Frames.{AreArranged, IsEarliest, AreLeastOf, Won, IsBest}
use Rattle.hv_order.specs.inside.Winners.{IsListed, AreListed, as_winner, IsBestOf}
use Rattle.hv_order.specs.inside.Nodes.{AreNodes, AreAllOf, IsSettled, settled_by}
use Rattle.hv_order.specs.declared.trial.Arranged.{Arranged}
use Rattle.hv_order.specs.declared.trial.Best.{Best}
use Rattle.hv_order.specs.declared.frame.Frame.{Frame}
use Rattle.hv_order.specs.declared.winner.Winner.{Winner}
use Rattle.hv_order.proofs.Choosing.{none_tried}

-- no candidate finishes before the start
pub from_start : (q : Facts) (s : ℕ) (all : List Arrangement) → IsEarliest q s all s
from_start q s all c g m w = let a = w.late in let b = w.early in omega arith

-- at first nothing was tried
pub nothing_tried : (q : Facts) (s : ℕ) (all : List Arrangement) → IsBest q s all all None
nothing_tried q s all = record {
  tried = none_tried all (FitsWith q s) q.last;
  won = λ b e. absurd (let k : None ≡ Some b = e in cc);
}

-- the winner, after a candidate of a list was tried
pub winner_listed : (all : List Arrangement) (f : Frame) (left : List Arrangement) (o best : Option Best) (w : Arranged) → AreListed all f left → best ≡ newer f.best o → MatchOption o (w ≡ f.winner) (λ b. w ≡ f.candidate) → IsListed all (arrangement_of w) best
winner_listed all f left None best w are e same b r = let P : Arranged → Type 0 = λ u. Contains all (arrangement_of u) in subst P (sym same) (are.winner b (sym e ∙ r))
winner_listed all f left (Some d) best w are e same b r = let P : Arranged → Type 0 = λ u. Contains all (arrangement_of u) in subst P (sym same) (are.sub (arrangement_of f.candidate) (at_head (arrangement_of f.candidate) left (arrangement_of f.candidate) refl))

-- the best with its candidate
pub winner_is : (q : Facts) (s : ℕ) (all : List Arrangement) (best : Option Best) (c : Arranged) → AreLeastOf q s all best → Won q s (arrangement_of c) best → IsListed all (arrangement_of c) best → IsBestOf q s all (as_winner best c)
winner_is q s all None c least won listed = least
winner_is q s all (Some b) c least won listed = record { least = least; won = won b refl; listed = listed b refl }

-- where one of all candidates gives a finish, the node fits up to it
pub fits_by : (q : Facts) → AreNodes q → (v start s f : ℕ) (all : List Arrangement) → AreAllOf q v start all → Gives all (FitsWith q s) f → q.fits v s f
fits_by q are v start s f all whole w =
    let (with_one, by_one) = are.by_one v s f in
    by_one (record { candidate = w.candidate; is_candidate = whole.each w.candidate w.listed; fits = w.gives })

-- and where the node fits from the start on, one of all candidates gives the finish
pub gives_by : (q : Facts) → AreNodes q → (v start s f : ℕ) (all : List Arrangement) → AreAllOf q v start all → start ≤ s → q.fits v s f → Gives all (FitsWith q s) f
gives_by q are v start s f all whole late is =
    let (with_one, by_one) = are.by_one v s f in
    whole.with_one s f late (with_one is)

-- no candidate of a node finishes before the start, nor before the node can be over
pub from_both : (q : Facts) → AreNodes q → (v s e low : ℕ) (all : List Arrangement) → AreAllOf q v s all → ((s f : ℕ) → q.fits v s f → e ≤ f) → low ≡ max s e → IsEarliest q s all low
from_both q are v s e low all whole behind is c g m w =
    let a = from_start q s all c g m w in
    let b = behind s g (fits_by q are v s s g all whole (record { candidate = c; listed = m; gives = w })) in
    omega (arith, a, b, is)

-- all candidates of a node are arranged
pub all_arranged : (q : Facts) → AreNodes q → (v s : ℕ) (all : List Arrangement) → AreAllOf q v s all → AreArranged q v all
all_arranged q are v s all whole c m = are.arranged v c (whole.each c m)

-- the run that the best of all candidates gives
pub settled_is : (q : Facts) → AreNodes q → (v s : ℕ) (all : List Arrangement) → AreAllOf q v s all → s ≤ q.last → (w : Option Winner) → IsBestOf q s all w → IsSettled q v s (settled_by w q.last)
settled_is q are v s all whole le None none = record {
  run = record { begun = le; within = omega arith; least = λ x a b g c is. none x a g c (gives_by q are v s x g all whole a is) };
  winner = refl;
}
settled_is q are v s all whole le (Some w) best =
    let won = best.won in
    let fits = won.fits in
    let within = won.within in
    let late = fits.late in
    let early = fits.early in
    record {
      run = record {
        begun = won.late;
        within = omega arith;
        least = λ x a b.
            let is = best.least x a b in
            record { reached = fits_by q are v s x w.best.finish all whole is.reached; within = is.within; least = λ g h. is.least g (gives_by q are v s x g all whole a h) };
      };
      winner = record { is_candidate = whole.each (arrangement_of w.candidate) best.listed; finish = w.best.finish; finish_is = refl; fits = won.fits };
    }
