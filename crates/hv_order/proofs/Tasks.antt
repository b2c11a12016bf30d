-- A node that is worked out, from its beginning to its end.
use Rattle.std.proofs.Common.{◌≡◌, ℕ, ◌<◌, ◌≤◌, List, ◌∷◌, refl, sym, subst, Some, None, Result, Ok, Err, IfOk}
use Rattle.hv_lists.proofs.Contained.{in_tail}
use Rattle.hv_order.specs.inside.Arrangements.{Arrangement, arrangement_of}
use Rattle.hv_order.specs.inside.Facts.{Facts, FitsWith}
use Rattle.hv_order.specs.inside.Trials.{IfWants}
use Rattle.hv_order.specs.inside.Frames.{IsEarliest, IsFrame, IsBest, IsNext, IsTurn, EndsLeast, EndsWon, StaysFrame, StaysTried}
use Rattle.hv_order.specs.inside.Winners.{StaysListed, as_winner}
use Rattle.hv_order.specs.inside.Nodes.{AreNodes, AreAllOf, IsSettled, settled_by}
use Rattle.hv_order.specs.inside.Tasks.{IsWorking, IsTaskFrom, Settles}
use Rattle.hv_order.specs.declared.trial.Arranged.{Arranged}
use Rattle.hv_order.specs.declared.trial.Best.{Best}
use Rattle.hv_order.specs.declared.trial.Progress.{Progress}
use Rattle.hv_order.specs.declared.trial.Progress.TheVariants as progress
use Rattle.hv_order.specs.declared.frame.Frame.{Frame}
use Rattle.hv_order.specs.declared.frame.Turn.{Turn}
use Rattle.hv_order.proofs.Settling.{nothing_tried, winner_is, settled_is}

-- what follows from three facts of a result
pub if_ok : {X E : Type 0} (P Q R S : X → Type 0) (r : Result X E) → ((x : X) → P x → Q x → R x → S x) → IfOk r P → IfOk r Q → IfOk r R → IfOk r S
if_ok P Q R S (Ok x) f p q r = f x p q r
if_ok P Q R S (Err e) f p q r = tt

no_best : (b : Best) → None ≡ Some b → ⊥
no_best b e = let k : None ≡ Some b = e in cc

-- no candidate can be begun: no later start has a finish
pub none_begun : (q : Facts) → AreNodes q → (v s : ℕ) (all left : List Arrangement) → AreAllOf q v s all → s ≤ q.last → IsNext q s None all left None → IsSettled q v s (settled_by None q.last)
none_begun q are v s all left whole le next = settled_is q are v s all whole le None (next all (nothing_tried q s all))

-- the first that can be
pub one_begun : {L : Type 0} (of : L → List Arrangement) (q : Facts) (size v s : ℕ) (all : List Arrangement) (left : L) (w : Arranged) (t : Turn) (e : ℕ) → v < size → AreAllOf q v s all → s ≤ q.last → IsEarliest q s all e → IsNext q s None all (of left) (Some t) → IsTurn q v s None t all (of left)
    → IsTaskFrom of q size v s (record { node = v; left = left; frame = record { start = s; earliest = e; best = None; winner = w; candidate = t.candidate; trial = t.trial } })
one_begun of q size v s all left w t e lt whole le early next turn = record {
  node = refl;
  start = refl;
  task = record {
    within = lt;
    start = le;
    frame = record {
      trying = turn.trying;
      cap = turn.cap;
      arranged = turn.arranged;
      nodes = turn.nodes;
      rest = turn.rest;
      won = λ b e. absurd (no_best b e);
    };
    all = all;
    whole = whole;
    earliest = early;
    tried = next all (nothing_tried q s all);
    listed = record { sub = turn.sub; winner = λ b e. absurd (no_best b e) };
  };
}

-- all are over
pub task_over : (q : Facts) → AreNodes q → (size v : ℕ) (f f' : Frame) (left left' : List Arrangement) → IsWorking q size v f left → (p : Progress) → EndsLeast q f left p → EndsWon q f f' p → StaysListed f f' left left' p → Settles q v f.start f'.winner p
task_over q are size v f f' left left' t (progress.Wants w x) over won listed = tt
task_over q are size v f f' left left' t (progress.Over best) over won listed =
    settled_is q are v f.start t.all t.whole t.start (as_winner best f'.winner)
    (winner_is q f.start t.all best f'.winner (over t.all t.tried) won (listed t.all t.listed))

-- a finish is wanted
pub task_stays : (q : Facts) (size v : ℕ) (f f' : Frame) (left left' : List Arrangement) → IsWorking q size v f left → f'.start ≡ f.start → f'.earliest ≡ f.earliest → (p : Progress) → StaysFrame q v f f' left' p → StaysTried q f f' left left' p → StaysListed f f' left left' p → IfWants p (IsWorking q size v f' left')
task_stays q size v f f' left left' t begun early (progress.Over best) frame tried listed = tt
task_stays q size v f f' left left' t begun early (progress.Wants w x) frame tried listed = record {
  within = t.within;
  start = subst (λ k. k ≤ q.last) (sym begun) t.start;
  frame = subst (λ k. IsFrame q v k f' left') (sym begun) frame;
  all = t.all;
  whole = subst (λ k. AreAllOf q v k t.all) (sym begun) t.whole;
  earliest = λ d g m w. subst (λ k. k ≤ g) (sym early) (t.earliest d g m (subst (λ k. FitsWith q k d g) begun w));
  tried = subst (λ k. IsBest q k t.all (arrangement_of f'.candidate ∷ left') f'.best) (sym begun) (tried t.all t.tried);
  listed = listed t.all t.listed;
}

-- none of the candidates that are left finishes before the earliest
pub none_earlier : (q : Facts) (size v : ℕ) (f : Frame) (left : List Arrangement) → IsWorking q size v f left → IsEarliest q f.start left f.earliest
none_earlier q size v f left t d g m w = t.earliest d g (t.listed.sub d (in_tail (arrangement_of f.candidate) left d m)) w
