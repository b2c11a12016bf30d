use Rattle.std.proofs.Common.{suc, ◌≡◌, length, Some, None, [], ◌∷◌, refl, sym, arith}
use Rattle.hv_lists.proofs.Contained.{at_head, in_tail}
use Rattle.hv_order.specs.inside.Arrangements.{arrangement_of}
use Rattle.hv_order.specs.Tables.{IsLeast}
use Rattle.hv_order.specs.inside.Facts.{FitsWith}
use Rattle.hv_order.specs.inside.Trials.{finish_of}
use Rattle.hv_order.proofs.Choosing.{none_of_use, all_tried}
use Rattle.hv_order.proofs.Lasting.{kept, one_more}
use Rattle.hv_order.proofs.frame.next_turn.Goals as goal

pub returns-then-found-earliest-clause-next : goal.returns-then-found-earliest-clause-next
returns-then-found-earliest-clause-next g c =
    let q = g.T.Table.facts c.args.table.now in
    let e = c.requires.last in
    λ all tried. rw c.in-Some.is (kept q c.args.start all (g.C.Candidates.left c.args.left.now) (Some c.in-Some.found) (rw c.in-Some.is at tried) (none_of_use all (FitsWith q c.args.start) q.last (g.C.Candidates.left c.args.left.now) c.in-Some.found.finish c.args.earliest (rw c.in-Some.is at tried.tried) c.requires.earliest c.if-found-earliest.true))

pub begin-requires-clause-arranged : goal.begin-requires-clause-arranged
begin-requires-clause-arranged g c =
    let left : g.C.Candidates.left c.loop-candidate.left ≡ arrangement_of c.in-Some-2.candidate ∷ g.C.Candidates.left c.next.new.self = rw c.in-Some-2.is at c.in_ok-candidate.ensures in
    (c.loop-candidate.invariant.arranged (arrangement_of c.in-Some-2.candidate) (rw left (at_head (arrangement_of c.in-Some-2.candidate) (g.C.Candidates.left c.next.new.self) (arrangement_of c.in-Some-2.candidate) refl))).0

pub returns-in-Some-3-clause-turn : goal.returns-in-Some-3-clause-turn
returns-in-Some-3-clause-turn g c =
    let left : g.C.Candidates.left c.loop-candidate.left ≡ arrangement_of c.in-Some-2.candidate ∷ g.C.Candidates.left c.next.new.self = rw c.in-Some-2.is at c.in_ok-candidate.ensures in
    let inv = c.loop-candidate.invariant in
    let made = rw c.in-Some-3.is at c.in_ok-trial.ensures in
    let fewer = inv.fewer in
    let long : length (g.C.Candidates.left c.loop-candidate.left) ≡ suc (length (g.C.Candidates.left c.next.new.self)) = rw left refl in
    record {
      trying = made.0;
      cap = rw (made.1, sym c.requires.last) inv.cap;
      arranged = (inv.arranged (arrangement_of c.in-Some-2.candidate) (rw left (at_head (arrangement_of c.in-Some-2.candidate) (g.C.Candidates.left c.next.new.self) (arrangement_of c.in-Some-2.candidate) refl))).0;
      nodes = (inv.arranged (arrangement_of c.in-Some-2.candidate) (rw left (at_head (arrangement_of c.in-Some-2.candidate) (g.C.Candidates.left c.next.new.self) (arrangement_of c.in-Some-2.candidate) refl))).1;
      rest = λ d m. inv.arranged d (rw left (in_tail (arrangement_of c.in-Some-2.candidate) (g.C.Candidates.left c.next.new.self) d m));
      sub = λ d m. inv.sub d (rw left m);
      fewer = omega arith;
    }

pub loop-candidate-preserved : goal.loop-candidate-preserved
loop-candidate-preserved g c =
    let q = g.T.Table.facts c.args.table.now in
    let left : g.C.Candidates.left c.loop-candidate.left ≡ arrangement_of c.in-Some-2.candidate ∷ g.C.Candidates.left c.next.new.self = rw c.in-Some-2.is at c.in_ok-candidate.ensures in
    let inv = c.loop-candidate.invariant in
    let none : IsLeast (FitsWith q c.args.start (arrangement_of c.in-Some-2.candidate)) c.match-best.cap None = rw c.in_default-2.is at c.in_ok-trial.ensures in
    let fewer = inv.fewer in
    let long : length (g.C.Candidates.left c.loop-candidate.left) ≡ suc (length (g.C.Candidates.left c.next.new.self)) = rw left refl in
    record {
      cap = inv.cap;
      within = inv.within;
      arranged = λ d m. inv.arranged d (rw left (in_tail (arrangement_of c.in-Some-2.candidate) (g.C.Candidates.left c.next.new.self) d m));
      sub = λ d m. inv.sub d (rw left (in_tail (arrangement_of c.in-Some-2.candidate) (g.C.Candidates.left c.next.new.self) d m));
      fewer = omega arith;
      tried = λ all best. one_more q c.args.start all (arrangement_of c.in-Some-2.candidate) (g.C.Candidates.left c.next.new.self) c.args.best None c.match-best.cap (rw (sym c.requires.last) inv.cap) none (λ b e. absurd (let k : None ≡ Some b = e in cc)) (rw left at (inv.tried all best));
    }

pub returns-clause-next : goal.returns-clause-next
returns-clause-next g c =
    let q = g.T.Table.facts c.args.table.now in
    let left : g.C.Candidates.left c.loop-candidate.left ≡ [] = rw c.in_default.is at c.in_ok-candidate.ensures in
    λ all best. let is = c.loop-candidate.invariant.tried all best in kept q c.args.start all (g.C.Candidates.left c.loop-candidate.left) c.args.best is (all_tried all (FitsWith q c.args.start) q.last (finish_of c.args.best) (rw left at is.tried))
