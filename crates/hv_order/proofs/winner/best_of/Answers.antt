use Rattle.std.proofs.Common.{◌≡◌, Some, None}
use Rattle.hv_order.specs.inside.Arrangements.{arrangement_of}
use Rattle.hv_order.specs.declared.trial.Best.{Best}
use Rattle.hv_order.specs.inside.Frames.{AreLeastOf, Won}
use Rattle.hv_order.specs.inside.Winners.{IsListed}
use Rattle.hv_order.proofs.Settling.{from_start, nothing_tried, winner_is}
use Rattle.hv_order.proofs.winner.best_of.Goals as goal

no_best : (b : Best) → None ≡ Some b → ⊥
no_best b e = let k : None ≡ Some b = e in cc

pub next_turn-requires-clause-within : goal.next_turn-requires-clause-within
next_turn-requires-clause-within g c = λ b e. absurd (no_best b e)

pub next_turn-requires-clause-earliest : goal.next_turn-requires-clause-earliest
next_turn-requires-clause-earliest g c = from_start (g.T.Table.facts c.args.table.now) c.args.start _

pub returns-in-None : goal.returns-in-None
returns-in-None g c =
    let q = g.T.Table.facts c.args.table.now in
    let all = g.C.Candidates.left c.args.left.now in
    let next = rw c.in-None.is at c.in_ok-next_turn.ensures.next in
    next all (nothing_tried q c.args.start all)

pub advance-requires-clause-earliest : goal.advance-requires-clause-earliest
advance-requires-clause-earliest g c = from_start (g.T.Table.facts c.args.table.now) c.args.start _

pub advance-requires-clause-frame : goal.advance-requires-clause-frame
advance-requires-clause-frame g c =
    let turn = rw c.in-Some.is at c.in_ok-next_turn.ensures.turn in
    record {
      trying = turn.trying;
      cap = turn.cap;
      arranged = turn.arranged;
      nodes = turn.nodes;
      rest = turn.rest;
      won = λ b e. absurd (no_best b e);
    }

pub unreachable-requires : goal.unreachable-requires
unreachable-requires g c = c.requires.known _ _ (rw c.in-Wants.is at c.in_ok-advance.ensures.unknown)

pub returns : goal.returns
returns g c =
    let q = g.T.Table.facts c.args.table.now in
    let s = c.args.start in
    let all = g.C.Candidates.left c.args.left.now in
    let next = rw c.in-Some.is at c.in_ok-next_turn.ensures.next in
    let turn = rw c.in-Some.is at c.in_ok-next_turn.ensures.turn in
    let over = rw c.in-Over.is at c.in_ok-advance.ensures.over in
    let won = rw c.in-Over.is at c.in_ok-advance.ensures.won in
    let listed = rw c.in-Over.is at c.in_ok-advance.ensures.listed in
    let least : AreLeastOf q s all c.in-Over.best = over all (next all (nothing_tried q s all)) in
    let own : Won q s (arrangement_of c.advance.new.frame.winner) c.in-Over.best = won in
    let of_all : IsListed all (arrangement_of c.advance.new.frame.winner) c.in-Over.best = listed all (record { sub = turn.sub; winner = λ b e. absurd (no_best b e) }) in
    rw c.with_candidate.ensures (winner_is q s all c.in-Over.best c.advance.new.frame.winner least own of_all)
