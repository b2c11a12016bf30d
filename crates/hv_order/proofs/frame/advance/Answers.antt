use Rattle.std.proofs.Common.{◌≡◌, sym, ◌∙◌}
use Rattle.hv_lists.proofs.Contained.{in_tail}
use Rattle.hv_order.specs.inside.Arrangements.{arrangement_of}
use Rattle.hv_order.specs.inside.Trials.{finish_of}
use Rattle.hv_order.specs.inside.Frames.{IsLeastWith, Won}
use Rattle.hv_order.proofs.Framing.{still_trying}
use Rattle.hv_order.proofs.Lasting.{won_by_layout, won_by, one_more}
use Rattle.hv_order.proofs.Settling.{winner_listed}
use Rattle.hv_order.proofs.frame.advance.Goals as goal

pub next_turn-requires-clause-within : goal.next_turn-requires-clause-within
next_turn-requires-clause-within g c =
    let q = g.T.Table.facts c.args.table.now in
    let s = c.args.frame.now.start in
    let inv = c.loop-child.invariant in
    let f = c.loop-child.frame in
    let over = rw (c.deref.ensures.value, c.deref-in-loop-child.ensures.value, c.deref-sequencing.ensures) at c.in-Over.ensures.over in
    let whole = rw (c.deref-in-loop-child.ensures.value, c.deref-sequencing.ensures) at c.in-Over.ensures.whole in
    let trial = rw (c.deref.ensures.value, c.deref-in-loop-child.ensures.value, c.deref-sequencing.ensures) at c.in-Over.ensures.trial in
    let own : Won q s (arrangement_of f.candidate) c.in-Over.best = won_by_layout q c.requires.fits s f.candidate inv.frame.arranged f.trial inv.frame.trying c.go_on.new.trial c.in-Over.best trial c.in-Over.ensures.at c.in-Over.ensures.last over whole in
    λ b e. rw c.requires.last (won_by q s f.best c.in-Over.best f.winner f.candidate c.take.new.frame.winner inv.frame.won own c.take.ensures.winner b (sym c.take.ensures.best ∙ e)).within

pub next_turn-requires-clause-earliest : goal.next_turn-requires-clause-earliest
next_turn-requires-clause-earliest g c =
    let inv = c.loop-child.invariant in
    λ d h m b. rw (c.take.ensures.earliest, inv.earliest) (c.requires.earliest d h (inv.within d m) (rw (c.take.ensures.start, inv.start) at b))

pub returns-in-None-clause-over : goal.returns-in-None-clause-over
returns-in-None-clause-over g c =
    let q = g.T.Table.facts c.args.table.now in
    let s = c.args.frame.now.start in
    let inv = c.loop-child.invariant in
    let f = c.loop-child.frame in
    let over = rw (c.deref.ensures.value, c.deref-in-loop-child.ensures.value, c.deref-sequencing.ensures) at c.in-Over.ensures.over in
    let whole = rw (c.deref-in-loop-child.ensures.value, c.deref-sequencing.ensures) at c.in-Over.ensures.whole in
    let trial = rw (c.deref.ensures.value, c.deref-in-loop-child.ensures.value, c.deref-sequencing.ensures) at c.in-Over.ensures.trial in
    let least : IsLeastWith q s (arrangement_of f.candidate) f.trial.cap (finish_of c.in-Over.best) = inv.frame.trying.gives (finish_of c.in-Over.best) (over inv.frame.trying.zeros inv.frame.trying.trial) in
    let own : Won q s (arrangement_of f.candidate) c.in-Over.best = won_by_layout q c.requires.fits s f.candidate inv.frame.arranged f.trial inv.frame.trying c.go_on.new.trial c.in-Over.best trial c.in-Over.ensures.at c.in-Over.ensures.last over whole in
    let e : c.take.new.frame.start ≡ c.args.frame.now.start = c.take.ensures.start ∙ inv.start in
    let next = rw (c.in-None.is, e) at c.in_ok-next_turn-in-Over.ensures.next in
    λ all best. next all (rw c.take.ensures.best (one_more q s all (arrangement_of f.candidate) (g.C.Candidates.left c.loop-child.left) f.best c.in-Over.best f.trial.cap inv.frame.cap least own (inv.tried all best)))

pub loop-child-preserved : goal.loop-child-preserved
loop-child-preserved g c =
    let q = g.T.Table.facts c.args.table.now in
    let s = c.args.frame.now.start in
    let inv = c.loop-child.invariant in
    let f = c.loop-child.frame in
    let over = rw (c.deref.ensures.value, c.deref-in-loop-child.ensures.value, c.deref-sequencing.ensures) at c.in-Over.ensures.over in
    let whole = rw (c.deref-in-loop-child.ensures.value, c.deref-sequencing.ensures) at c.in-Over.ensures.whole in
    let trial = rw (c.deref.ensures.value, c.deref-in-loop-child.ensures.value, c.deref-sequencing.ensures) at c.in-Over.ensures.trial in
    let least : IsLeastWith q s (arrangement_of f.candidate) f.trial.cap (finish_of c.in-Over.best) = inv.frame.trying.gives (finish_of c.in-Over.best) (over inv.frame.trying.zeros inv.frame.trying.trial) in
    let own : Won q s (arrangement_of f.candidate) c.in-Over.best = won_by_layout q c.requires.fits s f.candidate inv.frame.arranged f.trial inv.frame.trying c.go_on.new.trial c.in-Over.best trial c.in-Over.ensures.at c.in-Over.ensures.last over whole in
    let e : c.take.new.frame.start ≡ c.args.frame.now.start = c.take.ensures.start ∙ inv.start in
    let next = rw (c.in-Some.is, e) at c.in_ok-next_turn-in-Over.ensures.next in
    let turn = rw (c.in-Some.is, e) at c.in_ok-next_turn-in-Over.ensures.turn in
    record {
      start = e;
      earliest = c.take.ensures.earliest ∙ inv.earliest;
      within = λ d m. inv.within d (turn.sub d (in_tail (arrangement_of c.in-Some.turn.candidate) (g.C.Candidates.left c.next_turn.new.left) d m));
      frame = record {
        trying = turn.trying;
        cap = turn.cap;
        arranged = turn.arranged;
        nodes = turn.nodes;
        rest = turn.rest;
        won = λ b r. won_by q s f.best c.in-Over.best f.winner f.candidate c.take.new.frame.winner inv.frame.won own c.take.ensures.winner b (sym c.take.ensures.best ∙ r);
      };
      tried = λ all best. next all (rw c.take.ensures.best (one_more q s all (arrangement_of f.candidate) (g.C.Candidates.left c.loop-child.left) f.best c.in-Over.best f.trial.cap inv.frame.cap least own (inv.tried all best)));
      listed = λ all here.
          let are = inv.listed all here in
          record {
            sub = λ d m. are.sub d (in_tail (arrangement_of f.candidate) (g.C.Candidates.left c.loop-child.left) d (turn.sub d m));
            winner = winner_listed all f (g.C.Candidates.left c.loop-child.left) c.in-Over.best c.take.new.frame.best c.take.new.frame.winner are c.take.ensures.best c.take.ensures.winner;
          };
    }

pub returns-in-None-clause-won : goal.returns-in-None-clause-won
returns-in-None-clause-won g c =
    let q = g.T.Table.facts c.args.table.now in
    let s = c.args.frame.now.start in
    let inv = c.loop-child.invariant in
    let f = c.loop-child.frame in
    let over = rw (c.deref.ensures.value, c.deref-in-loop-child.ensures.value, c.deref-sequencing.ensures) at c.in-Over.ensures.over in
    let whole = rw (c.deref-in-loop-child.ensures.value, c.deref-sequencing.ensures) at c.in-Over.ensures.whole in
    let trial = rw (c.deref.ensures.value, c.deref-in-loop-child.ensures.value, c.deref-sequencing.ensures) at c.in-Over.ensures.trial in
    let own : Won q s (arrangement_of f.candidate) c.in-Over.best = won_by_layout q c.requires.fits s f.candidate inv.frame.arranged f.trial inv.frame.trying c.go_on.new.trial c.in-Over.best trial c.in-Over.ensures.at c.in-Over.ensures.last over whole in
    λ b e. won_by q s f.best c.in-Over.best f.winner f.candidate c.take.new.frame.winner inv.frame.won own c.take.ensures.winner b (sym c.take.ensures.best ∙ e)

pub returns-in-Wants-clause-frame : goal.returns-in-Wants-clause-frame
returns-in-Wants-clause-frame g c =
    let q = g.T.Table.facts c.args.table.now in
    let s = c.args.frame.now.start in
    let inv = c.loop-child.invariant in
    let f = c.loop-child.frame in
    let trial = rw (c.deref.ensures.value, c.deref-in-loop-child.ensures.value, c.deref-sequencing.ensures) at c.in-Wants.ensures.trial in
    let room = rw c.deref.ensures.value at c.in-Wants.ensures.room in
    record {
      trying = still_trying q s f.candidate f.trial c.go_on.new.trial inv.frame.trying trial c.in-Wants.ensures.under room c.in-Wants.ensures.at c.in-Wants.ensures.last c.in-Wants.ensures.cap;
      cap = rw c.in-Wants.ensures.cap inv.frame.cap;
      arranged = inv.frame.arranged;
      nodes = inv.frame.nodes;
      rest = inv.frame.rest;
      won = inv.frame.won;
    }

pub returns-in-None-clause-listed : goal.returns-in-None-clause-listed
returns-in-None-clause-listed g c =
    let inv = c.loop-child.invariant in
    let f = c.loop-child.frame in
    λ all here. winner_listed all f (g.C.Candidates.left c.loop-child.left) c.in-Over.best c.take.new.frame.best c.take.new.frame.winner (inv.listed all here) c.take.ensures.best c.take.ensures.winner

pub returns-in-Wants-clause-listed : goal.returns-in-Wants-clause-listed
returns-in-Wants-clause-listed g c =
    let inv = c.loop-child.invariant in
    λ all here. let are = inv.listed all here in record { sub = are.sub; winner = are.winner }
