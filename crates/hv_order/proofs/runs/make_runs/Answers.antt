use Rattle.std.proofs.Common.{◌≡◌, ◌≤◌, ◌+◌, ℕ, length, [], ◌∷◌, sym, subst, arith}
use Rattle.hv_order.specs.inside.Facts.{IsRunOf}
use Rattle.hv_order.proofs.RunLemmas.{nothing_behind}
use Rattle.hv_order.proofs.Merging.{IsRowSoFar, first_run, far_more}
use Rattle.hv_order.proofs.runs.make_runs.Goals as goal

pub loop-start-init : goal.loop-start-init
loop-start-init g c =
    let q = g.N.Nodes.facts c.args.nodes.now in
    let last = c.last-last.ensures.last in
    let P : ℕ → Type 0 = λ n. IsRunOf (q.fits (length c.args.rows.now)) n 0 c.args.first in
    let run : P c.last-last.result = subst P (sym last) c.requires.first in
    let end : c.args.first.last ≤ c.last-last.result = run.within in
    let one : c.in_ok-runs.runs.items ≡ c.args.first ∷ [] = c.in_ok-runs.ensures.items in
    let far = first_run (q.fits (length c.args.rows.now)) c.last-last.result c.args.first c.in_ok-runs.runs.items one run in
    record { within = omega (arith, end); rest = far.rest; apart = far.apart }

pub returns-clause-row : goal.returns-clause-row
returns-clause-row g c =
    let last = c.last-last.ensures.last in
    let a = c.loop-start-test.false in
    let inv = c.loop-start.invariant in
    let b = inv.within in
    let e : c.loop-start.start ≡ c.last-last.result + 1 = omega arith in
    let h = inv.rest [] e in
    rw (sym last, sym (nothing_behind c.loop-start.runs.items)) h

pub returns-clause-apart : goal.returns-clause-apart
returns-clause-apart g c = c.loop-start.invariant.apart

-- where the run has no winner to let go
pub loop-start-preserved : goal.loop-start-preserved
loop-start-preserved g c =
    let Fit = (g.N.Nodes.facts c.args.nodes.now).fits (length c.args.rows.now) in
    let inv = c.loop-start.invariant in
    let made = c.in_ok-settled.ensures in
    let settled = c.in_ok-settled.settled in
    let P : ℕ → Type 0 = λ n. IsRunOf Fit n c.loop-start.start settled.run in
    let run : P c.last-last.result = subst P (sym c.last-last.ensures.last) made.run in
    let end : settled.run.last ≤ c.last-last.result = run.within in
    let so_far : IsRowSoFar Fit c.last-last.result c.loop-start.start c.loop-start.runs.items = record { rest = inv.rest; apart = inv.apart } in
    let far = far_more Fit c.last-last.result c.loop-start.start c.loop-start.runs.items settled.run so_far run c.trim.new.runs.items c.trim.ensures in
    record {
      within = omega arith;
      rest = λ rest h. rw c.in_ok-push.ensures.items (far.rest rest h);
      apart = rw c.in_ok-push.ensures.items far.apart;
    }

-- where it has one
pub loop-start-preserved-in_ok-push : goal.loop-start-preserved-in_ok-push
loop-start-preserved-in_ok-push g c =
    let Fit = (g.N.Nodes.facts c.args.nodes.now).fits (length c.args.rows.now) in
    let inv = c.loop-start.invariant in
    let made = c.in_ok-settled.ensures in
    let settled = c.in_ok-settled.settled in
    let P : ℕ → Type 0 = λ n. IsRunOf Fit n c.loop-start.start settled.run in
    let run : P c.last-last.result = subst P (sym c.last-last.ensures.last) made.run in
    let end : settled.run.last ≤ c.last-last.result = run.within in
    let so_far : IsRowSoFar Fit c.last-last.result c.loop-start.start c.loop-start.runs.items = record { rest = inv.rest; apart = inv.apart } in
    let far = far_more Fit c.last-last.result c.loop-start.start c.loop-start.runs.items settled.run so_far run c.trim.new.runs.items c.trim.ensures in
    record {
      within = omega arith;
      rest = λ rest h. rw c.in_ok-push.ensures.items (far.rest rest h);
      apart = rw c.in_ok-push.ensures.items far.apart;
    }
