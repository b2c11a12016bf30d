use Rattle.std.proofs.Common.{length, ◌-◌, arith, sym, subst}
use Rattle.hv_order.specs.inside.Runs.{IsRowOf, AreFew, runs_of}
use Rattle.hv_order.specs.declared.runs.Row.{Row}
use Rattle.hv_order.proofs.Idling.{idle_run, idle_few}
use Rattle.hv_order.proofs.RunLemmas.{some_run, rising, ends_at, run_here, kept_runs}
use Rattle.hv_order.proofs.runs.find_in.Goals as goal

pub returns-in-Idle-clause-run : goal.returns-in-Idle-clause-run
returns-in-Idle-clause-run g c =
    let q = g.N.Nodes.facts c.args._nodes.now in
    idle_run q c.args._node c.args.start (subst (IsRowOf q c.args._node) c.in-Idle.is c.requires.row) c.requires.start

pub returns-in-Idle-clause-looked : goal.returns-in-Idle-clause-looked
returns-in-Idle-clause-looked g c =
    let n = (g.N.Nodes.facts c.args._nodes.now).last in
    let P : Row → Type 0 = λ r. AreFew (runs_of n r) 1 in
    subst P (sym c.in-Idle.is) (idle_few n)

pub run_at-place-requires-clause-some : goal.run_at-place-requires-clause-some
run_at-place-requires-clause-some g c =
    let q = g.N.Nodes.facts c.args._nodes.now in
    let v = c.args._node in
    let runs = c.deref.result.now in
    let is = kept_runs q v c.args.row.now c.in-Runs.runs runs c.requires.row c.in-Runs.is c.deref.ensures.value in
    some_run (q.fits v) q.last 0 runs is (omega arith)

pub run_at-place-requires-clause-rise : goal.run_at-place-requires-clause-rise
run_at-place-requires-clause-rise g c =
    let q = g.N.Nodes.facts c.args._nodes.now in
    let v = c.args._node in
    let runs = c.deref.result.now in
    let is = kept_runs q v c.args.row.now c.in-Runs.runs runs c.requires.row c.in-Runs.is c.deref.ensures.value in
    λ i j e a b. rising (q.fits v) q.last 0 runs i j e is a b

pub run_at-place-requires-clause-end : goal.run_at-place-requires-clause-end
run_at-place-requires-clause-end g c =
    let q = g.N.Nodes.facts c.args._nodes.now in
    let v = c.args._node in
    let runs = c.deref.result.now in
    let is = kept_runs q v c.args.row.now c.in-Runs.runs runs c.requires.row c.in-Runs.is c.deref.ensures.value in
    let some = some_run (q.fits v) q.last 0 runs is (omega arith) in
    λ e. rw (ends_at (q.fits v) q.last 0 runs (length runs - 1) e is (omega arith) (omega arith)) c.requires.start

pub returns-in-Runs-clause-run : goal.returns-in-Runs-clause-run
returns-in-Runs-clause-run g c =
    let q = g.N.Nodes.facts c.args._nodes.now in
    let v = c.args._node in
    let runs = c.deref.result.now in
    let is = kept_runs q v c.args.row.now c.in-Runs.runs runs c.requires.row c.in-Runs.is c.deref.ensures.value in
    let here = c.run_at-place.ensures.place in
    let e = c.index.result.now in
    let here_is = run_here (q.fits v) q.last 0 c.args.start runs c.run_at-place.result.at e is (omega arith) here.within (λ j k. here.behind j e k) (here.here e) in
    rw (c.index.ensures, sym c.deref.ensures.value) here_is

pub returns-in-Runs-clause-looked : goal.returns-in-Runs-clause-looked
returns-in-Runs-clause-looked g c =
    let n = (g.N.Nodes.facts c.args._nodes.now).last in
    let P : Row → Type 0 = λ r. AreFew (runs_of n r) c.run_at-place.result.looked in
    subst P (sym c.in-Runs.is) (rw c.deref.ensures.value at c.run_at-place.ensures.place.few)
