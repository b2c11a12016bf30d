use Rattle.std.proofs.Common.{arith, length}
use Rattle.hv_order.specs.inside.Runs.{runs_of}
use Rattle.hv_order.proofs.RunLemmas.{has_row}
use Rattle.hv_order.proofs.Different.{number_is}
use Rattle.hv_order.proofs.runs.least_finish_counted.Goals as goal

pub returns-clause-finish : goal.returns-clause-finish
returns-clause-finish g c = let run = c.find-found.ensures.run in run.least c.args.start (omega arith) run.begun

pub returns-clause-looked : goal.returns-clause-looked
returns-clause-looked g c =
    let q = g.N.Nodes.facts c.args.nodes.now in
    let v = c.args.node in
    let (r, is) = has_row c.args.rows.now v c.requires.node in
    let row = c.requires.rows v r is in
    let looked = c.find-found.ensures.looked r is in
    record {
      answers = length (runs_of q.last r);
      is_number = number_is (q.fits v) (λ s s' f le h. c.requires.nodes.fits.earlier v s s' f le h) q.last (runs_of q.last r) row.runs row.apart;
      one = looked.one;
      few = looked.few;
    }
