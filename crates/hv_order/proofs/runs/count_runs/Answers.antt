use Rattle.std.proofs.Common.{ℕ, sym, subst}
use Rattle.hv_order.specs.LeastFinishes.{IsNumberOfAnswers}
use Rattle.hv_order.specs.inside.Runs.{runs_of}
use Rattle.hv_order.proofs.Different.{number_is}
use Rattle.hv_order.proofs.RunLemmas.{row_at}
use Rattle.hv_order.proofs.runs.count_runs.Goals as goal

pub returns : goal.returns
returns g c =
    let q = g.N.Nodes.facts c.args.nodes.now in
    let v = c.args.node in
    let d = c.index-rows-node.result in
    let row = row_at q c.args.rows.now v d c.requires.rows c.requires.node c.index-rows-node.is in
    let P : ℕ → Type 0 = λ k. IsNumberOfAnswers (q.fits v) q.last k in
    subst P (sym c.count_in.ensures)
    (number_is (q.fits v) (λ s s' f le is. c.requires.nodes.fits.earlier v s s' f le is) q.last
    (runs_of q.last d) row.runs row.apart)
