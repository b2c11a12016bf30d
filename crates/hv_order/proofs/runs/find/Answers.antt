use Rattle.std.proofs.Common.{◌≡◌, Some, get_or, sym, ◌∙◌, subst}
use Rattle.std.proofs.lemmas.Option.{slice_get-get_or}
use Rattle.hv_order.specs.inside.Runs.{AreFew, runs_of}
use Rattle.hv_order.specs.declared.runs.Row.{Row}
use Rattle.hv_order.proofs.RunLemmas.{row_at}
use Rattle.hv_order.proofs.runs.find.Goals as goal

pub find_in-requires-clause-row : goal.find_in-requires-clause-row
find_in-requires-clause-row g c =
    row_at (g.N.Nodes.facts c.args.nodes.now) c.args.rows.now c.args.node c.index-rows-node.result
    c.requires.rows c.requires.node c.index-rows-node.is

pub returns-clause-looked : goal.returns-clause-looked
returns-clause-looked g c =
    let n = (g.N.Nodes.facts c.args.nodes.now).last in
    let d = c.index-rows-node.result in
    λ r e.
    let there = slice_get-get_or c.args.rows.now c.args.node d c.requires.node in
    let both : Some (get_or c.args.rows.now c.args.node d) ≡ Some r = sym there ∙ e in
    let k : get_or c.args.rows.now c.args.node d ≡ r = cc in
    let P : Row → Type 0 = λ u. AreFew (runs_of n u) c.find_in.result.looked in
    subst P (c.index-rows-node.is ∙ k) c.find_in.ensures.looked
