use Rattle.std.proofs.Common.{◌≡◌, ◌∙◌, length, sym, rules}
use Rattle.hv_plan.proofs.LineLists.{length_lines}
use Rattle.hv_plan.proofs.plan.decompositions.DecompositionLines.len.Goals as goal

pub returns-clause-count : goal.returns-clause-count
returns-clause-count c =
    let ds = c.args.self.now in
    let same : c.len.result ≡ length ds.heads.items = search rules in
    same ∙ sym (length_lines ds.heads.items ds.arguments ds.children)
