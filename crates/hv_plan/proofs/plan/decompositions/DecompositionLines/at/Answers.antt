use Rattle.std.proofs.Common.{◌≡◌, ◌<◌, ◌∙◌, Some, length, sym, rules, arith}
use Rattle.hv_plan.specs.LineViews.{headed, decompositions_view}
use Rattle.hv_plan.proofs.LineLists.{length_lines, line_at}
use Rattle.hv_plan.proofs.plan.decompositions.DecompositionLines.at.Goals as goal

pub index-head-requires : goal.index-head-requires
index-head-requires c =
    let ds = c.args.self.now in
    let many : length (decompositions_view ds) ≡ length ds.heads.items = length_lines ds.heads.items ds.arguments ds.children in
    let lt : c.args.place < length ds.heads.items = omega (arith, many, c.requires) in
    search rules

pub returns : goal.returns
returns c =
    let ds = c.args.self.now in
    let many : length (decompositions_view ds) ≡ length ds.heads.items = length_lines ds.heads.items ds.arguments ds.children in
    let lt : c.args.place < length ds.heads.items = omega (arith, many, c.requires) in
    line_at ds.heads.items ds.arguments ds.children c.args.place c.index-head.result.now lt c.index-head.ensures
    ∙ (λ i. Some (headed c.index-head.result.now (sym c.at.ensures i) (sym c.at-2.ensures i)))
