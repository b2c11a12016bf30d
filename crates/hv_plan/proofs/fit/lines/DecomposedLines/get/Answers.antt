use Rattle.std.proofs.Common.{◌≤◌, length, sym, arith}
use Rattle.std.proofs.lemmas.Option.{slice_get_past}
use Rattle.hv_plan.specs.inside.FitViews.{headed, decomposed_lines}
use Rattle.hv_lists.proofs.Heads.{with_length}
use Rattle.hv_plan.proofs.fit.lines.DecomposedLines.get.Goals as goal

pub returns-else-place-len : goal.returns-else-place-len
returns-else-place-len c =
    let ls = c.args.self.now in
    let many = with_length headed ls.heads.items ls.objects in
    let heads = ls.heads.ok in
    let past : length (decomposed_lines ls) ≤ c.args.place = omega (arith, many, heads, c.if-place-len.false) in
    sym (slice_get_past (decomposed_lines ls) c.args.place past)
