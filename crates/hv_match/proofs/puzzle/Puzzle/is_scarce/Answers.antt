use Rattle.std.proofs.Common.{◌<◌, ◌∙◌, sym, length, ap, arith, ltb-true}
use Rattle.hv_match.specs.inside.PuzzleViews.{puzzle_view}
use Rattle.hv_match.specs.inside.Tables.{size_at}
use Rattle.hv_match.proofs.Hope.{none_scarce}
use Rattle.hv_match.proofs.puzzle.Puzzle.is_scarce.Goals as goal

pub returns : goal.returns
returns c = λ e k.
    (let p = puzzle_view c.args.self.now in
    let few : length c.row.result.now < c.class_size.result = ltb-true _ _ e in
    let size = c.class_size.ensures ∙ ap (λ ss. size_at ss c.args.subtask) (sym c.args.self.now.table.now.listed) in
    none_scarce p c.args.self.now.placed c.classes_are_counted.ensures.sizes c.args.subtask (omega (arith, few, ap length c.row.ensures, size)) k)
