use Rattle.std.proofs.Common.{◌<◌, ◌∙◌, length, sym, subst, arith}
use Rattle.std.proofs.lemmas.List.{take_all, length-set}
use Rattle.hv_match.specs.inside.Forced.{AllBegin}
use Rattle.hv_match.specs.inside.PuzzleViews.{puzzle_view}
use Rattle.hv_match.proofs.Forcing.{set_next}
use Rattle.hv_match.proofs.puzzle.Puzzle.force.Goals as goal

pub returns : goal.returns
returns c = record {
  size = c.loop-level.auto.chosen;
  forced = λ e. record {
    whole = c.loop-level.invariant.0;
    only = subst (AllBegin (puzzle_view c.args.self.now)) (take_all c.loop-level.level c.loop-level.chosen (omega (arith, c.loop-level.auto.chosen, c.loop-level-test.false))) c.loop-level.invariant.1;
  };
}

pub loop-level-preserved : goal.loop-level-preserved
loop-level-preserved c =
    let old = c.loop-level.chosen in
    let i = c.loop-level.level in
    let x = c.in-Some.choice in
    let lt : i < length old = omega (arith, c.loop-level-test.true, c.loop-level.auto.chosen) in
    (length-set old i x ∙ c.loop-level.invariant.0, subst (AllBegin (puzzle_view c.args.self.now)) (sym (set_next old i x lt)) (c.in-Some.ensures c.loop-level.invariant.1))
