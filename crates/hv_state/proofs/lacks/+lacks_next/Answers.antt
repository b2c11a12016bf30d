use Rattle.std.proofs.Common.{◌<◌, ◌+◌, map, rules}
use Rattle.hv_world.specs.Values.{formulas_of}
use Rattle.hv_world.specs.Views.{formula_view}
use Rattle.hv_state.proofs.Levels.{levels, most_levels}
use Rattle.hv_state.proofs.FormulaLemmas.{part_below}
use Rattle.hv_state.proofs.lacks.+lacks_next.Goals as goal

pub all_lack_next-lacks_next-requires : goal.all_lack_next-lacks_next-requires
all_lack_next-lacks_next-requires t c =
    let below : levels (formula_view c.part-item.result) < most_levels (formulas_of (map formula_view c.args.parts.now)) + 1 = part_below _ _ _ c.loop-part-test.true c.part-item.is in
    search (rules, below)
