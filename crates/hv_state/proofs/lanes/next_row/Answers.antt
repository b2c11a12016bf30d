use Rattle.std.proofs.Common.{◌≤◌, ◌+◌, ◌<◌, length, arith, refl}
use Rattle.std.proofs.lemmas.Grind.{common_steps}
use Rattle.hv_state.proofs.WordLemmas.{lanes_step, word_step}
use Rattle.hv_state.proofs.lanes.next_row.Goals as goal

pub lanes-preserved : goal.lanes-preserved
lanes-preserved c =
    let within : c.lanes.at + 8 ≤ length c.args.row.now = omega (arith, c.lanes-test.true) in
    (omega (arith, within), lanes_step c.lanes.at c.args.row.now _ _ c.args.deletes.now c.args.adds.now c.requires.deletes_len c.requires.adds_len within c.lanes.invariant.1 c.next_lanes.ensures)

pub rest-preserved : goal.rest-preserved
rest-preserved c =
    let lt : c.rest.at < length c.args.row.now = omega (arith, c.rest-test.true) in
    (grind (arith, common_steps, c.rest-test.true), word_step c.rest.at _ c.args.row.now _ c.args.deletes.now c.args.adds.now c.requires.deletes_len c.requires.adds_len lt c.rest.invariant.1 refl)
