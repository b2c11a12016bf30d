use Rattle.std.proofs.Common.{map, arith}
use Rattle.hv_syntax.specs.Values.{effect}
use Rattle.hv_syntax.specs.Views.{variable_view, item_view}
use Rattle.hv_world.specs.Eithers.{item_variables, effect_variables}
use Rattle.hv_world.specs.inside.Gathers.{lists_in}
use Rattle.hv_world.proofs.GatherLemmas.{gathered_both, gathered_next, gathered_end, items_flat}
use Rattle.hv_world.proofs.tables.gather.+effect.Goals as goal

pub add_for_all-returns : goal.add_for_all-returns
add_for_all-returns t c =
    gathered_both (lists_in c.args.lists.now) (lists_in c.add_variables.new.lists) (lists_in c.add_effect.new.lists) (map variable_view c.args.variables.now) (effect_variables (effect (map item_view c.args.items.now)))
    c.in_ok-add_variables.ensures c.in_ok-add_effect.ensures

pub add_effect-loop-item-preserved : goal.add_effect-loop-item-preserved
add_effect-loop-item-preserved t c =
    let l = c.loop-item in
    gathered_next item_view item_variables c.args.items.now l.item-index (lists_in c.args.lists.now) (lists_in l.lists) c.item-item.result (lists_in c.add_item.new.lists) (omega arith) c.item-item.is l.invariant c.in_ok-add_item.ensures

pub add_effect-returns : goal.add_effect-returns
add_effect-returns t c =
    let l = c.loop-item in
    let xs = c.args.items.now in
    gathered_end item_view item_variables xs l.item-index (lists_in c.args.lists.now) (lists_in l.lists) (effect_variables (effect (map item_view xs))) c.loop-item-test.false (items_flat (map item_view xs)) l.invariant
