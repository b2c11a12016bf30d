use Rattle.std.proofs.Common.{◌≡◌, ◌++◌, drop, map}
use Rattle.hv_syntax.specs.Values.{effect}
use Rattle.hv_reading.specs.Canonical.{spaced, item_expressions}
use Rattle.hv_syntax.specs.Views.{item_view}
use Rattle.hv_reading.proofs.print.effects.+items.Given as goal

abbrev pub invariant-put_items-loop-item : goal.invariant-put_items-loop-item
invariant-put_items-loop-item l =
    l.out.items ++ spaced (item_expressions (effect (map item_view (drop l.item-index l.items)))) ≡ l.initial.out.items ++ spaced (item_expressions (effect (map item_view l.items)))
