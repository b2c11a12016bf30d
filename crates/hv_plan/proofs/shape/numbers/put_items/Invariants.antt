use Rattle.std.proofs.Common.{◌≡◌, ◌++◌, drop, map}
use Rattle.hv_plan.specs.TreeViews.{child_view}
use Rattle.hv_plan.specs.inside.Shaping.{items_at}
use Rattle.hv_plan.proofs.shape.numbers.put_items.Given as goal

abbrev pub invariant-loop-place : goal.invariant-loop-place
invariant-loop-place l = map child_view l.items.items ++ items_at l.actions l.numbers (drop l.place-index l.places) ≡ items_at l.actions l.numbers l.places
