use Rattle.std.proofs.Common.{◌≡◌, ◌++◌, [], drop, map, slice_index_or}
use Rattle.hv_plan.specs.inside.Shaping.{items_at}
use Rattle.hv_plan.specs.TreeViews.{child_view}
use Rattle.hv_plan.proofs.shape.numbers.node_children.Given as goal

abbrev pub invariant-loop-line : goal.invariant-loop-line
invariant-loop-line l =
    (l.line-items ≡ l.numbering.lines.items)
    × (map (map child_view) l.children ++ map (λ k. items_at l.actions l.numbering.numbers.items (slice_index_or l.lists k [])) (drop l.line-index l.line-items)
    ≡ map (λ k. items_at l.actions l.numbering.numbers.items (slice_index_or l.lists k [])) l.numbering.lines.items)
