use Rattle.std.proofs.Common.{map, refl}
use Rattle.std.specs.List.{flat_map}
use Rattle.hv_plan.specs.Shapes.{line_parent}
use Rattle.hv_plan.specs.inside.Shaping.{child_lines}
use Rattle.hv_plan.proofs.HeadLists.{append_item}
use Rattle.hv_plan.proofs.shape.begins.push_child_numbers.Goals as goal

pub loop-line-preserved : goal.loop-line-preserved
loop-line-preserved c =
    append_item (λ ds. flat_map child_lines (map line_parent ds)) (λ d. child_lines (line_parent d)) (λ x xs. refl) _ _ _ c.loop-line.numbers.items c.push_number.new.numbers.items _ c.in-Some.ensures.steps c.in_ok-push_number.ensures
    c.loop-line.invariant
