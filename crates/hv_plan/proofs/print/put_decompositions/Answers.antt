use Rattle.std.proofs.Common.{refl}
use Rattle.std.specs.List.{flat_map}
use Rattle.hv_plan.specs.Canonical.{decomposition_text}
use Rattle.hv_plan.proofs.HeadLists.{append_item}
use Rattle.hv_plan.proofs.print.put_decompositions.Goals as goal

pub loop-line-preserved : goal.loop-line-preserved
loop-line-preserved c =
    append_item (flat_map decomposition_text) (decomposition_text) (λ x xs. refl) _ _ _ c.loop-line.out.items c.put_decomposition.new.out.items _ c.in-Some.ensures.steps c.in_ok-put_decomposition.ensures
    c.loop-line.invariant
