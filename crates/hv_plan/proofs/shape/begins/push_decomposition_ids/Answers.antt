use Rattle.std.proofs.Common.{map, refl, ◌∷◌, []}
use Rattle.hv_plan.proofs.HeadLists.{append_item}
use Rattle.hv_plan.proofs.shape.begins.push_decomposition_ids.Goals as goal

pub loop-line-preserved : goal.loop-line-preserved
loop-line-preserved c =
    append_item (map (λ d. d.id)) (λ d. d.id ∷ []) (λ x xs. refl) _ _ _ c.loop-line.ids.items c.push.new.self.items _ c.in-Some.ensures.steps c.in_ok-push.ensures.items
    c.loop-line.invariant
