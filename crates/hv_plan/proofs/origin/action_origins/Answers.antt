use Rattle.std.proofs.Common.{map, refl, ◌∷◌, []}
use Rattle.hv_plan.specs.inside.Origins.{origin_of_action}
use Rattle.hv_plan.proofs.HeadLists.{append_item}
use Rattle.hv_plan.proofs.origin.action_origins.Goals as goal

pub loop-line-preserved : goal.loop-line-preserved
loop-line-preserved c =
    append_item (map origin_of_action) (λ l. origin_of_action l ∷ []) (λ x xs. refl) _ _ _ c.loop-line.origins.items c.push.new.self.items _ c.in-Some.ensures.steps c.in_ok-push.ensures.items
    c.loop-line.invariant
