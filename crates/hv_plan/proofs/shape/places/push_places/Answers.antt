use Rattle.std.proofs.Common.{◌++◌, ◌∷◌, [], ap, ◌∙◌}
use Rattle.std.specs.Option.{unwrap_or}
use Rattle.hv_plan.specs.inside.Tables.{place_by}
use Rattle.hv_plan.proofs.HeadLists.{push_next}
use Rattle.hv_plan.proofs.shape.places.push_places.Goals as goal

pub loop-id-preserved : goal.loop-id-preserved
loop-id-preserved c =
    push_next (λ i. unwrap_or (place_by c.args.table.now i) c.args.count) c.args.ids.now c.loop-id.id-index c.loop-id.places.items c.push.new.self.items _ c.loop-id-test.true
    (c.in_ok-push.ensures.items ∙ ap (λ y. c.loop-id.places.items ++ y ∷ []) c.place_of.ensures) c.loop-id.invariant
