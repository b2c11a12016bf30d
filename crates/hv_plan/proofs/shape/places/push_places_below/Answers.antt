use Rattle.std.specs.Option.{unwrap_or}
use Rattle.std.proofs.lemmas.List.{map-append}
use Rattle.hv_plan.specs.inside.Tables.{line_children, place_by, places_by}
use Rattle.hv_plan.proofs.HeadLists.{append_item}
use Rattle.hv_plan.proofs.shape.places.push_places_below.Goals as goal

pub loop-line-preserved : goal.loop-line-preserved
loop-line-preserved c =
    let t = c.args.table.now in
    let n = c.args.count in
    append_item (λ ds. places_by t n (line_children ds)) (λ d. places_by t n d.children) (λ x xs. map-append (λ i. unwrap_or (place_by t i) n) x.children (line_children xs)) _ _ _
    c.loop-line.places.items c.push_places.new.places.items _ c.in-Some.ensures.steps c.in_ok-push_places.ensures c.loop-line.invariant
