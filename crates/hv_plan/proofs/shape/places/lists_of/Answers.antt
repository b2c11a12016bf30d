use Rattle.std.proofs.Common.{◌≡◌, ◌++◌, ◌∷◌, [], ap, ◌∙◌, map, refl}
use Rattle.std.specs.List.{flat_map}
use Rattle.hv_plan.specs.LineViews.{plan_view}
use Rattle.hv_plan.specs.LinesLeft.{decompositions_left}
use Rattle.hv_plan.specs.Shapes.{ids, line_parent}
use Rattle.hv_plan.specs.Ids.{place_of}
use Rattle.hv_plan.proofs.HeadLists.{append_item}
use Rattle.hv_plan.proofs.PlaceTables.{front_within, front_of, rest_of}
use Rattle.hv_plan.proofs.shape.places.lists_of.Goals as goal

pub split_at-requires : goal.split_at-requires
split_at-requires c =
    let f = place_of (ids (plan_view c.args.plan.now)) in
    let own = c.in-Some.line.children.now in
    let others = flat_map (λ q. q.children) (map line_parent (decompositions_left c.next.new.self)) in
    let left : c.loop-line.left.now ≡ map f (own ++ others) = c.loop-line.invariant.0 ∙ ap (λ ds. map f (flat_map (λ q. q.children) (map line_parent ds))) c.in-Some.ensures.steps in
    front_within f c.loop-line.left.now own others left

pub loop-line-preserved : goal.loop-line-preserved
loop-line-preserved c =
    let f = place_of (ids (plan_view c.args.plan.now)) in
    let own = c.in-Some.line.children.now in
    let others = flat_map (λ q. q.children) (map line_parent (decompositions_left c.next.new.self)) in
    let left : c.loop-line.left.now ≡ map f (own ++ others) = c.loop-line.invariant.0 ∙ ap (λ ds. map f (flat_map (λ q. q.children) (map line_parent ds))) c.in-Some.ensures.steps in (
      c.split_at.ensures.back ∙ rest_of f c.loop-line.left.now own others left,
      append_item (map (λ d. map f d.children)) (λ d. map f d.children ∷ []) (λ x xs. refl) _ _ _ c.loop-line.lists c.push.new.self _ c.in-Some.ensures.steps
          (c.in_ok-push.ensures.lists ∙ ap (λ y. c.loop-line.lists ++ y ∷ []) (c.split_at.ensures.front ∙ front_of f c.loop-line.left.now own others left)) c.loop-line.invariant.1,
    )
