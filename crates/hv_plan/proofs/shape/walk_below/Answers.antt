use Rattle.std.proofs.Common.{◌≡◌, ◌<◌, ℕ, List, Option, subst, ◌∙◌, arith, length, Contains}
use Rattle.hv_plan.specs.LineViews.{plan_view}
use Rattle.hv_plan.specs.Shapes.{ids}
use Rattle.hv_plan.specs.inside.Shaping.{IsFirst, IsMissed, IsWalk, is_marked, lines_of_heads, kids}
use Rattle.hv_plan.proofs.ShapeTrees.{root_within, kids_within}
use Rattle.hv_plan.proofs.ShapeFaults.{all_marked, unmet_are}
use Rattle.hv_plan.proofs.shape.walk_below.Goals as goal

pub walk_from-requires-clause-root : goal.walk_from-requires-clause-root
walk_from-requires-clause-root c = λ x h.
    let p = plan_view c.args.plan.now in
    let P : List ℕ → Type 0 = λ xs. Contains xs x in
    let w : x < length (ids p) = root_within p c.args.below.now.root.items c.requires.root c.requires.known x (subst P c.deref.ensures.value h) in
    omega (arith, w, c.line_count.ensures)

pub walk_from-requires-clause-lists : goal.walk_from-requires-clause-lists
walk_from-requires-clause-lists c = λ v x h.
    let p = plan_view c.args.plan.now in
    let P : ℕ → Type 0 = λ n. Contains (kids c.args.below.now.lists n v) x in
    let w : x < length (ids p) = kids_within p c.args.below.now.lists c.requires.lists c.requires.known v x (subst P c.len-actions.ensures.count h) in
    omega (arith, w, c.line_count.ensures)

pub none_at-requires-clause-first : goal.none_at-requires-clause-first
none_at-requires-clause-first c = λ w.
    let p = plan_view c.args.plan.now in
    let root = c.args.below.now.root.items in
    let lists = c.args.below.now.lists in
    let met = c.in_ok-walk.walk.met.items in
    let marks = c.in_ok-walk.walk.is_met.items in
    let count : length marks ≡ length (ids p) = c.in_ok-walk.ensures.count ∙ c.line_count.ensures in
    let walk : IsWalk root (kids lists (length p.actions)) met marks =
    subst (λ n. IsWalk root (kids lists n) met marks) c.len-actions.ensures.count (subst (λ r. IsWalk r (kids lists c.len-actions.result) met marks) c.deref.ensures.value c.in_ok-walk.ensures.walk) in
    let first : IsFirst (IsMissed (is_marked marks) (lines_of_heads p) (length marks)) c.in_ok-unmet.unmet =
    subst (λ ms. IsFirst (IsMissed (is_marked ms) (lines_of_heads p) (length ms)) c.in_ok-unmet.unmet) c.deref-2.ensures.value c.in_ok-unmet.ensures in
    unmet_are p root lists met marks c.requires.root c.requires.lists c.requires.once c.requires.known walk count w c.in_ok-unmet.unmet first

pub returns-clause-met : goal.returns-clause-met
returns-clause-met c =
    let p = plan_view c.args.plan.now in
    let root = c.args.below.now.root.items in
    let lists = c.args.below.now.lists in
    let met = c.in_ok-walk.walk.met.items in
    let marks = c.in_ok-walk.walk.is_met.items in
    let count : length marks ≡ length (ids p) = c.in_ok-walk.ensures.count ∙ c.line_count.ensures in
    let walk : IsWalk root (kids lists (length p.actions)) met marks =
    subst (λ n. IsWalk root (kids lists n) met marks) c.len-actions.ensures.count (subst (λ r. IsWalk r (kids lists c.len-actions.result) met marks) c.deref.ensures.value c.in_ok-walk.ensures.walk) in
    let first : IsFirst (IsMissed (is_marked marks) (lines_of_heads p) (length marks)) c.in_ok-unmet.unmet =
    subst (λ ms. IsFirst (IsMissed (is_marked ms) (lines_of_heads p) (length ms)) c.in_ok-unmet.unmet) c.deref-2.ensures.value c.in_ok-unmet.ensures in
    let P : Option ℕ → Type 0 = IsFirst (IsMissed (is_marked marks) (lines_of_heads p) (length marks)) in
    record {
      marks = marks;
      walk = walk;
      count_is = count;
      all = λ k w. all_marked marks (lines_of_heads p) (subst P c.in_ok-none_at.ensures.none first) k (omega (arith, w, count));
    }
