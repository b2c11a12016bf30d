use Rattle.std.proofs.Common.{◌≡◌, ◌<◌, ◌∙◌, ◌∷◌, [], Some, length, map, sym, ap, refl, arith, subst}
use Rattle.hv_world.specs.MethodViews.{method_view}
use Rattle.hv_world.specs.WorldViews.{world_view}
use Rattle.hv_plan.specs.inside.ChildFaults.{IsChildFault, ChildFaultIn}
use Rattle.hv_plan.specs.inside.LineFaults.{IsEarliest}
use Rattle.hv_plan.specs.LineViews.{plan_view}
use Rattle.hv_plan.specs.Shapes.{root_parent, line_parent, parents}
use Rattle.hv_plan.specs.inside.ShapeViews.{shape_view}
use Rattle.hv_plan.specs.TreeViews.{child_view}
use Rattle.hv_plan.proofs.ChildLemmas.{list_here, names_are_numbered, names_of_items, root_stands_at, earliest_of_children}
use Rattle.hv_plan.proofs.EarliestLemmas.{earliest_of_lists}
use Rattle.hv_plan.proofs.build.children_cause.Goals as goal

pub method_cause-requires-clause-known : goal.method_cause-requires-clause-known
method_cause-requires-clause-known c =
    let w = world_view c.args.methods.now.world.now in
    let p = plan_view c.args.plan.now in
    let s = shape_view c.args.shape.now in
    let kids = c.args.shape.now.children in
    let n : c.args.shape.now.root ≡ length c.args.shape.now.lines.items = c.args.shape.now.last in
    let root : c.args.shape.now.root ≡ length p.decompositions = n ∙ c.requires.shape.as_many_lines in
    let lt : c.args.shape.now.root < length s.children = omega (arith, root, c.requires.shape.as_many_nodes) in
    let below = list_here child_view kids c.args.shape.now.root c.at-children.result.now lt c.at-children.ensures in
    (names_are_numbered w c.args.methods.now.sizes.tasks c.args.methods.now.sizes.actions c.requires.sizes p s c.args.methods.now.said c.requires.said p.root.ids (map child_view c.at-children.result.now)
    (root_stands_at p s c.requires.shape c.args.shape.now.root (map child_view c.at-children.result.now) root below))

pub returns : goal.returns
returns c =
    let w = world_view c.args.methods.now.world.now in
    let p = plan_view c.args.plan.now in
    let s = shape_view c.args.shape.now in
    let x = c.args.methods.now.said in
    let kids = c.args.shape.now.children in
    let n : c.args.shape.now.root ≡ length c.args.shape.now.lines.items = c.args.shape.now.last in
    let root : c.args.shape.now.root ≡ length p.decompositions = n ∙ c.requires.shape.as_many_lines in
    let lt : c.args.shape.now.root < length s.children = omega (arith, root, c.requires.shape.as_many_nodes) in
    let below = list_here child_view kids c.args.shape.now.root c.at-children.result.now lt c.at-children.ensures in
    let stands = root_stands_at p s c.requires.shape c.args.shape.now.root (map child_view c.at-children.result.now) root below in
    let their = names_of_items w c.args.methods.now.sizes.tasks c.args.methods.now.sizes.actions c.requires.sizes p s x c.requires.said p.root.ids (map child_view c.at-children.result.now) stands in
    let found = c.in_ok-root.ensures.cause in
    let of_root = earliest_of_children w p c.requires.form (root_parent p.root) (method_view c.top-top.result.now) (ap Some (sym c.top-top.ensures)) their.names their.named p.root.line c.in_ok-root.root refl (found their.names their.found) in
    subst (λ o. IsEarliest (ChildFaultIn w p (parents p)) o) (sym c.earlier.ensures)
    (earliest_of_lists (IsChildFault w p) (λ q. q.line) (root_parent p.root ∷ []) (map line_parent p.decompositions) c.in_ok-root.root c.in_ok-lines.lines of_root c.in_ok-lines.ensures)
