use Rattle.std.proofs.Common.{sym, None, ◌≡◌, ◌<◌, Some, ap, length, map, slice_get, arith}
use Rattle.hv_lists.proofs.Pairs.{same_length}
use Rattle.hv_lists.proofs.Places.{member_at, slice_get_here}
use Rattle.hv_world.specs.WorldViews.{world_view}
use Rattle.hv_plan.specs.inside.FitViews.{decomposed_line, decomposed_lines, IsDecomposed}
use Rattle.hv_plan.specs.LineViews.{decomposition_view, plan_view}
use Rattle.hv_plan.specs.inside.ShapeViews.{shape_view}
use Rattle.hv_plan.specs.TreeViews.{child_view}
use Rattle.hv_plan.proofs.ChildLemmas.{list_here, node_within, names_are_numbered, children_stand_at, cause_of_children, if_ok_more}
use Rattle.hv_plan.proofs.build.Methods.place_cause.Goals as goal

pub line_cause-requires-clause-known : goal.line_cause-requires-clause-known
line_cause-requires-clause-known c =
    let w = world_view c.args.self.now.world.now in
    let p = plan_view c.args.plan.now in
    let s = shape_view c.args.shape.now in
    let within : c.args.place < length c.args.shape.now.numbers.items = omega (arith, c.requires.shape.as_many_numbers, c.requires.place) in
    let number_at : slice_get c.args.shape.now.numbers.items c.args.place ≡ Some c.index.result.now = slice_get_here c.args.shape.now.numbers.items c.args.place c.index.result.now within c.index.ensures in
    let below : c.index.result.now < length s.children = node_within p s c.requires.shape c.args.place c.index.result.now number_at in
    let kids = list_here child_view c.args.shape.now.children c.index.result.now c.at-children.result.now below c.at-children.ensures in
    (names_are_numbered w c.args.self.now.sizes.tasks c.args.self.now.sizes.actions c.requires.sizes p s c.args.self.now.said c.requires.said (decomposition_view c.at-line.result).children (map child_view c.at-children.result.now)
    (children_stand_at p s c.requires.shape c.args.place c.index.result.now (decomposition_view c.at-line.result) (map child_view c.at-children.result.now) c.at-line.ensures number_at kids))

pub returns-clause-cause : goal.returns-clause-cause
returns-clause-cause c =
    let w = world_view c.args.self.now.world.now in
    let p = plan_view c.args.plan.now in
    let s = shape_view c.args.shape.now in
    let x = c.args.self.now.said in
    let within : c.args.place < length c.args.shape.now.numbers.items = omega (arith, c.requires.shape.as_many_numbers, c.requires.place) in
    let number_at : slice_get c.args.shape.now.numbers.items c.args.place ≡ Some c.index.result.now = slice_get_here c.args.shape.now.numbers.items c.args.place c.index.result.now within c.index.ensures in
    let below : c.index.result.now < length s.children = node_within p s c.requires.shape c.args.place c.index.result.now number_at in
    let kids = list_here child_view c.args.shape.now.children c.index.result.now c.at-children.result.now below c.at-children.ensures in
    if_ok_more _ _ c.line_cause.result
    (λ o found d is.
    cause_of_children w c.args.self.now.sizes.tasks c.args.self.now.sizes.actions c.requires.sizes p s x c.requires.said c.requires.form c.requires.shape c.args.place c.index.result.now
    d (decomposed_line c.in-Some.said) (map child_view c.at-children.result.now) is number_at kids
    (sym c.in-Some.ensures) c.at-line.result.line o
    (let same : d ≡ decomposition_view c.at-line.result = cc (is, c.at-line.ensures) in ap (λ e. e.line) same) found)
    c.line_cause.ensures.cause

pub returns-in_default-clause-cause : goal.returns-in_default-clause-cause
returns-in_default-clause-cause c =
    let w = world_view c.args.self.now.world.now in
    let p = plan_view c.args.plan.now in
    let x = c.args.self.now.said in
    let said_many : length p.decompositions ≡ length (decomposed_lines x.lines.now) = same_length (IsDecomposed w) p.decompositions (decomposed_lines x.lines.now) c.requires.said.lines in
    let (z, there) = member_at (decomposed_lines x.lines.now) c.args.place (omega (arith, said_many, c.requires.place)) in
    let none : slice_get (decomposed_lines x.lines.now) c.args.place ≡ None = sym (rw c.in_default.is at c.get.ensures) in
    λ d is. absurd (cc (there, none))
