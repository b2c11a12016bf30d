use Rattle.std.proofs.Common.{◌≡◌, ◌<◌, ◌+◌, ◌-◌, length, slice_index, sym, ap, ◌∙◌, arith}
use Rattle.std.proofs.lemmas.List.{length-map}
use Rattle.hv_world.specs.declared.order.walk.Mark.TheVariants as marks
use Rattle.hv_world.specs.inside.OrderWalks.{lists_of, mark_at}
use Rattle.hv_world.proofs.OrderWalk.{looked_walk, before_trail, open_is_cyclic, last_within, next_listed, mark_read, left_at}
use Rattle.hv_world.proofs.order.walk.step.Goals as goal

pub index-requires : goal.index-requires
index-requires c =
    let w = c.args.walk.now in
    let xss = lists_of c.args.lists.now in
    let s = c.args.last in
    let within : s < length xss = last_within xss w.marks.items w.left.items w.trail.items w.row.items s c.requires.walk c.requires.last in
    let listed = next_listed xss w.marks.items w.left.items w.trail.items w.row.items s c.index-left.result.now c.earlier-next.result c.requires.walk (omega (arith, within, c.requires.walk.left_count)) c.index-left.ensures c.if-left-eq0.false c.earlier-next.ensures in
    omega (arith, c.requires.known c.earlier-next.result s listed, c.requires.walk.marks_count, length-map c.args.lists.now (λ v. v.items), w.marks.ok)

pub open-requires-clause-within : goal.open-requires-clause-within
open-requires-clause-within c =
    let w = c.args.walk.now in
    let xss = lists_of c.args.lists.now in
    let s = c.args.last in
    let within : s < length xss = last_within xss w.marks.items w.left.items w.trail.items w.row.items s c.requires.walk c.requires.last in
    let listed = next_listed xss w.marks.items w.left.items w.trail.items w.row.items s c.index-left.result.now c.earlier-next.result c.requires.walk (omega (arith, within, c.requires.walk.left_count)) c.index-left.ensures c.if-left-eq0.false c.earlier-next.ensures in
    c.requires.known c.earlier-next.result s listed

pub open-requires-clause-next : goal.open-requires-clause-next
open-requires-clause-next c =
    let w = c.args.walk.now in
    let xss = lists_of c.args.lists.now in
    let s = c.args.last in
    let within : s < length xss = last_within xss w.marks.items w.left.items w.trail.items w.row.items s c.requires.walk c.requires.last in
    let listed = next_listed xss w.marks.items w.left.items w.trail.items w.row.items s c.index-left.result.now c.earlier-next.result c.requires.walk (omega (arith, within, c.requires.walk.left_count)) c.index-left.ensures c.if-left-eq0.false c.earlier-next.ensures in
    before_trail xss w.marks.items w.left.items w.trail.items w.row.items s c.earlier-next.result c.requires.walk c.requires.last.0 c.requires.last.1 listed

pub returns-in-Open-clause-cycle : goal.returns-in-Open-clause-cycle
returns-in-Open-clause-cycle c =
    let w = c.args.walk.now in
    let xss = lists_of c.args.lists.now in
    let s = c.args.last in
    let x = c.earlier-next.result in
    let within : s < length xss = last_within xss w.marks.items w.left.items w.trail.items w.row.items s c.requires.walk c.requires.last in
    let listed = next_listed xss w.marks.items w.left.items w.trail.items w.row.items s c.index-left.result.now x c.requires.walk (omega (arith, within, c.requires.walk.left_count)) c.index-left.ensures c.if-left-eq0.false c.earlier-next.ensures in
    let bound : x < length w.marks.items = omega (arith, c.requires.known x s listed, c.requires.walk.marks_count, length-map c.args.lists.now (λ v. v.items)) in
    λ _. open_is_cyclic xss w.marks.items w.left.items w.trail.items w.row.items s x c.requires.walk c.requires.last.0 c.requires.last.1 listed (mark_read w.marks.items x c.index.result.now marks.Open bound c.index.ensures c.in-Open.is)

pub returns-in-Placed-clause-walk : goal.returns-in-Placed-clause-walk
returns-in-Placed-clause-walk c =
    let w = c.args.walk.now in
    let xss = lists_of c.args.lists.now in
    let s = c.args.last in
    let x = c.earlier-next.result in
    let n = c.index-left.result.now in
    let within : s < length xss = last_within xss w.marks.items w.left.items w.trail.items w.row.items s c.requires.walk c.requires.last in
    let listed = next_listed xss w.marks.items w.left.items w.trail.items w.row.items s n x c.requires.walk (omega (arith, within, c.requires.walk.left_count)) c.index-left.ensures c.if-left-eq0.false c.earlier-next.ensures in
    let bound : x < length w.marks.items = omega (arith, c.requires.known x s listed, c.requires.walk.marks_count, length-map c.args.lists.now (λ v. v.items)) in
    let done : mark_at w.marks.items x ≡ marks.Placed = mark_read w.marks.items x c.index.result.now marks.Placed bound c.index.ensures c.in-Placed.is in
    let left : slice_index w.left.items s ≡ (n - 1) + 1 = omega (arith, left_at w.left.items s n (omega (arith, within, c.requires.walk.left_count)) c.index-left.ensures, c.if-left-eq0.false) in
    λ _. looked_walk xss w.marks.items w.left.items w.trail.items w.row.items s (n - 1) within c.requires.walk left (ap (mark_at w.marks.items) (sym c.earlier-next.ensures) ∙ done)
