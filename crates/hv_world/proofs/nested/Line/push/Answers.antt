use Rattle.std.proofs.Common.{arith, ◌≡◌, subst, sym, set, length}
use Rattle.hv_world.specs.Types.{object_numbers}
use Rattle.hv_world.specs.inside.ListParts.{ArePlaced}
use Rattle.hv_world.proofs.RangeLemmas.{placed_more}
use Rattle.hv_world.proofs.nested.Line.push.Goals as goal

pub invariant_of-self-2 : goal.invariant_of-self-2
invariant_of-self-2 c =
    let objects = c.self.inside.objects.items in
    let places = c.self.inside.places.items in
    let count : c.len-place.result ≡ length objects = omega (arith, c.len-place.ensures, c.self.inside.objects.ok.0) in
    let is_new = rw (c.deref.ensures.value, c.deref-2.ensures.value) at c.stands_in.ensures c.if-stands_in.false in
    subst (λ n. ArePlaced (object_numbers c.push.new.self.items) (set places c.args.object.0 n)) (sym count)
    (subst (λ os. ArePlaced (object_numbers os) (set places c.args.object.0 (length objects))) (sym c.in_ok-push.ensures.items) (placed_more objects places c.args.object c.self.invariant is_new))
