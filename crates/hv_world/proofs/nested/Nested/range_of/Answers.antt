use Rattle.std.proofs.Common.{◌≡◌, arith, sym, subst}
use Rattle.hv_lists.proofs.Places.{slice_get_here}
use Rattle.hv_world.specs.Ranges.{IsRange, range_view}
use Rattle.hv_world.proofs.LineLemmas.{nested_range, nested_object}
use Rattle.hv_world.proofs.nested.Nested.range_of.Goals as goal

pub returns-then-of-eq0 : goal.returns-then-of-eq0
returns-then-of-eq0 c = λ w are.
    let zero_is : c.args.of.0 ≡ 0 = omega (arith, c.if-of-eq0.true) in
    subst (IsRange w (range_view c.whole.result)) (sym zero_is) (nested_object w c.args.self.now are c.whole.result c.whole.ensures)

pub returns : goal.returns
returns c = λ w are.
    let spans = c.args.self.now.spans.items in
    let item = rw c.deref.ensures.value at c.in-Some.ensures.lookup in
    nested_range w c.args.self.now are c.args.of.0 c.in-Some.span.now c.part.result (slice_get_here spans c.args.of.0 c.in-Some.span.now item.3.0 item.1) (λ e. omega (arith, e, c.if-of-eq0.false)) c.part.ensures
