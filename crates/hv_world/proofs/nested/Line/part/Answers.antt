use Rattle.std.proofs.Common.{◌∙◌, IfSome, ap, sym, subst}
use Rattle.hv_world.specs.Ranges.{range_view}
use Rattle.hv_world.specs.Types.{object_numbers}
use Rattle.hv_world.specs.inside.ListParts.{ArePlaced}
use Rattle.hv_world.specs.inside.Lines.{IsPartOf, part_of}
use Rattle.hv_world.proofs.RangeLemmas.{part_places, part_numbers}
use Rattle.hv_world.proofs.nested.Line.part.Goals as goal

pub within-requires : goal.within-requires
within-requires c =
    let all = c.self.inside.objects.items in
    let facts = rw c.deref.ensures.value at c.in-Some-get.ensures.lookup.0 in
    let placed : ArePlaced (object_numbers all) c.deref-2.result.now = subst (ArePlaced (object_numbers all)) (sym c.deref-2.ensures.value) c.self.invariant in
    part_places all c.in-Some-get.objects.now c.deref-2.result.now c.in-Some.span.start c.in-Some.span.end placed facts.0 facts.1 facts.2

pub returns : goal.returns
returns c =
    let all = c.self.inside.objects.items in
    let facts = rw c.deref.ensures.value at c.in-Some-get.ensures.lookup.0 in
    subst (λ s. IfSome s (IsPartOf c.args.self.now (range_view c.within.result))) (sym c.in-Some.is)
    (λ rises within. c.within.ensures ∙ part_numbers all c.in-Some-get.objects.now c.in-Some.span.start c.in-Some.span.end facts.2 ∙ ap (λ os. part_of os c.in-Some.span) c.self.view_is)
