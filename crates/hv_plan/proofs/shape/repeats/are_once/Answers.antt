use Rattle.std.proofs.Common.{◌≡◌, ◌<◌, ◌∙◌, Bool, true, false, List, ℕ, sym, subst, arith, length, length-set, take, get_or, slice_index}
use Rattle.std.specs.List.{slice_set}
use Rattle.std.proofs.lemmas.List.{take_more}
use Rattle.hv_plan.specs.inside.Shaping.{is_marked, IsMeeting}
use Rattle.hv_plan.proofs.ShapeWalks.{meets}
use Rattle.hv_plan.proofs.shape.repeats.are_once.Goals as goal

pub loop-place-preserved : goal.loop-place-preserved
loop-place-preserved c =
    let places = c.args.places.now in
    let marks = c.loop-place.is_met.items in
    let i = c.loop-place.place-index in
    let p = slice_index places i in
    let below : p < c.args.count = c.requires i c.loop-place-test.true in
    let within : p < length marks = omega (arith, below, c.loop-place.invariant.0) in
    let unmarked : is_marked marks p ≡ false = sym (subst (λ (d : Bool). d ≡ get_or marks p d) c.if-index.false c.index.ensures) in
    let P : List ℕ → Type 0 = λ ps. IsMeeting ps (slice_set marks p true) in (
      length-set marks p true ∙ c.loop-place.invariant.0,
      subst P (sym (take_more places i 0 c.loop-place-test.true)) (meets (take i places) marks p within unmarked c.loop-place.invariant.1),
    )
