use Rattle.std.proofs.Common.{◌<◌, ◌∷◌, [], ℕ, List, refl, sym, ◌∙◌, subst, arith, length, take, slice_index}
use Rattle.std.proofs.lemmas.List.{take_more}
use Rattle.hv_lists.proofs.Places.{contained_at}
use Rattle.hv_plan.specs.inside.Shaping.{Grows}
use Rattle.hv_plan.proofs.ShapeWalks.{grows_more}
use Rattle.hv_plan.proofs.shape.walk.meet_all.Goals as goal

pub meet-requires-clause-within : goal.meet-requires-clause-within
meet-requires-clause-within c =
    let places = c.args.places.now in
    let i = c.loop-place.place-index in
    let w : slice_index places i < length c.args.walk.now.is_met.items = c.requires.within (slice_index places i) (contained_at places i (slice_index places i) c.loop-place-test.true refl) in
    omega (arith, w, c.loop-place.invariant.1)

pub loop-place-preserved : goal.loop-place-preserved
loop-place-preserved c =
    let places = c.args.places.now in
    let i = c.loop-place.place-index in
    let P : List ℕ → Type 0 = λ ps. Grows c.args.walk.now.met.items ps c.meet.new.walk.met.items in (
      c.in_ok-meet.ensures.walk,
      c.in_ok-meet.ensures.count ∙ c.loop-place.invariant.1,
      subst P (sym (take_more places i 0 c.loop-place-test.true))
          (grows_more c.args.walk.now.met.items (take i places) c.loop-place.walk.met.items (slice_index places i ∷ []) c.meet.new.walk.met.items c.loop-place.invariant.2
          c.in_ok-meet.ensures.grows),
    )
