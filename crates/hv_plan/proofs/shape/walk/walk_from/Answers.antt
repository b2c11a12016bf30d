use Rattle.std.proofs.Common.{◌≡◌, ◌<◌, ◌≤◌, ℕ, List, ap, subst, ◌∙◌, arith, length, slice_index, Contains}
use Rattle.std.proofs.lemmas.Grind.{get_or_default_zero}
use Rattle.hv_plan.specs.inside.Shaping.{kids, Grows}
use Rattle.hv_plan.proofs.ShapeWalks.{met_fits, walk_starts, walk_goes, walk_ends}
use Rattle.hv_plan.proofs.shape.walk.walk_from.Goals as goal

pub meet_all-requires-clause-within : goal.meet_all-requires-clause-within
meet_all-requires-clause-within c = λ x h.
    let w : x < c.args.count = c.requires.root x h in
    omega (arith, w, c.in_ok-vec.ensures.len, c.in_ok-vec.field-0.ok)

pub met-init : goal.met-init
met-init c =
    let root = c.args.root.now in
    let below = kids c.args.lists.now c.args.actions in
    let met = c.meet_all.new.walk.met.items in
    let marks = c.meet_all.new.walk.is_met.items in
    let P : List ℕ → Type 0 = λ old. Grows old root met in
    let count : length marks ≡ c.args.count = omega (arith, c.in_ok-meet_all.ensures.count, c.in_ok-vec.ensures.len, c.in_ok-vec.field-0.ok) in
    let fits : length met ≤ length marks = met_fits met marks c.in_ok-meet_all.ensures.walk in
    (walk_starts root below met marks (subst P c.in_ok-with_capacity.ensures.items c.in_ok-meet_all.ensures.grows) c.in_ok-meet_all.ensures.walk, count, omega arith, omega (arith, count, fits))

pub meet_all-requires-in-met-clause-within : goal.meet_all-requires-in-met-clause-within
meet_all-requires-in-met-clause-within c = λ x h.
    let P : List ℕ → Type 0 = λ xs. Contains xs x in
    let w : x < c.args.count = c.requires.lists _ x (subst P c.kids.ensures h) in
    omega (arith, w, c.met.invariant.1)

pub met-preserved : goal.met-preserved
met-preserved c =
    let root = c.args.root.now in
    let below = kids c.args.lists.now c.args.actions in
    let old = c.met.walk.met.items in
    let met = c.meet_all-in-met.new.walk.met.items in
    let marks = c.meet_all-in-met.new.walk.is_met.items in
    let lt : c.met.at < length old = omega (arith, c.met-test.true, c.len.ensures, c.met.walk.met.ok) in
    let place : c.index-place.result.now ≡ slice_index old c.met.at = c.index-place.ensures ∙ get_or_default_zero old c.met.at _ lt in
    let P : List ℕ → Type 0 = λ ks. Grows old ks met in
    let count : length marks ≡ c.args.count = omega (arith, c.in_ok-meet_all-2.ensures.count, c.met.invariant.1) in
    let fits : length met ≤ length marks = met_fits met marks c.in_ok-meet_all-2.ensures.walk in
    let grows : Grows old (below (slice_index old c.met.at)) met = subst P (c.kids.ensures ∙ ap below place) c.in_ok-meet_all-2.ensures.grows in
    let longer : length old ≤ length met = grows.longer in
    (walk_goes root below c.met.at old met c.met.walk.is_met.items marks lt c.met.invariant.0 grows c.in_ok-meet_all-2.ensures.walk, count, omega (arith, lt, longer), omega (arith, count, fits))

pub returns-clause-walk : goal.returns-clause-walk
returns-clause-walk c =
    walk_ends c.args.root.now (kids c.args.lists.now c.args.actions) c.met.at c.met.walk.met.items c.met.walk.is_met.items
    (omega (arith, c.met-test.false, c.len.ensures, c.met.walk.met.ok, c.met.invariant.2)) c.met.invariant.0
