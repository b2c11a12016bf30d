use Rattle.std.proofs.Common.{◌≡◌, ◌<◌, ◌++◌, ℕ, Bool, true, false, not, [], ◌∷◌, length, drop, Option, Some, None, is_some, option_map, sym, ap, ◌∙◌, subst, arith}
use Rattle.std.proofs.lemmas.List.{length-map, take_at}
use Rattle.hv_world.specs.declared.id.TypeId.{TypeId}
use Rattle.hv_world.specs.inside.TypeLists.{type_numbers}
use Rattle.hv_world.specs.inside.Bases.{AreBased, AreWaiting, sole_in}
use Rattle.hv_world.proofs.BaseSteps.{all_own, begins_waiting}
use Rattle.hv_world.proofs.bases.bases_in.Goals.{then-is_none+in_ok-push+in_ok-spread, else-is_none}
use Rattle.hv_world.proofs.bases.bases_in.Goals as goal

tells_none : (o : Option TypeId) (r : Option ℕ) (b : Bool) → is_some o ≡ not b → b ≡ true → option_map (λ t. t.0) o ≡ r → r ≡ None
tells_none None r b e t m = sym m
tells_none (Some x) r b e t m = absurd (let clash : true ≡ false = e ∙ ap not t in cc)

pub loop-number-init : goal.loop-number-init
loop-number-init c =
    λ w graph size.
    let above = c.args.graph.now.above.items in
    let bases = c.in_ok-bases.bases.items in
    let types = length-map above (λ v. type_numbers v.items) in
    let count = c.len-types.ensures in
    let as_many = c.in_ok-bases.ensures.0 in
    let long = length-map bases (λ (t : TypeId). t.0) in
    all_own w (sole_in c.args.graph.now) (type_numbers bases) (omega (arith, long, as_many, count, types, size)) (λ t lt. c.in_ok-bases.ensures.1 t (omega (arith, lt, size, types, count)))

pub loop-number-preserved : goal.loop-number-preserved
loop-number-preserved c =
    let g = c.args.graph.now in
    let b = c.loop-number.number in
    elim c.if-is_none.branch [
      | then-is_none+in_ok-push+in_ok-spread w ↦ λ v graph size.
          let none = tells_none c.sole.result (sole_in g b) c.is_none.result c.is_none.ensures w.if-is_none.true c.sole.ensures in
          let waits : type_numbers w.push.new.self.items ≡ b ∷ [] = ap type_numbers (w.in_ok-push.ensures.items ∙ ap (λ ts. ts ++ record { 0 = b } ∷ []) w.new-waiting.ensures.items) in
          let long = length-map g.above.items (λ u. type_numbers u.items) in
          let lt : b < v.types = omega (arith, c.loop-number-test.true, c.len-types.ensures, long, size) in
          let some : 0 < b = omega (arith, c.loop-number.auto.number) in
          let begun = begins_waiting v g (type_numbers c.loop-number.bases.items) b (c.loop-number.invariant v graph size) lt some none in
          let spread = w.in_ok-spread.ensures v graph
          (subst (λ ts. AreWaiting v g (type_numbers ts) b (type_numbers w.push.new.self.items)) (sym w.deref_mut.ensures.value)
          (subst (λ ts. AreWaiting v g (type_numbers c.loop-number.bases.items) b ts) (sym waits) begun)) in
          let kept : length w.spread.new.bases ≡ c.loop-number.bases.len = omega (arith, w.spread.auto.bases, w.deref_mut.ensures.len) in
          let whole = take_at w.spread.new.bases (drop (length w.spread.new.bases) c.loop-number.bases.items) c.loop-number.bases.len kept in
          subst (λ u. AreBased v (sole_in g) (type_numbers u.items)) (sym w.bases-is) (subst (λ ts. AreBased v (sole_in g) (type_numbers ts)) (sym whole) spread.based)
      | else-is_none w ↦ λ v graph size. subst (λ u. AreBased v (sole_in g) (type_numbers u.items)) (sym w.bases-is) (c.loop-number.invariant v graph size)
    ]
