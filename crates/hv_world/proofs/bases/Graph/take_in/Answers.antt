use Rattle.std.proofs.Common.{◌≡◌, ◌∷◌, ◌++◌, [], ℕ, set, ap, ◌∙◌, sym, subst, get_or}
use Rattle.std.proofs.lemmas.List.{map-set, map-append}
use Rattle.hv_lists.proofs.Contained.{in_tail}
use Rattle.hv_world.specs.declared.id.TypeId.{TypeId}
use Rattle.hv_world.specs.inside.TypeLists.{type_numbers}
use Rattle.hv_world.specs.inside.Bases.{AreWaiting}
use Rattle.hv_world.proofs.BaseSteps.{one_taken, fewer_wait}
use Rattle.hv_world.proofs.bases.Graph.take_in.Goals.{then-is_only_above+in_ok-push, else-is_only_above}
use Rattle.hv_world.proofs.bases.Graph.take_in.Goals as goal

pub loop-above-preserved : goal.loop-above-preserved
loop-above-preserved c =
    let g = c.args.self.now in
    let number : TypeId → ℕ = λ t. t.0 in
    let b = c.args.base.0 in
    let at = c.args.at.0 in
    let old = c.loop-above.bases in
    let queue = c.loop-above.waiting.items in
    let p : TypeId = get_or c.above-above-items.result.now c.loop-above.above-index (record { 0 = 0 }) in
    elim c.if-is_only_above.branch [
      | then-is_only_above+in_ok-push w ↦ λ v graph wait.
          let told = c.is_only_above.ensures w.if-is_only_above.true in
          let next = one_taken v g graph (type_numbers old) b at p.0 (type_numbers queue) (c.loop-above.invariant v graph wait) told.2 told.1 told.0 in
          let bases_are : type_numbers c.if-is_only_above.bases ≡ set (type_numbers old) p.0 b = ap type_numbers w.bases-is ∙ map-set number old p.0 c.args.base in
          let queue_is : type_numbers c.if-is_only_above.waiting.items ≡ type_numbers queue ++ p.0 ∷ [] =
          ap (λ u. type_numbers u.items) w.waiting-is ∙ ap type_numbers w.in_ok-push.ensures.items ∙ map-append number queue (p ∷ []) in
          subst (λ ts. AreWaiting v g ts b (at ∷ type_numbers c.if-is_only_above.waiting.items)) (sym bases_are)
          (subst (λ ts. AreWaiting v g (set (type_numbers old) p.0 b) b (at ∷ ts)) (sym queue_is) next)
      | else-is_only_above w ↦ λ v graph wait.
          subst (λ ts. AreWaiting v g (type_numbers ts) b (at ∷ type_numbers c.if-is_only_above.waiting.items)) (sym w.bases-is)
          (subst (λ u. AreWaiting v g (type_numbers old) b (at ∷ type_numbers u.items)) (sym w.waiting-is) (c.loop-above.invariant v graph wait))
    ]

pub returns : goal.returns
returns c =
    λ w graph wait.
    fewer_wait w c.args.self.now (type_numbers c.loop-above.bases) c.args.base.0 (c.args.at.0 ∷ type_numbers c.loop-above.waiting.items) (type_numbers c.loop-above.waiting.items)
    (in_tail c.args.at.0 (type_numbers c.loop-above.waiting.items)) (c.loop-above.invariant w graph wait)
