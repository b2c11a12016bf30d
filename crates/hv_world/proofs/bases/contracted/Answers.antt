use Rattle.std.proofs.Common.{◌≡◌, ◌<◌, ◌++◌, ◌∷◌, [], ℕ, length, map, take, get_or, slice_index, true, false, eqb, sym, ap, ◌∙◌, subst}
use Rattle.std.proofs.lemmas.Bool.{eqb-true, eq-eqb}
use Rattle.std.proofs.lemmas.List.{take_all, map_more, map-append, get_or-map}
use Rattle.hv_world.specs.declared.id.TypeId.{TypeId}
use Rattle.hv_world.specs.inside.TypeLists.{type_numbers}
use Rattle.hv_world.specs.inside.Bases.{AreContracted}
use Rattle.hv_world.proofs.BaseSteps.{pair_contracted, pair_dropped}
use Rattle.hv_world.proofs.bases.contracted.Goals.{then-eq+in_ok-push, else-eq}
use Rattle.hv_world.proofs.bases.contracted.Goals as goal

pub loop-child-preserved : goal.loop-child-preserved
loop-child-preserved c =
    let numbers : TypeId × TypeId → ℕ × ℕ = λ p. (p.0.0, p.1.0) in
    let parents = c.args.parents.now in
    let i = c.loop-child.child-index in
    let d : TypeId = record { 0 = 0 } in
    let pair = get_or parents i (d, d) in
    let bases = type_numbers c.args.bases.now in
    let bounds = c.requires i (d, d) c.loop-child-test.true in
    let base_at : (k : ℕ) → k < length c.args.bases.now → slice_index bases k ≡ (get_or c.args.bases.now k d).0 = λ k lt. get_or-map (λ (t : TypeId). t.0) c.args.bases.now k d 0 lt in
    let more = map_more numbers parents i (d, d) c.loop-child-test.true in
    let old = map numbers c.loop-child.pairs.items in
    elim c.if-eq.branch [
      | then-eq+in_ok-push w ↦
          let own : slice_index bases pair.1.0 ≡ pair.1.0 = base_at pair.1.0 bounds.1 ∙ eqb-true (get_or c.args.bases.now pair.1.0 d).0 pair.1.0 (sym c.eq.ensures ∙ w.if-eq.true) in
          let grown : map numbers c.if-eq.pairs.items ≡ old ++ (slice_index bases pair.0.0, pair.1.0) ∷ [] =
          ap (λ v. map numbers v.items) w.pairs-is ∙ ap (map numbers) w.in_ok-push.ensures.items
          ∙ map-append numbers c.loop-child.pairs.items ((get_or c.args.bases.now pair.0.0 d, pair.1) ∷ [])
          ∙ ap (λ (k : ℕ). old ++ (k, pair.1.0) ∷ []) (sym (base_at pair.0.0 bounds.0)) in
          subst (λ ps. AreContracted ps bases (map numbers c.if-eq.pairs.items)) (sym more)
          (subst (λ qs. AreContracted (map numbers (take i parents) ++ (pair.0.0, pair.1.0) ∷ []) bases qs) (sym grown)
          (pair_contracted (map numbers (take i parents)) bases old c.loop-child.invariant pair.0.0 pair.1.0 own))
      | else-eq w ↦
          let other : slice_index bases pair.1.0 ≡ pair.1.0 → ⊥ =
          λ own.
          let same : (get_or c.args.bases.now pair.1.0 d).0 ≡ pair.1.0 = sym (base_at pair.1.0 bounds.1) ∙ own in
          let test : eqb (get_or c.args.bases.now pair.1.0 d).0 pair.1.0 ≡ true = eq-eqb (get_or c.args.bases.now pair.1.0 d).0 pair.1.0 same in
          let clash : true ≡ false = sym test ∙ sym c.eq.ensures ∙ w.if-eq.false in
          cc in
          subst (λ ps. AreContracted ps bases (map numbers c.if-eq.pairs.items)) (sym more)
          (subst (λ v. AreContracted (map numbers (take i parents) ++ (pair.0.0, pair.1.0) ∷ []) bases (map numbers v.items)) (sym w.pairs-is)
          (pair_dropped (map numbers (take i parents)) bases old c.loop-child.invariant pair.0.0 pair.1.0 other))
    ]

pub returns : goal.returns
returns c =
    let numbers : TypeId × TypeId → ℕ × ℕ = λ p. (p.0.0, p.1.0) in
    subst (λ ps. AreContracted (map numbers ps) (type_numbers c.args.bases.now) (map numbers c.loop-child.pairs.items)) (take_all c.loop-child.child-index c.args.parents.now c.loop-child-test.false) c.loop-child.invariant
