use Rattle.std.proofs.Common.{◌≡◌, ◌<◌, ◌+◌, ◌⊎◌, inl, inr, ℕ, Bool, true, List, length, map, take, set, slice_index_or, get_or, sym, ap, ◌∙◌, subst, arith, Contains}
use Rattle.std.proofs.lemmas.Bool.{cases_eq}
use Rattle.std.proofs.lemmas.List.{length-set, get_or-set_same, get_or-set_other, take_all, map_more}
use Rattle.std.proofs.lemmas.List.Elements.{Contains-push_cases}
use Rattle.hv_world.specs.declared.id.ObjectId.{ObjectId}
use Rattle.hv_world.specs.declared.id.TypeId.{TypeId}
use Rattle.hv_world.specs.inside.Bases.{AreMarked}
use Rattle.hv_world.proofs.bases.marks.Goals as goal

-- what is marked stays so
stays : (marks : List Bool) (x t : ℕ) → x < length marks → (slice_index_or marks t true ≡ true) ⊎ (t ≡ x) → slice_index_or (set marks x true) t true ≡ true
stays marks x t lt (inr e) = ap (λ k. slice_index_or (set marks x true) k true) e ∙ get_or-set_same marks x true true lt
stays marks x t lt (inl was) = by (cases_eq t x)
  where
    by : (t ≡ x) ⊎ (t ≡ x → ⊥) → slice_index_or (set marks x true) t true ≡ true
    by (inl e) = ap (λ k. slice_index_or (set marks x true) k true) e ∙ get_or-set_same marks x true true lt
    by (inr ne) = get_or-set_other marks x t true true ne ∙ was

pub loop-of-preserved : goal.loop-of-preserved
loop-of-preserved c =
    let pairs = c.args.pairs.now in
    let marks = c.loop-of.marks.items in
    let i = c.loop-of.of-index in
    let d : ObjectId × TypeId = (record { 0 = 0 }, record { 0 = 0 }) in
    let x = (get_or pairs i d).1.0 in
    let numbers : ObjectId × TypeId → ℕ × ℕ = λ p. (p.0.0, p.1.0) in
    let lt : x < length marks = omega (arith, c.requires.pairs i d c.loop-of-test.true, c.loop-of.invariant.0) in
    let declared : AreMarked (map numbers (take (i + 1) pairs)) (set marks x true) =
    λ o t m.
    stays marks x t lt (elim (Contains-push_cases (map numbers (take i pairs)) ((get_or pairs i d).0.0, x) (o, t) (subst (λ ps. Contains ps (o, t)) (map_more numbers pairs i d c.loop-of-test.true) m)) [
      | inl m ↦ inl (c.loop-of.invariant.2 o t m)
      | inr e ↦ inr (sym (ap (λ (p : ℕ × ℕ). p.1) e))
    ]) in
    (length-set marks x true ∙ c.loop-of.invariant.0, stays marks x 0 lt (inl c.loop-of.invariant.1), declared)

pub returns-clause-declared : goal.returns-clause-declared
returns-clause-declared c =
    let numbers : ObjectId × TypeId → ℕ × ℕ = λ p. (p.0.0, p.1.0) in
    subst (λ ps. AreMarked (map numbers ps) c.loop-of.marks.items) (take_all c.loop-of.of-index c.args.pairs.now c.loop-of-test.false) c.loop-of.invariant.2
