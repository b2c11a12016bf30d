use Rattle.std.proofs.Common.{◌≡◌, ◌∷◌, ◌++◌, [], ◌⊎◌, inl, inr, ℕ, List, ap, ◌∙◌, sym, subst, Contains}
use Rattle.std.proofs.lemmas.List.{map-append}
use Rattle.std.proofs.lemmas.List.Elements.{Contains-push, Contains-append_left}
use Rattle.hv_lists.proofs.Contained.{none_in_empty, contains_cases}
use Rattle.hv_world.specs.declared.id.TypeId.{TypeId}
use Rattle.hv_world.specs.inside.TypeLists.{type_numbers}
use Rattle.hv_world.proofs.BaseSteps.{fewer_wait}
use Rattle.hv_world.proofs.bases.Graph.spread.Goals as goal

-- the last in front of the others
turned_front : (ts : List ℕ) (x t : ℕ) → Contains (x ∷ ts) t → Contains (ts ++ x ∷ []) t
turned_front ts x t m = by (contains_cases x ts t m)
  where
    by : (t ≡ x) ⊎ Contains ts t → Contains (ts ++ x ∷ []) t
    by (inl e) = subst (λ k. Contains (ts ++ x ∷ []) k) (sym e) (Contains-push ts x)
    by (inr k) = Contains-append_left ts (x ∷ []) t k

pub returns-in-None : goal.returns-in-None
returns-in-None c =
    λ w graph wait.
    fewer_wait w c.args.self.now (type_numbers c.loop.bases) c.args.base.0 (type_numbers c.loop.waiting.items) [] (λ t m. absurd (none_in_empty t m)) (c.loop.invariant w graph wait)

pub loop-preserved : goal.loop-preserved
loop-preserved c =
    λ w graph wait.
    let rest = c.pop.new.self.items in
    let at = c.in-Some.at in
    let whole : type_numbers c.loop.waiting.items ≡ type_numbers rest ++ at.0 ∷ [] = ap type_numbers c.in-Some.ensures.items ∙ map-append (λ (t : TypeId). t.0) rest (at ∷ []) in
    let front = fewer_wait w c.args.self.now (type_numbers c.loop.bases) c.args.base.0 (type_numbers c.loop.waiting.items) (at.0 ∷ type_numbers rest)
    (λ t m. subst (λ ts. Contains ts t) (sym whole) (turned_front (type_numbers rest) at.0 t m)) (c.loop.invariant w graph wait) in
    c.in_ok-take_in-in-Some.ensures w graph front

pub returns : goal.returns
returns c =
    λ w graph wait.
    fewer_wait w c.args.self.now (type_numbers c.loop.bases) c.args.base.0 (type_numbers c.loop.waiting.items) [] (λ t m. absurd (none_in_empty t m)) (c.loop.invariant w graph wait)
