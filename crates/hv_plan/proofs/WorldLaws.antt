-- A plan whose lines fit a world, each by itself and with its children.
use Rattle.std.proofs.Common.{◌≡◌, ℕ, ◌<◌, inl, inr, List, map, Some, refl, sym, subst, arith}
use Rattle.std.specs.Prelude.{Contains}
use Rattle.std.specs.List.{AllZip}
use Rattle.std.proofs.lemmas.List.Elements.{Contains-append_cases}
use Rattle.hv_lists.proofs.Contained.{map_mem}
use Rattle.hv_world.specs.Worlds.{World}
use Rattle.hv_world.specs.Bindings.{GroundAction}
use Rattle.hv_plan.specs.Values as text
use Rattle.hv_plan.specs.Values.{Plan}
use Rattle.hv_plan.specs.Shapes.{parents, Parent, FormTree}
use Rattle.hv_plan.specs.Causes.{number, Qualifies, repeated_id, unknown_child, child_before, child_twice, unreached, unknown_task, unknown_method, unknown_object, argument_count, argument_type, not_primitive, not_abstract, other_task, child_count, child_names, IsCause}
use Rattle.hv_plan.specs.inside.LineFaults.{action_entry, line_entry, entries, IsAtFault, IsEarliest, FaultIn}
use Rattle.hv_plan.specs.inside.ChildFaults.{IsChildFault, ChildFaultIn}
use Rattle.hv_plan.specs.inside.FitViews.{IsDecomposed}
use Rattle.hv_plan.specs.PlanTrees.{IsActionOf}
use Rattle.hv_plan.specs.inside.FitViews.{Decomposed}
use Rattle.hv_plan.specs.declared.cause.CauseKind.{CauseKind}
use Rattle.hv_plan.specs.declared.cause.CauseKind.TheVariants as kinds
use Rattle.hv_plan.specs.declared.cause.Cause.{Cause}
use Rattle.hv_plan.proofs.FitLemmas.{partner, action_has_no_fault, decomposed_has_no_fault}
use Rattle.hv_plan.proofs.FormLaws.{form_has_no_cause, qualifies_by}

-- a line that qualifies for a cause past 61 does so by its children
by_children : {w : World} {p : Plan} (k : CauseKind) (l : ℕ) → Qualifies w p k l → 61 < number k → ChildFaultIn w p (parents p) k l
by_children _ _ (repeated_id a b x y same lt) above = absurd (omega arith)
by_children _ _ (unknown_child q i x y none) above = absurd (omega arith)
by_children _ _ (child_before q r i x y lt u v) above = absurd (omega arith)
by_children _ _ (child_twice q x twice) above = absurd (omega arith)
by_children _ _ (unreached a x none) above = absurd (omega arith)
by_children _ _ (unknown_task a x none) above = absurd (omega arith)
by_children _ _ (unknown_method d x none) above = absurd (omega arith)
by_children _ _ (unknown_object a n x y none) above = absurd (omega arith)
by_children _ _ (argument_count a t x named differ) above = absurd (omega arith)
by_children _ _ (argument_type a t os x named found untyped) above = absurd (omega arith)
by_children _ _ (not_primitive a t x named) above = absurd (omega arith)
by_children _ _ (not_abstract d a x named) above = absurd (omega arith)
by_children _ _ (other_task d t m x named of other) above = absurd (omega arith)
by_children _ _ (child_count q m x of differ) above = (q, x, (m, of, differ), refl)
by_children _ _ (child_names q m names n x of named differ) above = (q, x, (m, names, n, of, named, differ), refl)

module _ (w : World) (p : Plan) (form : FormTree p) (gs : List GroundAction) (xs : List Decomposed)
    (actions : AllZip (IsActionOf w) p.actions gs) (lines : AllZip (IsDecomposed w) p.decompositions xs) where
  -- no line is at fault by itself
  pub none_at_fault : (k : CauseKind) (l : ℕ) → FaultIn w (entries p) k l → ⊥
  none_at_fault k l (e, x, f, is) =
      elim (Contains-append_cases (map action_entry p.actions) (map line_entry p.decompositions) e x) [ inl y ↦ of_action (map_mem action_entry p.actions e y) | inr y ↦ of_line (map_mem line_entry p.decompositions e y) ]
    where
      of_action : (a : text.Action) × Contains p.actions a × (action_entry a ≡ e) → ⊥
      of_action (a, y, same) =
          let (g, says) = partner (IsActionOf w) p.actions gs a actions y in
          action_has_no_fault w a g.action g.objects says k (subst (λ z. IsAtFault w z k) (sym same) f)

      of_line : (d : text.Decomposition) × Contains p.decompositions d × (line_entry d ≡ e) → ⊥
      of_line (d, y, same) =
          let (z, says) = partner (IsDecomposed w) p.decompositions xs d lines y in
          decomposed_has_no_fault w d z says k (subst (λ z. IsAtFault w z k) (sym same) f)

  -- the cause that is reported of those for which children are not as subtasks
  pub child_fault_is_cause : (c : Cause) → IsEarliest (ChildFaultIn w p (parents p)) (Some c) → IsCause w p c
  child_fault_is_cause c ((q, x, f, is), first) =
      record {
        qualifies = subst (λ n. Qualifies w p c.kind n) is (child_qualifies c.kind q x f);
        smallest = λ k l lt r. elim (first k l (of_children k l r)) [ inl less ↦ omega arith | inr same ↦ (let e : number c.kind ≡ number k = same.0 in omega arith) ];
        first = λ l r. elim (first c.kind l (of_children c.kind l r)) [ inl less ↦ absurd (omega arith) | inr same ↦ same.1 ];
      }
    where
      child_qualifies : (k : CauseKind) (q : Parent) → Contains (parents p) q → IsChildFault w p q k → Qualifies w p k q.line
      child_qualifies kinds.RepeatedId q x f = absurd f
      child_qualifies kinds.UnknownChild q x f = absurd f
      child_qualifies kinds.TwoParents q x f = absurd f
      child_qualifies kinds.Unreached q x f = absurd f
      child_qualifies kinds.UnknownTask q x f = absurd f
      child_qualifies kinds.UnknownMethod q x f = absurd f
      child_qualifies kinds.UnknownObject q x f = absurd f
      child_qualifies kinds.ArgumentCount q x f = absurd f
      child_qualifies kinds.ArgumentType q x f = absurd f
      child_qualifies kinds.NotPrimitive q x f = absurd f
      child_qualifies kinds.NotAbstract q x f = absurd f
      child_qualifies kinds.OtherTask q x f = absurd f
      child_qualifies kinds.ChildCount q x (m, is, differ) = child_count q m x is differ
      child_qualifies kinds.ChildNames q x (m, names, n, is, named, differ) = child_names q m names n x is named differ

      of_children : (k : CauseKind) (l : ℕ) → Qualifies w p k l → ChildFaultIn w p (parents p) k l
      of_children k l r = elim (qualifies_by w p k l r) [ inl below ↦ absurd (form_has_no_cause w p form k l r below) | inr other ↦ elim other [ inl fault ↦ absurd (none_at_fault k l fault) | inr more ↦ by_children k l r more ] ]
