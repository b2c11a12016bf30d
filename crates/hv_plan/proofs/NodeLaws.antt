-- Each node of a plan's tree but the last is that of a decomposition line, and so a child that is a node has a task.
use Rattle.std.proofs.Common.{◌≡◌, ◌+◌, ◌<◌, inl, inr, ℕ, ◌∷◌, Option, Some, None, slice_get, refl, ap, ◌∙◌, subst, arith, length, Contains}
use Rattle.std.specs.Prelude.{MatchOption, IsSome, is_some}
use Rattle.std.proofs.lemmas.Option.{slice_get-get_or, slice_get_within}
use Rattle.hv_lists.proofs.Contained.{contains_at}
use Rattle.hv_lists.proofs.Pairs.{zip_back}
use Rattle.hv_world.specs.Worlds.{World}
use Rattle.hv_plan.specs.Values.{Decomposition, Plan}
use Rattle.hv_plan.specs.Trees.{Item, Task}
use Rattle.hv_plan.specs.PlanTrees.{Node, PlanTree, children_of, children_at, IsNodeOf, NodeIs, IsTreeOf}
use Rattle.hv_plan.proofs.FitLemmas.{contains_cons}

module _ (w : World) (p : Plan) (t : PlanTree) (is : IsTreeOf w p t) where
  pub line_of : (v : ℕ) → v + 1 < length t.nodes → (d : Decomposition) × Contains p.decompositions d × NodeIs t (IsNodeOf w t d) v
  line_of v lt =
      let among : Contains (is.root ∷ is.lines) v = subst (λ xs. Contains xs v) is.order (is.every v (omega (arith, lt))) in
      elim (contains_cons is.root is.lines v among) [ inl e ↦ absurd (omega (arith, e, lt, is.last)) | inr h ↦ here h ]
    where
      here : Contains is.lines v → (d : Decomposition) × Contains p.decompositions d × NodeIs t (IsNodeOf w t d) v
      here h =
          let at : slice_get is.lines h.0 ≡ Some v = slice_get-get_or is.lines h.0 v h.1 ∙ ap Some h.2 in
          let (d, e, node) = zip_back (λ d v. NodeIs t (IsNodeOf w t d) v) p.decompositions is.lines h.0 v is.line_nodes at in
          (d, contains_at p.decompositions h.0 d e, node)

  -- a node with a child is one
  has_node : (v : ℕ) (x : Item) → Contains (children_at t.nodes v) x → v < length t.nodes
  has_node v x h = by (slice_get t.nodes v) refl h
    where
      by : (o : Option Node) → slice_get t.nodes v ≡ o → Contains (children_of o) x → v < length t.nodes
      by None e h = let lt : h.0 < 0 = h.1 in absurd (omega (arith, lt))
      by (Some n) e h = slice_get_within t.nodes v n e

  pub task_of_child : (v u : ℕ) → Contains (children_at t.nodes v) (Task u) → NodeIs t (λ n. IsSome n.task) u
  task_of_child v u h =
      let below : u < v = is.shape.tree.lower v u h in
      let within : v < length t.nodes = has_node v (Task u) h in
      let (d, in_plan, node) = line_of u (omega (arith, below, within)) in
      by (slice_get t.nodes u) d node
    where
      by : (o : Option Node) (d : Decomposition) → MatchOption o ⊥ (IsNodeOf w t d) → MatchOption o ⊥ (λ n. IsSome n.task)
      by None d h = absurd h
      by (Some n) d h = ap is_some h.task
