-- The lines of a tree of a world: each child has an id, and the nodes in their order are all nodes.
use Rattle.std.proofs.Common.{◌≡◌, ◌≢◌, ℕ, zero, suc, ◌<◌, ◌≤◌, ◌⊎◌, inl, inr, List, Option, Some, None, length, slice_get, refl, sym, ap, ◌∙◌, arith, Contains, MatchOption}
use Rattle.std.specs.List.{AllZip}
use Rattle.std.proofs.lemmas.Option.{MatchOption-at_some, slice_get-get_or, slice_get_within}
use Rattle.hv_lists.proofs.Pairs.{zip_back}
use Rattle.hv_world.specs.Worlds.{World}
use Rattle.hv_plan.specs.Values.{Decomposition}
use Rattle.hv_plan.specs.Trees.{Item, Act, Task, Pre, IsTree, AtOrBelow, Reached}
use Rattle.hv_plan.specs.PlanTrees.{Node, PlanTree, IsNodeOf, IsRootOf, NodeIs, IsTreeIn, StandsFor, root_number, tree_of}
use Rattle.hv_plan.proofs.Cited.{line_of}
use Rattle.hv_order.specs.inside.Writings.{HasId}
use Rattle.hv_order.proofs.Ancestry.{act_alone, pre_alone, number_at}
use Rattle.hv_order.proofs.Members.{act_not_task, pre_not_task}

module _ (w : World) (t : PlanTree) (is : IsTreeIn w t) where
  root_is : root_number t ≡ is.is_tree.root
  root_is = omega (arith, is.is_tree.last)

  pub as_many_in_order : length t.order ≡ length t.nodes
  as_many_in_order =
      let e : length t.order ≡ suc (length is.is_tree.lines) = ap length is.is_tree.order in
      omega (arith, e, is.is_tree.as_many, is.is_tree.last)

  pub within_order : (k v : ℕ) → slice_get t.order k ≡ Some v → v < length t.nodes
  within_order zero v e =
      let at = rw is.is_tree.order at e in
      let same : is.is_tree.root ≡ v = cc in
      omega (arith, same, is.is_tree.last)
  within_order (suc k) v e =
      let at : slice_get is.is_tree.lines k ≡ Some v = rw is.is_tree.order at e in
      let (d, f, node) = zip_back (λ d v. NodeIs t (IsNodeOf w t d) v) is.plan.decompositions is.is_tree.lines k v is.is_tree.line_nodes at in
      there (slice_get t.nodes v) refl d node
    where
      there : (o : Option Node) → slice_get t.nodes v ≡ o → (d : Decomposition) → MatchOption o ⊥ (IsNodeOf w t d) → v < length t.nodes
      there None g d node = absurd node
      there (Some n) g d node = slice_get_within t.nodes v n g

  -- each node stands somewhere in their order
  pub place_of : (v : ℕ) → v < length t.nodes → (k : ℕ) × (slice_get t.order k ≡ Some v)
  place_of v lt =
      let c : Contains t.order v = is.is_tree.every v lt in
      (c.0, slice_get-get_or t.order c.0 v c.1 ∙ ap Some c.2)

  line_id : (d : Decomposition) (o : Option Node) → MatchOption o ⊥ (IsNodeOf w t d) → MatchOption o ⊥ (λ n. n.id ≡ Some d.id)
  line_id d None node = absurd node
  line_id d (Some n) node = node.id

  -- a line behind the root line begins with an id
  pub line_has_id : (k v : ℕ) → 1 ≤ k → slice_get t.order k ≡ Some v → HasId t (Task v)
  line_has_id zero v h e = absurd (omega arith)
  line_has_id (suc k) v h e =
      let at : slice_get is.is_tree.lines k ≡ Some v = rw is.is_tree.order at e in
      let (d, f, node) = zip_back (λ d v. NodeIs t (IsNodeOf w t d) v) is.plan.decompositions is.is_tree.lines k v is.is_tree.line_nodes at in
      (d.id, line_id d (slice_get t.nodes v) node)

  id_among : (ids : List ℕ) (ys : List Item) (x : ℕ) (y : Item) → AllZip (StandsFor t) ids ys → slice_get ys x ≡ Some y → HasId t y
  id_among ids ys x y zip e = let (i, f, stands) = zip_back (StandsFor t) ids ys x y zip e in (i, stands)

  -- and so does that of each child
  pub child_has_id : (v : ℕ) (n : Node) (x : ℕ) (y : Item) → slice_get t.nodes v ≡ Some n → slice_get n.children x ≡ Some y → HasId t y
  child_has_id v n x y e f = by_side (root_or_line v is.is_tree.root)
    where
      root_or_line : (v root : ℕ) → (v ≡ root) ⊎ (v ≢ root)
      root_or_line v root = grind arith

      by_side : (v ≡ is.is_tree.root) ⊎ (v ≢ is.is_tree.root) → HasId t y
      by_side (inl same) =
          let at : slice_get t.nodes is.is_tree.root ≡ Some n = ap (slice_get t.nodes) (sym same) ∙ e in
          let root : IsRootOf t is.plan.root n = MatchOption-at_some ⊥ (IsRootOf t is.plan.root) n at is.is_tree.root_node in
          id_among is.plan.root.ids n.children x y root.children f
      by_side (inr other) =
          let lt : v < length t.nodes = slice_get_within t.nodes v n e in
          let (d, among, node) = line_of w is.plan t is.is_tree v (omega (arith, lt, other, is.is_tree.last)) in
          let line : IsNodeOf w t d n = MatchOption-at_some ⊥ (IsNodeOf w t d) n e node in
          id_among d.children n.children x y line.children f

  pub tree_is : IsTree (tree_of t)
  tree_is = is.is_tree.shape.tree

  -- each node that is reached stands below the root's
  pub below_root : (v : ℕ) → Reached (tree_of t) (Task v) → v < root_number t
  below_root v r = by_item r.ancestor r.is_initial r.below
    where
      by_item : (c : Item) → Contains (tree_of t).initial_tasks c → AtOrBelow (tree_of t) c (Task v) → v < root_number t
      by_item (Act k) m b = absurd (act_not_task k v (sym (act_alone (tree_of t) k b)))
      by_item (Pre k) m b = absurd (pre_not_task k v (sym (pre_alone (tree_of t) k b)))
      by_item (Task u) m b =
          let lower : u < root_number t = tree_is.lower (root_number t) u m in
          let over : v ≤ u = number_at (tree_of t) tree_is u v b refl in
          omega (arith, lower, over)
