-- Each node of a tree of a world has the sequencing of its method.
use Rattle.std.proofs.Common.{◌≡◌, ℕ, zero, suc, List, [], ◌∷◌, refl, sym, ◌∙◌, subst, Option, Some, None, IsSome, MatchOption}
use Rattle.std.specs.Prelude.{map, slice_get, option_and_then}
use Rattle.std.specs.Rc.{rc_value}
use Rattle.hv_lists.proofs.Pairs.{paired_at}
use Rattle.hv_world.specs.Worlds.{World, Method}
use Rattle.hv_plan.specs.PlanTrees.{Node, PlanTree}
use Rattle.hv_plan.specs.TreeViews.{child_view}
use Rattle.hv_match.specs.Candidates.{HasAllAt, node_method, method_at}
use Rattle.hv_order.specs.inside.Sequencings.{IsSequencing, IsSequencingOf, AreSequencingsOf, IsSequencingAt}
use Rattle.hv_order.specs.inside.Listers.{ListsAll}
use Rattle.hv_order.specs.inside.Spans.{AreSpans}
use Rattle.hv_order.specs.declared.lister.Lister.{Lister}
use Rattle.hv_order.specs.declared.sequencing.Sequencing.{Sequencing}
use Rattle.hv_order.specs.declared.sequencing.Sequencings.{Sequencings}

-- what stands at a place of a list is what its image has there
pub map_none : {X Y : Type 0} (f : X → Y) (xs : List X) (k : ℕ) → slice_get xs k ≡ None → slice_get (map f xs) k ≡ None
map_none f [] k e = refl
map_none f (y ∷ ys) zero e = cc
map_none f (y ∷ ys) (suc k) e = map_none f ys k e

module _ (w : World) (t : PlanTree) (v : ℕ) (n : Node) (has_node : slice_get t.nodes v ≡ Some n) (s : Sequencings) (are : AreSequencingsOf w s) where
  pub of_top : n.method ≡ None → IsSequencingAt w t v s.top.value
  of_top none = rw (has_node, none) are.initial

  -- the world has the method of the node
  numbered : (k : ℕ) → n.method ≡ Some k → IsSome (method_at w t v) → (m : Method) × (slice_get w.methods k ≡ Some m)
  numbered k is some = by (slice_get w.methods k) (rw (has_node, is) at some)
    where
      by : (o : Option Method) → IsSome o → (m : Method) × (o ≡ Some m)
      by None h = cc
      by (Some m) h = (m, refl)

  pub of_method : (k : ℕ) → n.method ≡ Some k → IsSome (method_at w t v) → (x : Sequencing) → slice_get (map rc_value s.methods.items) k ≡ Some x → IsSequencingAt w t v x
  of_method k is some x at =
      let (m, has) = numbered k is some in
      let (y, here, of_m) = paired_at IsSequencingOf w.methods (map rc_value s.methods.items) k m are.methods has in
      let same : y ≡ x = cc in
      let there : IsSequencing m.network.order x = subst (IsSequencingOf m) same of_m in
      rw (has_node, is, has) there

  pub none_of_method : (k : ℕ) → n.method ≡ Some k → IsSome (method_at w t v) → slice_get (map rc_value s.methods.items) k ≡ None → ⊥
  none_of_method k is some none =
      let (m, has) = numbered k is some in
      let (y, here, of_m) = paired_at IsSequencingOf w.methods (map rc_value s.methods.items) k m are.methods has in
      let clash : None ≡ Some y = sym none ∙ here in
      cc

-- what lists all matchings and bindings of a node, in the order of its method
pub lists_all : (w : World) (t : PlanTree) (v : ℕ) (n : Node) (ever : Option (List (List ℕ))) (l : Lister) → slice_get t.nodes v ≡ Some n → IsSequencingAt w t v l.sequencing.value → AreSpans t l.spans.value → l.node ≡ v
    → map child_view l.children.now ≡ n.children → HasAllAt w t v ever l.coming → ListsAll w t v ever l
lists_all w t v n ever l has_node is spans of_node children all =
    let P : Option Node → Type 0 = λ o. MatchOption (option_and_then (node_method w) o) ⊥ (λ m. IsSequencing m.network.order l.sequencing.value) in
    by (node_method w n) refl (subst P has_node is)
  where
    by : (o : Option Method) → node_method w n ≡ o → MatchOption o ⊥ (λ m. IsSequencing m.network.order l.sequencing.value) → ListsAll w t v ever l
    by None e h = absurd h
    by (Some m) e h = record {
      of_node = of_node;
      node = n;
      has_node = has_node;
      method = m;
      has_method = e;
      children = children;
      sequencing = h;
      spans = spans;
      all = all;
    }
