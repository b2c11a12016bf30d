-- What lists all matchings and bindings of a node lists all its candidates.
use Rattle.std.proofs.Common.{◌≡◌, ℕ, true, Option, ◌<◌, ◌≤◌, List, [], ◌∷◌, length, refl, sym, ap, ◌∙◌, subst, arith}
use Rattle.std.specs.Prelude.{map, slice_get, Some}
use Rattle.std.specs.List.{slice_index_or}
use Rattle.std.proofs.lemmas.List.{length-map}
use Rattle.std.proofs.Math.ListN.{get_or-map}
use Rattle.hv_world.specs.Worlds.{Method}
use Rattle.hv_plan.specs.Trees.{Act}
use Rattle.hv_plan.specs.PlanTrees.{Node}
use Rattle.hv_plan.specs.TreeViews.{child_view}
use Rattle.hv_plan.specs.declared.tree.Child.TheVariants as children
use Rattle.hv_match.specs.Candidates.{IsCandidate, child_tasks, node_method}
use Rattle.hv_state.specs.Needed.{needed}
use Rattle.hv_match.specs.Possible.{are_possible}
use Rattle.hv_order.specs.Settings.{Setting, last, HoldsAt}
use Rattle.hv_order.specs.inside.Arrangements.{Arrangement, listed_before}
use Rattle.hv_order.specs.inside.Children.{child_at}
use Rattle.hv_order.specs.inside.Choosing.{Gives}
use Rattle.hv_order.specs.inside.Facts.{FitsWith}
use Rattle.hv_order.specs.inside.Listers.{ListsAll, IsEver, arranged_by, all_coming, still_listed}
use Rattle.hv_order.specs.inside.Nodes.{FitsWithOne, AreAllOf}
use Rattle.hv_order.specs.inside.PlanFacts.{IsSetting, FitsNode, child_in, Arranges, plan_facts}
use Rattle.hv_order.specs.inside.Spans.{is_in_order}
use Rattle.hv_order.specs.declared.lister.Lister.{Lister}
use Rattle.hv_order.proofs.Members.{MappedFrom, mem_map, mem_map_from}
use Rattle.hv_order.proofs.Orders.{row_allowed, direct_allowed, in_filter, from_filter}
use Rattle.hv_order.proofs.Possibles.{possible_where_true}
use Rattle.hv_order.proofs.SpanLemmas.{fits_in_order}
use Rattle.hv_order.proofs.NodeParts.{of_method, from_method, IsCandidateHere, candidate_here, is_candidate_at, sound_network, order_count}
use Rattle.hv_order.proofs.NodeFits.{fits_matching, fits_arranged, plan_nodes}

map_twice : {X Y Z : Type 0} (f : X → Y) (g : Y → Z) (h : X → Z) → ((x : X) → g (f x) ≡ h x) → (xs : List X) → map g (map f xs) ≡ map h xs
map_twice f g h each [] = refl
map_twice f g h each (x ∷ xs) = let here = each x in let rest = map_twice f g h each xs in cc

module _ (q : Setting) (is : IsSetting q) (v start : ℕ) (begun : start ≤ last q) (ever : Option (List (List ℕ))) (is_ever : IsEver q v start ever) (l : Lister) (lists : ListsAll q.plan.world q.tree v ever l) where
  abbrev arranged : List ℕ × List ℕ → Arrangement
  arranged = arranged_by l.node l.children.now l.sequencing.value

  -- a candidate of the node is one of the lister's node and method
  same_node : (n : Node) → slice_get q.tree.nodes v ≡ Some n → n ≡ lists.node
  same_node n e = let f = lists.has_node in cc

  same_method : (n : Node) (m : Method) → n ≡ lists.node → node_method q.plan.world n ≡ Some m → m ≡ lists.method
  same_method n m e f = let g = lists.has_method in let h = subst (λ (x : Node). node_method q.plan.world x ≡ Some m) e f in cc

  candidate_of : (M B : List ℕ) → IsCandidateHere q v M B → IsCandidate q.plan.world lists.method lists.node.objects (child_tasks q.tree lists.node) M B
  candidate_of M B h =
      let node = same_node h.node h.has_node in
      let method = same_method h.node h.method node h.has_method in
      subst (λ (m : Method). IsCandidate q.plan.world m lists.node.objects (child_tasks q.tree lists.node) M B) method
      (subst (λ (n : Node). IsCandidate q.plan.world h.method n.objects (child_tasks q.tree n) M B) node h.candidate)

  places_are : (M : List ℕ) → map child_view (map (child_at l.children.now) M) ≡ map (child_in lists.node.children) M
  places_are M =
      map_twice (child_at l.children.now) child_view (child_in lists.node.children)
      (λ x. sym (get_or-map child_view l.children.now x (children.Action 0)) ∙ ap (λ xs. slice_index_or xs x (Act 0)) lists.children) M

  arranges : (M B : List ℕ) → IsCandidate q.plan.world lists.method lists.node.objects (child_tasks q.tree lists.node) M B → Arranges q v (arranged (M, B))
  arranges M B candidate =
      let sound = sound_network q is v lists.node lists.has_node lists.method lists.has_method in
      let count = order_count q is v lists.node lists.has_node lists.method lists.has_method M B candidate in
      let places = length-map M (child_at l.children.now) in
      let len : lists.method.network.order.len ≡ length (map (child_at l.children.now) M) = count ∙ sym places in
      record {
        of_node = lists.of_node;
        node = lists.node;
        has_node = lists.has_node;
        method = lists.method;
        has_method = lists.has_method;
        matching = M;
        candidate = candidate;
        children = places_are M;
        order = row_allowed lists.method.network.order sound.arrangeable (length (map (child_at l.children.now) M)) l.sequencing.value.order.items len lists.sequencing.order;
        as_many = lists.sequencing.direct.as_many ∙ len;
        direct = λ j lt. direct_allowed lists.method.network.order sound.arrangeable (length (map (child_at l.children.now) M)) j (listed_before l.sequencing.value.direct j) len (lists.sequencing.direct.direct j (subst (λ n. j < n) (sym len) lt));
      }

  -- each that is listed is a candidate
  each : (c : Arrangement) → MappedFrom arranged c l.coming.coming → Arranges q v c
  each c w =
      subst (λ d. Arranges q v d) (sym w.image)
      (arranges w.source.0 w.source.1 (candidate_of w.source.0 w.source.1 (candidate_here q v w.source.0 w.source.1 ((lists.all w.source.0 w.source.1).0 w.is_member).0)))

  -- where a candidate fits, the node fits from the state in which its precondition is true
  begins : (s f : ℕ) (w : FitsWithOne (plan_facts q) v s f) → FitsNode q v w.fits.at f
  begins s f w =
      let (with_one, by_one) = (plan_nodes q is).by_one v w.fits.at f in
      by_one (record {
        candidate = w.candidate;
        is_candidate = w.is_candidate;
        fits = record { at = w.fits.at; late = omega arith; early = w.fits.early; holds = w.fits.holds; together = w.fits.together };
      })

  -- where a candidate fits, the listed one with its matching and binding does
  with_one : (s f : ℕ) → start ≤ s → FitsWithOne (plan_facts q) v s f → Gives (still_listed l) (FitsWith (plan_facts q) s) f
  with_one s f late w =
      let c = w.candidate in
      let r = w.is_candidate in
      let M = r.matching in
      let node = same_node r.node r.has_node in
      let here : IsCandidateHere q v M c.objects = record { node = r.node; has_node = r.has_node; method = r.method; has_method = r.has_method; candidate = r.candidate } in
      let candidate = candidate_of M c.objects here in
      let items : map child_view c.children ≡ map (child_in lists.node.children) M = subst (λ (n : Node). map child_view c.children ≡ map (child_in n.children) M) node r.children in
      let g = fits_matching q is v lists.node lists.has_node lists.method lists.has_method M c r.of_node candidate items s f w.fits in
      let holds = from_method q is v r.node r.has_node r.method r.has_method (λ m. HoldsAt q m c.objects w.fits.at) (rw r.of_node at w.fits.holds) in
      let possible = of_method q is v r.node r.has_node r.method r.has_method (λ m. are_possible ever c.objects (needed m.precondition) ≡ true) (possible_where_true q is v start ever is_ever begun r.method c.objects w.fits.at f (let behind = w.fits.late in omega (arith, late, behind)) (begins s f w) holds) in
      let gives = fits_arranged q is v lists.node lists.has_node lists.method lists.has_method M (arranged (M, c.objects)) lists.of_node candidate (places_are M) s f g in
      let arranges_so = arranges M c.objects candidate in
      let in_order = fits_in_order q l.spans.value lists.spans (arranged (M, c.objects)) s f arranges_so.as_many ((plan_nodes q is).arranged v (arranged (M, c.objects)) arranges_so).0 gives in
      record {
        candidate = arranged (M, c.objects);
        listed =
            in_filter (is_in_order l.spans.value) (all_coming l) (arranged (M, c.objects))
            (mem_map arranged (M, c.objects) l.coming.coming ((lists.all M c.objects).1 (is_candidate_at q v M c.objects here, possible))) in_order;
        gives = gives;
      }

  pub all_listed : AreAllOf (plan_facts q) v start (still_listed l)
  all_listed = record {
    each = λ c m. each c (mem_map_from arranged c l.coming.coming (from_filter (is_in_order l.spans.value) (all_coming l) c m));
    with_one = with_one;
  }
