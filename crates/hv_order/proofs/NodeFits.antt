-- A node of a plan's tree fits exactly where it does with one of its candidates.
use Rattle.std.proofs.Common.{◌≡◌, ℕ, zero, suc, ◌<◌, ◌≤◌, List, [], ◌∷◌, length, refl, sym, ap, ◌∙◌, subst, inl, inr, arith, ◌⊎◌, Contains}
use Rattle.std.specs.Prelude.{map, slice_get, Some}
use Rattle.std.specs.List.{slice_index_or}
use Rattle.std.proofs.lemmas.List as lists
use Rattle.std.proofs.lemmas.List.{length-map}
use Rattle.std.proofs.lemmas.List.Elements.{Contains-get_or, All-contains, All-from_get_or}
use Rattle.std.proofs.Math.ListN.{get_or-map}
use Rattle.std.proofs.lemmas.Bool.{cases_lt}
use Rattle.hv_lists.proofs.Contained.{at_head, in_tail}
use Rattle.hv_world.specs.Orders.{Before}
use Rattle.hv_world.specs.Worlds.{Method}
use Rattle.hv_plan.specs.Trees.{Item, Act, Task, Pre, IsSubtask, IsTree}
use Rattle.hv_plan.specs.PlanTrees.{Node, children_at, tree_of}
use Rattle.hv_plan.specs.TreeViews.{child_view}
use Rattle.hv_plan.specs.declared.tree.Child.{Child}
use Rattle.hv_plan.specs.declared.tree.Child.TheVariants as children
use Rattle.hv_match.specs.Candidates.{IsCandidate, child_tasks, node_method}
use Rattle.hv_order.specs.Finishes.{Fits}
use Rattle.hv_order.specs.Meanings.{Meaning}
use Rattle.hv_order.specs.Settings.{Setting, HoldsAt, child_for, AmountsTo, IsMeaning}
use Rattle.hv_order.specs.inside.Arrangements.{Arrangement, listed_before}
use Rattle.hv_order.specs.inside.Children.{child_at, ChildFits, IsNodeBelow, AreNodesBelow}
use Rattle.hv_order.specs.inside.Facts.{FitsWith}
use Rattle.hv_order.specs.inside.Frames.{IsArranged}
use Rattle.hv_order.specs.inside.Layouts.{PlacedTogether, IsInOrder, IsOrderOf, AreDirect, FitsByMatching}
use Rattle.hv_order.specs.inside.Nodes.{FitsWithOne, AreNodes}
use Rattle.hv_order.specs.inside.PlanFacts.{IsSetting, FitsNode, ComesBefore, child_in, Arranges, plan_facts}
use Rattle.hv_order.specs.inside.Trials.{AreWithin}
use Rattle.hv_order.proofs.Members.{task_same, MappedFrom, mem_map_from}
use Rattle.hv_order.proofs.DeepEnough.{deep_enough}
use Rattle.hv_order.proofs.StandIns.{by_matching, by_meaning}
use Rattle.hv_order.proofs.Wider.{wider}
use Rattle.hv_order.proofs.Orders.{acyclic, allowed_row, all_directs, all_directs_count, all_directs_are}
use Rattle.hv_order.proofs.NodeParts.{children_are, of_method, from_method, is_tree, sound_network, order_decided, truth_decided, places_within, matching}
use Rattle.hv_order.proofs.Deciding.{meaning_of}

-- what is placed together is so in a wider sense
pub placed_as :
    (Is Is' : ℕ → Type 0) (Before Before' : ℕ → ℕ → Type 0) (Fit Fit' : ℕ → ℕ → ℕ → Type 0) (s f : ℕ)
    → ((j : ℕ) → Is' j → Is j) → ((i j : ℕ) → Before' i j → Before i j)
    → ((j a b : ℕ) → Is' j → Fit j a b → Fit' j a b)
    → PlacedTogether Is Before Fit s f → PlacedTogether Is' Before' Fit' s f
placed_as Is Is' Before Before' Fit Fit' s f among comes fits w = record {
  start = w.start;
  finish = w.finish;
  fits = λ j h. fits j (w.start j) (w.finish j) h (w.fits j (among j h));
  from = λ j h. w.from j (among j h);
  until = λ j h. w.until j (among j h);
  order = λ i j h k b. w.order i j (among i h) (among j k) (comes i j b);
}

-- the child of the code that an item is; a precondition step is none
abbrev pub to_child : Item → Child
to_child (Act k) = children.Action k
to_child (Task v) = children.Node v
to_child (Pre v) = children.Action 0

views_back : (ys : List Item) → ((y : Item) → Contains ys y → IsSubtask y) → map child_view (map to_child ys) ≡ ys
views_back [] all = refl
views_back (Act k ∷ ys) all = ap (λ zs. Act k ∷ zs) (views_back ys (λ y m. all y (in_tail (Act k) ys y m)))
views_back (Task v ∷ ys) all = ap (λ zs. Task v ∷ zs) (views_back ys (λ y m. all y (in_tail (Task v) ys y m)))
views_back (Pre v ∷ ys) all = absurd (all (Pre v) (at_head (Pre v) ys (Pre v) refl))

-- a child that is a node stands below one of a greater number
below_of : (v : ℕ) (x : Child) → ((u : ℕ) → child_view x ≡ Task u → u < v) → IsNodeBelow v x
below_of v (children.Action k) lower = tt
below_of v (children.Node u) lower = lower u refl

module _ (q : Setting) (is : IsSetting q) (tree : IsTree (tree_of q.tree)) (v : ℕ) where
  -- a child fits as its item does, looked at to the depth of its parent
  child_fits : (x : Child) (a b : ℕ) → IsNodeBelow v x → ChildFits (FitsNode q) x a b → Fits (children_at q.tree.nodes) (IsMeaning q) v (child_view x) a b
  child_fits (children.Action k) a b below fits = act v fits
    where
      act : (v : ℕ) → (a ≤ k) × (k < b) → Fits (children_at q.tree.nodes) (IsMeaning q) v (Act k) a b
      act zero fits = fits
      act (suc v) fits = fits
  child_fits (children.Node u) a b below fits =
      deep_enough (tree_of q.tree) (IsMeaning q) (suc u) (Task u) v a b tree
      (λ w e. let same = task_same u w e in omega arith) fits

  fits_child : (x : Child) (a b : ℕ) → Fits (children_at q.tree.nodes) (IsMeaning q) v (child_view x) a b → ChildFits (FitsNode q) x a b
  fits_child (children.Action k) a b fits = act v fits
    where
      act : (v : ℕ) → Fits (children_at q.tree.nodes) (IsMeaning q) v (Act k) a b → (a ≤ k) × (k < b)
      act zero fits = fits
      act (suc v) fits = fits
  fits_child (children.Node u) a b fits =
      deep_enough (tree_of q.tree) (IsMeaning q) v (Task u) (suc u) a b tree
      (λ w e. let same = task_same u w e in omega arith) fits

-- a candidate that is arranged, by its parts
module _ (q : Setting) (is : IsSetting q) (v : ℕ) (node : Node) (has_node : slice_get q.tree.nodes v ≡ Some node) (method : Method) (has_method : node_method q.plan.world node ≡ Some method) (M : List ℕ) (c : Arrangement) (of_node : c.node ≡ v) (candidate : IsCandidate q.plan.world method node.objects (child_tasks q.tree node) M c.objects) (items : map child_view c.children ≡ map (child_in node.children) M) where
  tree : IsTree (tree_of q.tree)
  tree = is_tree q is v node has_node method has_method

  pub as_many : length c.children ≡ length M
  as_many = sym (length-map c.children child_view) ∙ ap length items ∙ length-map M (child_in node.children)

  pub item_is : (j : ℕ) → j < length M → child_view (child_at c.children j) ≡ child_for node M j
  item_is j lt =
      let first = get_or-map child_view c.children j (children.Action 0) in
      let second = lists.get_or-map (child_in node.children) M j 0 (Act 0) lt in
      sym first ∙ ap (λ xs. slice_index_or xs j (Act 0)) items ∙ second

  child_below : (j : ℕ) → j < length M → IsNodeBelow v (child_at c.children j)
  child_below j lt =
      below_of v (child_at c.children j)
      (λ u e. tree.lower v u (subst (λ x. Contains (children_at q.tree.nodes v) x) (sym (item_is j lt) ∙ e) ((matching q is v node has_node method has_method M c.objects candidate).in_list j lt)))

  pub nodes_below : AreNodesBelow v c.children
  nodes_below = All-from_get_or (IsNodeBelow v) c.children (children.Action 0) (λ j lt. child_below j (subst (λ n. j < n) as_many lt))

  pub method_before : (i j : ℕ) → ComesBefore q c i j → Before method.network.order i j
  method_before i j b = from_method q is v node has_node method has_method (λ m. Before m.network.order i j) (rw of_node at b)

  pub before_method : (i j : ℕ) → Before method.network.order i j → ComesBefore q c i j
  before_method i j b = rw of_node (of_method q is v node has_node method has_method (λ m. Before m.network.order i j) b)

  -- it fits with the matching where it does with the arrangement
  pub fits_matching : (s f : ℕ) → FitsWith (plan_facts q) s c f → FitsByMatching (length M) (child_for node M) (Before method.network.order) (HoldsAt q method c.objects) (Fits (children_at q.tree.nodes) (IsMeaning q) v) s f
  fits_matching s f w = record {
    at = w.at;
    late = w.late;
    early = w.early;
    holds = from_method q is v node has_node method has_method (λ m. HoldsAt q m c.objects w.at) (rw of_node at w.holds);
    together =
        placed_as (λ j. j < length c.children) (λ j. j < length M) (ComesBefore q c) (Before method.network.order)
        (λ j. ChildFits (FitsNode q) (child_at c.children j)) (λ j. Fits (children_at q.tree.nodes) (IsMeaning q) v (child_for node M j)) w.at f
        (λ j h. subst (λ n. j < n) (sym as_many) h) before_method
        (λ j a b h fits. subst (λ x. Fits (children_at q.tree.nodes) (IsMeaning q) v x a b) (item_is j h) (child_fits q is tree v (child_at c.children j) a b (child_below j h) fits))
        w.together;
  }

  pub fits_arranged : (s f : ℕ) → FitsByMatching (length M) (child_for node M) (Before method.network.order) (HoldsAt q method c.objects) (Fits (children_at q.tree.nodes) (IsMeaning q) v) s f → FitsWith (plan_facts q) s c f
  fits_arranged s f w = record {
    at = w.at;
    late = w.late;
    early = w.early;
    holds = rw of_node (of_method q is v node has_node method has_method (λ m. HoldsAt q m c.objects w.at) w.holds);
    together =
        placed_as (λ j. j < length M) (λ j. j < length c.children) (Before method.network.order) (ComesBefore q c)
        (λ j. Fits (children_at q.tree.nodes) (IsMeaning q) v (child_for node M j)) (λ j. ChildFits (FitsNode q) (child_at c.children j)) w.at f
        (λ j h. subst (λ n. j < n) as_many h) method_before
        (λ j a b h fits. fits_child q is tree v (child_at c.children j) a b (subst (λ x. Fits (children_at q.tree.nodes) (IsMeaning q) v x a b) (sym (item_is j (subst (λ n. j < n) as_many h))) fits))
        w.together;
  }

-- a node that fits does with a candidate, arranged somehow
module _ (q : Setting) (is : IsSetting q) (v : ℕ) where
  module _ (node : Node) (has_node : slice_get q.tree.nodes v ≡ Some node) (method : Method) (has_method : node_method q.plan.world node ≡ Some method) (M B : List ℕ) (candidate : IsCandidate q.plan.world method node.objects (child_tasks q.tree node) M B) where
    row : (xs : List ℕ) × IsOrderOf (λ j. j < length M) (Before method.network.order) xs
    row = allowed_row method.network.order (sound_network q is v node has_node method has_method).arrangeable (order_decided q is v node has_node method has_method) (length M)

    abbrev directs : List (List ℕ)
    directs = all_directs method.network.order (sound_network q is v node has_node method has_method).arrangeable (order_decided q is v node has_node method has_method) (length M)

    abbrev arrangement : Arrangement
    arrangement = record {
      node = v;
      objects = B;
      children = map to_child (map (child_in node.children) M);
      order = row.0;
      direct = directs;
    }

    is_subtask : (y : Item) → MappedFrom (child_in node.children) y M → IsSubtask y
    is_subtask y w =
        let tree = is_tree q is v node has_node method has_method in
        let lt = All-contains (λ x. x < length node.children) M w.source (places_within q is v node has_node method has_method M B candidate) w.is_member in
        let among = Contains-get_or node.children w.source (Act 0) lt in
        let child = tree.child_kind v (child_in node.children w.source) (subst (λ xs. Contains xs (child_in node.children w.source)) (sym (children_are q is v node has_node method has_method)) among) in
        subst (λ x. IsSubtask x) (sym w.image) child

    count_is : length (map to_child (map (child_in node.children) M)) ≡ length M
    count_is = length-map (map (child_in node.children) M) to_child ∙ length-map M (child_in node.children)

    pub items_are : map child_view (map to_child (map (child_in node.children) M)) ≡ map (child_in node.children) M
    items_are = views_back (map (child_in node.children) M) (λ y m. is_subtask y (mem_map_from (child_in node.children) y M m))

    arranges : Arranges q v arrangement
    arranges = record {
      of_node = refl;
      node = node;
      has_node = has_node;
      method = method;
      has_method = has_method;
      matching = M;
      candidate = candidate;
      children = items_are;
      order = subst (λ k. IsOrderOf (λ j. j < k) (Before method.network.order) row.0) (sym count_is) row.1;
      as_many = all_directs_count method.network.order (sound_network q is v node has_node method has_method).arrangeable (order_decided q is v node has_node method has_method) (length M) ∙ sym count_is;
      direct = λ j lt.
          subst (λ k. AreDirect (λ i. i < k) (Before method.network.order) j (listed_before directs j)) (sym count_is)
          (all_directs_are method.network.order (sound_network q is v node has_node method has_method).arrangeable (order_decided q is v node has_node method has_method) (length M) j (subst (λ n. j < n) count_is lt));
    }

  with_one : (s f : ℕ) → FitsNode q v s f → FitsWithOne (plan_facts q) v s f
  with_one s f w =
      let m = w.listed in
      let a = m.amounts in
      let c = arrangement a.node a.has_node a.method a.has_method m.matching m.binding a.candidate in
      let is_c = arranges a.node a.has_node a.method a.has_method m.matching m.binding a.candidate in
      let g = by_matching (children_at q.tree.nodes v) (length m.matching) (child_for a.node m.matching) (Before a.method.network.order) (HoldsAt q a.method m.binding) w.meaning a.stands (matching q is v a.node a.has_node a.method a.has_method m.matching m.binding a.candidate) (Fits (children_at q.tree.nodes) (IsMeaning q) v) s f w.fact in
      record {
        candidate = c;
        is_candidate = is_c;
        fits = fits_arranged q is v a.node a.has_node a.method a.has_method m.matching c refl a.candidate (items_are a.node a.has_node a.method a.has_method m.matching m.binding a.candidate) s f g;
      }

  by_one : (s f : ℕ) → FitsWithOne (plan_facts q) v s f → FitsNode q v s f
  by_one s f w =
      let c = w.candidate in
      let r = w.is_candidate in
      let g = fits_matching q is v r.node r.has_node r.method r.has_method r.matching c r.of_node r.candidate r.children s f w.fits in
      let (m, stands) = meaning_of (length r.matching) (child_for r.node r.matching) (Before r.method.network.order) (order_decided q is v r.node r.has_node r.method r.has_method) (HoldsAt q r.method c.objects) (truth_decided q is v r.node r.has_node r.method r.has_method c.objects) in
      record {
        meaning = m;
        listed = record { matching = r.matching; binding = c.objects; amounts = record { node = r.node; has_node = r.has_node; method = r.method; has_method = r.has_method; candidate = r.candidate; stands = stands } };
        fact = by_meaning (children_at q.tree.nodes v) (length r.matching) (child_for r.node r.matching) (Before r.method.network.order) (HoldsAt q r.method c.objects) m stands (matching q is v r.node r.has_node r.method r.has_method r.matching c.objects r.candidate) (Fits (children_at q.tree.nodes) (IsMeaning q) v) s f g;
      }

  past_directs : (c : Arrangement) → length c.direct ≡ length c.children → (j : ℕ) → length c.children ≤ j → listed_before c.direct j ≡ []
  past_directs c many j past = lists.get_or_past c.direct j [] (omega (arith, many))

  arranged : (c : Arrangement) → Arranges q v c → IsArranged (plan_facts q) c × AreNodesBelow v c.children
  arranged c r = (
    record {
      strict = λ j b. acyclic r.method.network.order (sound_network q is v r.node r.has_node r.method r.has_method).arrangeable j (to_method j j b);
      order = record { has = r.order.has; only = r.order.only; distinct = r.order.distinct; in_order = in_order c.order r.order.in_order };
      directs = λ j lt. let d = r.direct j lt in record {
        sound = λ i m. ((d.sound i m).0, to_facts i j (d.sound i m).1);
        whole = λ i lt' b. whole j i (d.whole i lt' (to_method i j b));
      };
      in_order = within c.order r.order.only;
      in_direct = λ j. directs_within j (cases_lt j (length c.children));
    },
    nodes_below q is v r.node r.has_node r.method r.has_method r.matching c r.of_node r.candidate r.children,
  )
    where
      to_method : (i j : ℕ) → ComesBefore q c i j → Before r.method.network.order i j
      to_method = method_before q is v r.node r.has_node r.method r.has_method r.matching c r.of_node r.candidate r.children

      to_facts : (i j : ℕ) → Before r.method.network.order i j → ComesBefore q c i j
      to_facts = before_method q is v r.node r.has_node r.method r.has_method r.matching c r.of_node r.candidate r.children

      in_order : (xs : List ℕ) → IsInOrder (Before r.method.network.order) xs → IsInOrder (ComesBefore q c) xs
      in_order [] h = tt
      in_order (x ∷ xs) (h, rest) = ((λ y m b. h y m (to_method y x b)), in_order xs rest)

      whole : (j i : ℕ) → Contains (listed_before c.direct j) i ⊎ ((r' : ℕ) × Contains (listed_before c.direct j) r' × Before r.method.network.order i r') → Contains (listed_before c.direct j) i ⊎ ((r' : ℕ) × Contains (listed_before c.direct j) r' × ComesBefore q c i r')
      whole j i (inl m) = inl m
      whole j i (inr (k, m, b)) = inr (k, m, to_facts i k b)

      within : (xs : List ℕ) → ((j : ℕ) → Contains xs j → j < length c.children) → AreWithin (length c.children) xs
      within xs h = λ k d lt. h (slice_index_or xs k d) (Contains-get_or xs k d lt)

      directs_within : (j : ℕ) → (j < length c.children) ⊎ (length c.children ≤ j) → AreWithin (length c.children) (listed_before c.direct j)
      directs_within j (inl lt) = within (listed_before c.direct j) (λ i m. ((r.direct j lt).sound i m).0)
      directs_within j (inr past) = subst (λ xs. AreWithin (length c.children) xs) (sym (past_directs c r.as_many j past)) (λ k d lt. absurd (let few : k < 0 = lt in omega arith))

-- the facts of a plan are those of nodes whose finishes can be worked out
pub plan_nodes : (q : Setting) → IsSetting q → AreNodes (plan_facts q)
plan_nodes q is = record {
  fits = record {
    climbs = λ v s f w. let late = w.fact.late in let early = w.fact.early in omega arith;
    earlier = λ v s s' f le w. wider (children_at q.tree.nodes) (IsMeaning q) (suc v) (Task v) s s' f f le (omega arith) w;
  };
  by_one = λ v s f. (with_one q is v s f, by_one q is v s f);
  arranged = λ v c r. arranged q is v c r;
}

-- what an arranged candidate amounts to
pub arranged_amounts : (q : Setting) → IsSetting q → (v : ℕ) (c : Arrangement) (r : Arranges q v c) → (m : Meaning) × AmountsTo q v r.matching c.objects m
arranged_amounts q is v c r =
    let (m, stands) = meaning_of (length r.matching) (child_for r.node r.matching) (Before r.method.network.order) (order_decided q is v r.node r.has_node r.method r.has_method) (HoldsAt q r.method c.objects) (truth_decided q is v r.node r.has_node r.method r.has_method c.objects) in
    (m, record { node = r.node; has_node = r.has_node; method = r.method; has_method = r.has_method; candidate = r.candidate; stands = stands })
