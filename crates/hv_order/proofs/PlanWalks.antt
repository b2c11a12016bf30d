-- What is walked over the nodes of a plan certifies the plan: each node stands by a candidate, and what
-- these candidates amount to has an executable sequence.
use Rattle.std.proofs.Common.{◌≡◌, ℕ, suc, ◌+◌, ◌<◌, ◌≤◌, ◌⊎◌, MatchBool, is_some, inl, inr, List, [], ◌∷◌, Option, Some, None, length, map, slice_get, refl, sym, ap, ◌∙◌, subst, arith, All, Contains, Bool}
use Rattle.std.specs.List.{AllZip}
use Rattle.std.proofs.lemmas.Option.{slice_get-get_or}
use Rattle.std.proofs.lemmas.List.Elements.{All-head, All-tail, All-weaker}
use Rattle.hv_lists.proofs.Numbers.{below_next}
use Rattle.hv_lists.proofs.Pairs.{same_length}
use Rattle.hv_world.specs.Bindings.{object_number}
use Rattle.hv_world.specs.Bounds.{IsSound}
use Rattle.hv_world.specs.Orders.{Before}
use Rattle.hv_world.specs.Worlds.{World}
use Rattle.hv_state.specs.Plans as states
use Rattle.hv_plan.specs.Trees.{Item, Act, Task, IsTree, IsWithin, HasActions, Reached}
use Rattle.hv_plan.specs.TreeViews.{child_view}
use Rattle.hv_plan.specs.declared.tree.Child.{Child}
use Rattle.hv_plan.specs.PlanTrees.{PlanTree, IsActionOf, IsTreeIn, children_at, root_number, tree_of}
use Rattle.hv_order.specs.Meanings.{Meaning, Choice, AreOrders, free_meaning}
use Rattle.hv_order.specs.StandIns.{StandsFor, Comes, IsMatching}
use Rattle.hv_order.specs.Sequences.{HasSequenceAt}
use Rattle.hv_order.specs.Settings.{Setting, last, setting, HoldsAt, AmountsTo, IsMeaning, IsSolved, HaveCandidates, IsFirstWithout, HasNoPrecondition, child_for}
use Rattle.hv_order.specs.Certified.{Certifies}
use Rattle.hv_order.specs.Tables.{IsLeast}
use Rattle.std.specs.Global.{Vec}
use Rattle.std.specs.Option.{option_map}
use Rattle.hv_order.specs.inside.Arrangements.{Arrangement}
use Rattle.hv_order.specs.inside.PlanFacts.{IsSetting, ComesBefore, HoldsFor, Arranges, child_in, FitsNode, plan_facts}
use Rattle.hv_order.specs.inside.Walks.{said_of, root_of, winner_of, index_of, index_in, IsChildAt, AreApartNodes, HaveOneParent, AreWalked, IsWalk}
use Rattle.hv_order.specs.inside.WalkedTrees.{item_at, HasAll, AreOfTree, IsMeaningOf, IsChosenAt, IsChosen}
use Rattle.hv_order.specs.inside.Chosen.{DoAllStand, AreChosenBy}
use Rattle.hv_order.specs.inside.Writings.{IsAtPlace, IsChosenFor, AreChosen, AreWritable, SaysAll, IsSettingOver, TellsFirst}
use Rattle.hv_order.specs.declared.walk.Stand.{Stand}
use Rattle.hv_order.specs.declared.certify.Chosen.{Chosen}
use Rattle.hv_certificate.specs.declared.certificate.Certificate.{Certificate}
use Rattle.hv_order.proofs.Deciding.{meaning_of}
use Rattle.hv_order.proofs.NodeParts.{of_method, from_method, order_decided, truth_decided, places_within, matching, meanings_are_orders}
use Rattle.hv_order.proofs.NodeFits.{as_many, item_is, method_before, before_method}
use Rattle.hv_order.proofs.Walked.{walked_sequence, stands_of}
use Rattle.hv_order.proofs.Certifying.{writables, certifies}
use Rattle.hv_order.proofs.TreeLines.{below_root}
use Rattle.hv_order.proofs.RootNode.{solved_fits, unsolved}
use Rattle.hv_order.proofs.Wider.{wider}

-- a list of places with what stands at them
zip_map : {A B : Type 0} (R : A → B → Type 0) (f : A → B) (xs : List A) → All (λ x. R x (f x)) xs → AllZip R xs (map f xs)
zip_map R f [] all = tt
zip_map R f (x ∷ xs) all = (All-head (λ y. R y (f y)) x xs all, zip_map R f xs (All-tail (λ y. R y (f y)) x xs all))

module _ (q : Setting) (is : IsSetting q) where
  tree : IsTree (tree_of q.tree)
  tree = is.tree.is_tree.shape.tree

  -- a candidate of a node, as it is arranged
  module _ (v : ℕ) (c : Arrangement) (r : Arranges q v c) where
    matched : IsMatching (children_at q.tree.nodes v) (length r.matching) (child_for r.node r.matching)
    matched = matching q is v r.node r.has_node r.method r.has_method r.matching c.objects r.candidate

    count_is : length c.children ≡ length r.matching
    count_is = as_many q is v r.node r.has_node r.method r.has_method r.matching c r.of_node r.candidate r.children

    child_is : (j : ℕ) → j < length r.matching → item_at c j ≡ child_for r.node r.matching j
    child_is = item_is q is v r.node r.has_node r.method r.has_method r.matching c r.of_node r.candidate r.children

    in_matching : (j : ℕ) → j < length c.children → j < length r.matching
    in_matching j lt = subst (λ n. j < n) count_is lt

    in_children : (j : ℕ) → j < length r.matching → j < length c.children
    in_children j lt = subst (λ n. j < n) (sym count_is) lt

    has_all : HasAll c (children_at q.tree.nodes v)
    has_all x m =
        let lt = matched.is_subtask x m in
        (matched.subtask x, in_children (matched.subtask x) lt, child_is (matched.subtask x) lt ∙ matched.stands x m)

    task_is : (j u : ℕ) → IsChildAt c.children j u → child_for r.node r.matching j ≡ Task u
    task_is j u (lt, e) = sym (child_is j (in_matching j lt)) ∙ ap child_view e

    task_in : (j u : ℕ) → IsChildAt c.children j u → Contains (children_at q.tree.nodes v) (Task u)
    task_in j u at = let P : Item → Type 0 = λ x. Contains (children_at q.tree.nodes v) x in subst P (task_is j u at) (matched.in_list j (in_matching j at.0))

    apart : AreApartNodes c.children
    apart i j u a b = matched.once i j (in_matching i a.0) (in_matching j b.0) (task_is i u a ∙ sym (task_is j u b))

    -- its children stand at the places that the matching says
    at_places : AllZip (IsAtPlace q.tree v) r.matching (map child_view c.children)
    at_places =
        let P : List Item → Type 0 = λ ys. AllZip (IsAtPlace q.tree v) r.matching ys in
        subst P (sym r.children) (zip_map (IsAtPlace q.tree v) (child_in r.node.children) r.matching
        (All-weaker (λ x. x < length r.node.children) (λ x. IsAtPlace q.tree v x (child_in r.node.children x)) here r.matching
        (places_within q is v r.node r.has_node r.method r.has_method r.matching c.objects r.candidate)))
      where
        here : (x : ℕ) → x < length r.node.children → IsAtPlace q.tree v x (child_in r.node.children x)
        here x lt = record { node = r.node; has_node = r.has_node; has_child = slice_get-get_or r.node.children x (Act 0) lt }

    -- what it amounts to, which is the meaning of the arrangement too
    meant : (m : Meaning) × StandsFor (length r.matching) (child_for r.node r.matching) (Before r.method.network.order) (HoldsAt q r.method c.objects) m
    meant =
        meaning_of (length r.matching) (child_for r.node r.matching) (Before r.method.network.order)
        (order_decided q is v r.node r.has_node r.method r.has_method) (HoldsAt q r.method c.objects)
        (truth_decided q is v r.node r.has_node r.method r.has_method c.objects)

    amounts : AmountsTo q v r.matching c.objects meant.0
    amounts = record { node = r.node; has_node = r.has_node; method = r.method; has_method = r.has_method; candidate = r.candidate; stands = meant.1 }

    to_arrangement : (x y : Item) → Comes (length r.matching) (child_for r.node r.matching) (Before r.method.network.order) x y → Comes (length c.children) (item_at c) (ComesBefore q c) x y
    to_arrangement x y w = record {
      first = w.first;
      second = w.second;
      first_is = in_children w.first w.first_is;
      second_is = in_children w.second w.second_is;
      of_first = child_is w.first w.first_is ∙ w.of_first;
      of_second = child_is w.second w.second_is ∙ w.of_second;
      before = before_method q is v r.node r.has_node r.method r.has_method r.matching c r.of_node r.candidate r.children w.first w.second w.before;
    }

    from_arrangement : (x y : Item) → Comes (length c.children) (item_at c) (ComesBefore q c) x y → Comes (length r.matching) (child_for r.node r.matching) (Before r.method.network.order) x y
    from_arrangement x y w = record {
      first = w.first;
      second = w.second;
      first_is = in_matching w.first w.first_is;
      second_is = in_matching w.second w.second_is;
      of_first = sym (child_is w.first (in_matching w.first w.first_is)) ∙ w.of_first;
      of_second = sym (child_is w.second (in_matching w.second w.second_is)) ∙ w.of_second;
      before = method_before q is v r.node r.has_node r.method r.has_method r.matching c r.of_node r.candidate r.children w.first w.second w.before;
    }

    holds_to : (k : ℕ) → HoldsAt q r.method c.objects k → HoldsFor q c k
    holds_to k h = rw r.of_node (of_method q is v r.node r.has_node r.method r.has_method (λ m. HoldsAt q m c.objects k) h)

    holds_from : (k : ℕ) → HoldsFor q c k → HoldsAt q r.method c.objects k
    holds_from k h = from_method q is v r.node r.has_node r.method r.has_method (λ m. HoldsAt q m c.objects k) (rw r.of_node at h)

    means : IsMeaningOf (plan_facts q) c meant.0
    means = record {
      before = λ x y. ((λ e. to_arrangement x y ((meant.1.before x y).0 e)), (λ w. (meant.1.before x y).1 (from_arrangement x y w)));
      true_at = λ k. ((λ e. holds_to k ((meant.1.true_at k).0 e)), (λ h. (meant.1.true_at k).1 (holds_from k h)));
    }

  -- each node is a child of one node, and there stands for one subtask
  pub one_parent : HaveOneParent (plan_facts q)
  one_parent = record {
    parent = λ v w c d i j u r s a b. tree.one_parent v w (Task u) (task_in v c r i u a) (task_in w d s j u b);
    place = λ v c r. apart v c r;
  }

  actions_are : length is.tree.plan.actions ≡ last q
  actions_are = same_length (IsActionOf q.plan.world) is.tree.plan.actions q.tree.actions is.tree.is_tree.actions ∙ ap length (sym is.actions)

  all_actions : HasActions (tree_of q.tree) (last q)
  all_actions = subst (HasActions (tree_of q.tree)) actions_are is.tree.is_tree.shape.reached_actions

  within : IsWithin (tree_of q.tree) (root_number q.tree)
  within u m = tree.lower (root_number q.tree) u m

  module _ (stands : List (Option Stand)) (walked : AreWalked (plan_facts q) (length q.tree.nodes) stands) where
    abbrev count : ℕ
    count = length q.tree.nodes

    of_tree : AreOfTree (plan_facts q) (tree_of q.tree) (root_of count)
    of_tree = record {
      initial = λ c r. has_all (root_of count) c r;
      children = λ v c r. has_all v c r;
    }

    -- each node stands
    stand_at : (v : ℕ) → v < count → (s : Stand) × (said_of stands v ≡ Some s)
    stand_at v lt = by_side (root_or_below v is.tree.is_tree.root (omega (arith, lt, is.tree.is_tree.last)))
      where
        root_or_below : (v root : ℕ) → v < root + 1 → (v ≡ root) ⊎ (v < root)
        root_or_below v root lt = by (below_next v root lt)
          where
            by : (v < root) ⊎ (v ≡ root) → (v ≡ root) ⊎ (v < root)
            by (inl a) = inr a
            by (inr b) = inl b

        by_side : (v ≡ is.tree.is_tree.root) ⊎ (v < is.tree.is_tree.root) → (s : Stand) × (said_of stands v ≡ Some s)
        by_side (inl same) =
            let r : root_of count ≡ v = omega (arith, same, is.tree.is_tree.last) in
            (walked.root.0, let P : ℕ → Type 0 = λ u. said_of stands u ≡ Some walked.root.0 in subst P r walked.root.1)
        by_side (inr below) = stands_of (plan_facts q) count stands walked (tree_of q.tree) tree of_tree v (is.tree.is_tree.shape.reached_lines v below)

    pub all_stand : DoAllStand stands
    all_stand v lt = stand_at v (omega (arith, lt, walked.as_many))

    -- what is taken for a node
    record Taken : Type 0 where
      meaning : Meaning
      matching : List ℕ
      binding : List ℕ

    abbrev taken_by : (v : ℕ) (o : Option Stand) → said_of stands v ≡ o → Taken
    taken_by v None e = record { meaning = free_meaning; matching = []; binding = [] }
    taken_by v (Some s) e =
        let c = winner_of s in
        let w = (walked.each v s e).is.is_candidate in
        record { meaning = (meant v c w).0; matching = w.matching; binding = c.objects }

    abbrev taken : ℕ → Taken
    taken v = taken_by v (said_of stands v) refl

    -- it is the candidate by which the node stands
    record IsTaken (v : ℕ) (s : Stand) (k : Taken) : Type 0 where
      of_meaning : IsMeaningOf (plan_facts q) (winner_of s) k.meaning
      amounts_to : AmountsTo q v k.matching k.binding k.meaning
      children : AllZip (IsAtPlace q.tree v) k.matching (map child_view s.winner.children.items)
      objects : map object_number s.winner.objects.items ≡ k.binding

    is_taken_by : (v : ℕ) (o : Option Stand) (e : said_of stands v ≡ o) (s : Stand) → o ≡ Some s → IsTaken v s (taken_by v o e)
    is_taken_by v None e s f = absurd (let clash : None ≡ Some s = f in cc)
    is_taken_by v (Some t) e s f =
        let same : t ≡ s = cc in
        let c = winner_of t in
        let w = (walked.each v t e).is.is_candidate in
        let P : Stand → Type 0 = λ x. IsTaken v x (taken_by v (Some t) e) in
        subst P same (record {
          of_meaning = means v c w;
          amounts_to = amounts v c w;
          children = at_places v c w;
          objects = refl;
        })

    is_taken : (v : ℕ) (s : Stand) → said_of stands v ≡ Some s → IsTaken v s (taken v)
    is_taken v s e = is_taken_by v (said_of stands v) refl s e

    abbrev choice : Choice
    choice = record { root = (taken (root_number q.tree)).meaning; line = λ v. (taken v).meaning }

    taken_amounts : (v : ℕ) → v < count → AmountsTo q v (taken v).matching (taken v).binding (taken v).meaning
    taken_amounts v lt = let (s, said) = stand_at v lt in (is_taken v s said).amounts_to

    taken_orders : (v : ℕ) → v < count → IsMeaning q v (taken v).meaning
    taken_orders v lt = record { matching = (taken v).matching; binding = (taken v).binding; amounts = taken_amounts v lt }

    root_within : root_number q.tree < count
    root_within = omega (arith, is.tree.is_tree.last)

    below_within : (v : ℕ) → v < root_number q.tree → v < count
    below_within v lt = omega (arith, lt)

    reached_within : (v : ℕ) → Reached (tree_of q.tree) (Task v) → v < count
    reached_within v r = below_within v (below_root q.plan.world q.tree is.tree v r)

    chosen_at : (v : ℕ) → IsChosenAt (plan_facts q) stands v (taken v).meaning
    chosen_at v s said = (is_taken v s said).of_meaning

    is_chosen : IsChosen (plan_facts q) count stands choice
    is_chosen = record { root = chosen_at (root_number q.tree); line = chosen_at }

    orders : AreOrders (tree_of q.tree) choice
    orders = record {
      of_root = meanings_are_orders q is (root_number q.tree) choice.root (taken_orders (root_number q.tree) root_within);
      of_lines = λ v r. meanings_are_orders q is v (choice.line v) (taken_orders v (reached_within v r));
    }

    sequence : HasSequenceAt (tree_of q.tree) choice (index_of stands) (last q)
    sequence = walked_sequence (plan_facts q) count stands (tree_of q.tree) choice (root_number q.tree) walked tree of_tree is_chosen orders within all_actions

    module _ (chosen : List Chosen) (by : AreChosenBy stands chosen) where
      abbrev matching_of : ℕ → List ℕ
      matching_of v = (taken v).matching

      abbrev binding_of : ℕ → List ℕ
      binding_of v = (taken v).binding

      chosen_for : (v : ℕ) (c : Chosen) → slice_get chosen v ≡ Some c → IsChosenFor q.tree v (matching_of v) (binding_of v) (index_of stands v) c
      chosen_for v c e =
          let b = by.each v c e in
          let k = is_taken v b.stand b.said in
          let P : List Child → Type 0 = λ xs. AllZip (IsAtPlace q.tree v) (matching_of v) (map child_view xs) in
          record {
            children = subst P (sym b.is.children) k.children;
            objects = ap (map object_number) b.is.objects ∙ k.objects;
            index = b.is.index ∙ sym (ap index_in b.said);
          }

      are_chosen : AreChosen q chosen matching_of binding_of (index_of stands) choice
      are_chosen = record {
        as_many = by.as_many ∙ walked.as_many;
        each = chosen_for;
        root = taken_amounts (root_number q.tree) root_within;
        nodes = λ v lt. taken_amounts v (below_within v lt);
      }

      pub are_writable : AreWritable q.plan.world q.tree chosen
      are_writable = writables q is.tree chosen matching_of binding_of (index_of stands) choice are_chosen is.sound

      pub certified : (s : Certificate) → SaysAll q.plan.world q.tree chosen s → Certifies q s
      certified s said = certifies q is.tree chosen matching_of binding_of (index_of stands) choice are_chosen s sequence said

-- the setting of a tree of a world with the states of its actions
pub is_setting : (w : World) (t : PlanTree) (p : states.Plan) (b : Bool) → p ≡ states.plan w t.actions → IsTreeIn w t → IsSound w
    → HasNoPrecondition w → length t.actions < 4294967295 → IsSetting (setting t p b)
is_setting w t p b e tree sound top small =
    let P : states.Plan → Type 0 = λ x. IsSetting (setting t x b) in
    subst P (sym e) (record { tree = tree; actions = refl; sound = sound; top = top; small = small })

pub over_setting : (w : World) (t : PlanTree) (p : states.Plan) (b : Bool) → p ≡ states.plan w t.actions → IsSettingOver w t (setting t p b)
over_setting w t p b e = (ap (λ x. x.world) e, refl)

-- what is said of a setting is said of its world and its tree
module _ (w : World) (t : PlanTree) (q : Setting) (over : IsSettingOver w t q) where
  pub tree_over : IsSetting q → IsTreeIn w t
  tree_over is = rw (over.0, over.1) at is.tree

  pub writable_over : (chosen : List Chosen) → AreWritable q.plan.world q.tree chosen → AreWritable w t chosen
  writable_over chosen h = rw (over.0, over.1) at h

  pub says_over : (chosen : List Chosen) (s : Certificate) → SaysAll w t chosen s → SaysAll q.plan.world q.tree chosen s
  says_over chosen s h = rw (over.0, over.1) h

-- what the run of the root's node from the first state says of a plan of so many nodes
pub told_by_run : (q : Setting) → IsSetting q → (count : ℕ) → count ≡ length q.tree.nodes → (o : Option ℕ)
    → IsLeast (FitsNode q (root_of count) 0) (last q) o → MatchBool (is_some o) (IsSolved q) (IsSolved q → ⊥)
told_by_run q is count same None least =
    let P : ℕ → Type 0 = λ n. IsLeast (FitsNode q (root_of n) 0) (last q) None in
    unsolved q is (subst P same least)
told_by_run q is count same (Some f) least =
    let P : ℕ → Type 0 = λ n. FitsNode q (root_of n) 0 f in
    let v = root_number q.tree in
    let le : f ≤ last q = least.within in
    (solved_fits q is).1 (wider (children_at q.tree.nodes) (IsMeaning q) (suc v) (Task v) 0 0 f (last q) (omega arith) le (subst P same least.reached))

-- where the root of so many nodes has no finish, the plan is not solved
pub none_walked : (q : Setting) (is : IsSetting q) (count : ℕ) (o : Option (Vec (Option Stand))) → count ≡ length q.tree.nodes
    → IsWalk (plan_facts q) count (option_map (λ s. s.items) o) → o ≡ None → IsSolved q → ⊥
none_walked q is count None same walk e =
    let P : ℕ → Type 0 = λ n. IsLeast (FitsNode q (root_of n) 0) (last q) None in
    unsolved q is (subst P same walk)
none_walked q is count (Some s) same walk e = absurd (let clash : Some s ≡ None = e in cc)

-- what is told of the first node without a candidate
pub first_told : (w : World) (t : PlanTree) (o : Option ℕ) (line : ℕ) → TellsFirst w t o → o ≡ Some line → (q : Setting) → IsSettingOver w t q → IsFirstWithout q line
first_told w t None line tells e q over = absurd (let clash : None ≡ Some line = e in cc)
first_told w t (Some l) line tells e q over = let same : l ≡ line = cc in subst (IsFirstWithout q) same (tells q over)

pub none_told : (w : World) (t : PlanTree) (o : Option ℕ) → TellsFirst w t o → o ≡ None → (q : Setting) → IsSettingOver w t q → HaveCandidates q
none_told w t None tells e q over = tells q over
none_told w t (Some l) tells e q over = absurd (let clash : Some l ≡ None = e in cc)
