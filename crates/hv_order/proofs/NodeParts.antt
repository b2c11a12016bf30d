-- A node of a plan's tree with its method, and what a candidate of it is.
use Rattle.std.proofs.Common.{◌≡◌, ℕ, ◌<◌, List, length, refl, sym, ap, ◌∙◌, ◌↔◌, subst, inl, inr, ◌⊎◌, Option, Some, None, MatchOption}
use Rattle.std.specs.Prelude.{All, slice_get, Bool, true, false}
use Rattle.std.proofs.lemmas.List.{length-map}
use Rattle.std.proofs.lemmas.Option.{slice_get_within, get_or_from_slice_get}
use Rattle.hv_lists.specs.Lists.{Once}
use Rattle.hv_lists.proofs.Pairs.{same_length}
use Rattle.hv_world.specs.Bounds.{IsSoundNetwork}
use Rattle.hv_world.specs.Orders.{Before}
use Rattle.hv_world.specs.Worlds.{Method}
use Rattle.hv_world.proofs.Cited.{before_is_decided, of_is_decided}
use Rattle.hv_state.specs.Plans.{StateAt}
use Rattle.hv_state.specs.Truth.{True}
use Rattle.hv_state.proofs.Cited.{true_decided, state_decided}
use Rattle.hv_plan.specs.Trees.{Item, IsTree}
use Rattle.hv_plan.specs.PlanTrees.{Node, children_of, children_at, tree_of, IsNumberedTree}
use Rattle.hv_match.specs.Candidates.{IsCandidate, IsCandidateAt, Does, child_task, child_tasks, node_method, method_at}
use Rattle.hv_order.specs.Meanings.{Meaning, IsOrder}
use Rattle.hv_order.specs.Settings.{Setting, HoldsAt, child_for, IsMeaning, HasCandidate}
use Rattle.hv_order.specs.StandIns.{IsMatching}
use Rattle.hv_order.specs.inside.PlanFacts.{IsSetting, OfMethod}
use Rattle.hv_order.proofs.Members.{not_true}
use Rattle.hv_order.proofs.Matchings.{is_matching}
use Rattle.hv_order.proofs.Deciding.{meaning_of}
use Rattle.hv_order.proofs.Orders.{meaning_order}

-- the parts of a candidate of a number
pub record IsCandidateHere (q : Setting) (v : ℕ) (M B : List ℕ) : Type 0 where
  pub node : Node
  pub has_node : slice_get q.tree.nodes v ≡ Some node
  pub method : Method
  pub has_method : node_method q.plan.world node ≡ Some method
  pub candidate : IsCandidate q.plan.world method node.objects (child_tasks q.tree node) M B

module _ (q : Setting) (v : ℕ) where
  pub candidate_here : (M B : List ℕ) → IsCandidateAt q.plan.world q.tree v M B → IsCandidateHere q v M B
  candidate_here M B is = by (slice_get q.tree.nodes v) refl is
    where
      by_method : (n : Node) → slice_get q.tree.nodes v ≡ Some n → (o : Option Method) → node_method q.plan.world n ≡ o → MatchOption o ⊥ (λ m. IsCandidate q.plan.world m n.objects (child_tasks q.tree n) M B) → IsCandidateHere q v M B
      by_method n has_node None has_method h = absurd h
      by_method n has_node (Some m) has_method h = record { node = n; has_node = has_node; method = m; has_method = has_method; candidate = h }

      by : (o : Option Node) → slice_get q.tree.nodes v ≡ o → MatchOption o ⊥ (λ n. MatchOption (node_method q.plan.world n) ⊥ (λ m. IsCandidate q.plan.world m n.objects (child_tasks q.tree n) M B)) → IsCandidateHere q v M B
      by None has_node h = absurd h
      by (Some n) has_node h = by_method n has_node (node_method q.plan.world n) refl h

  pub is_candidate_at : (M B : List ℕ) → IsCandidateHere q v M B → IsCandidateAt q.plan.world q.tree v M B
  is_candidate_at M B h = rw (h.has_node, h.has_method) h.candidate

module _ (q : Setting) (is : IsSetting q) (v : ℕ) (node : Node) (has_node : slice_get q.tree.nodes v ≡ Some node) (method : Method) (has_method : node_method q.plan.world node ≡ Some method) where
  pub children_are : children_at q.tree.nodes v ≡ node.children
  children_are = ap children_of has_node

  pub method_is : method_at q.plan.world q.tree v ≡ Some method
  method_is = rw has_node has_method

  pub of_method : (Is : Method → Type 0) → Is method → OfMethod q v Is
  of_method Is p = let P : Option Method → Type 0 = λ o. MatchOption o ⊥ Is in subst P (sym method_is) p

  pub from_method : (Is : Method → Type 0) → OfMethod q v Is → Is method
  from_method Is p = let P : Option Method → Type 0 = λ o. MatchOption o ⊥ Is in subst P method_is p

  numbered : IsNumberedTree (tree_of q.tree) is.tree.is_tree.root (length is.tree.plan.actions)
  numbered = is.tree.is_tree.shape

  pub is_tree : IsTree (tree_of q.tree)
  is_tree = numbered.tree

  pub child_once : Once node.children
  child_once = let P : List Item → Type 0 = λ xs. Once xs in subst P children_are (numbered.child_once v)

  -- the order of the method is sound
  pub sound_network : IsSoundNetwork method.network
  sound_network = by node.method has_method
    where
      by : (o : Option ℕ) → (elim o as (λ x. Option Method) [ None ↦ Some q.plan.world.top | Some k ↦ slice_get q.plan.world.methods k ]) ≡ Some method → IsSoundNetwork method.network
      by None e = let same : q.plan.world.top ≡ method = cc in subst (λ (m : Method). IsSoundNetwork m.network) same is.sound.top
      by (Some k) e =
          let lt = slice_get_within q.plan.world.methods k method e in
          let here = get_or_from_slice_get q.plan.world.methods k method method e in
          subst (λ (m : Method). IsSoundNetwork m.network) here (is.sound.methods k method lt)

  pub order_decided : (i j : ℕ) → Before method.network.order i j ⊎ (Before method.network.order i j → ⊥)
  order_decided = before_is_decided method.network.order sound_network.arrangeable.pairs

  pub truth_decided : (B : List ℕ) (k : ℕ) → HoldsAt q method B k ⊎ (HoldsAt q method B k → ⊥)
  truth_decided B k = by q.is_with refl (true_decided q.plan.world.typing (of_is_decided q.plan.world.typing is.sound.typing) (StateAt q.plan k) (state_decided q.plan (of_is_decided q.plan.world.typing is.sound.typing) k) method.precondition B)
    where
      by : (b : Bool) → q.is_with ≡ b → True q.plan.world.typing (StateAt q.plan k) method.precondition B ⊎ (True q.plan.world.typing (StateAt q.plan k) method.precondition B → ⊥) → HoldsAt q method B k ⊎ (HoldsAt q method B k → ⊥)
      by b e (inl t) = inl (λ h. t)
      by true e (inr n) = inr (λ h. n (h e))
      by false e (inr n) = inl (λ h. not_true (sym e ∙ h))

  -- a candidate gives each child one subtask, and as many subtasks as the order has
  module _ (M B : List ℕ) (candidate : IsCandidate q.plan.world method node.objects (child_tasks q.tree node) M B) where
    task_count : length (child_tasks q.tree node) ≡ length node.children
    task_count = length-map node.children (child_task q.tree)

    pub places_within : All (λ x. x < length node.children) M
    places_within = subst (λ n. All (λ x. x < n) M) task_count candidate.within

    pub matching : IsMatching (children_at q.tree.nodes v) (length M) (child_for node M)
    matching =
        let P : List Item → Type 0 = λ xs. IsMatching xs (length M) (child_for node M) in
        subst P (sym children_are) (is_matching node.children child_once M candidate.once places_within (candidate.all ∙ task_count))

    pub order_count : method.network.order.len ≡ length M
    order_count = sound_network.order ∙ sym (same_length (Does (child_tasks q.tree node) B) M method.network.subtasks candidate.done)

    pub has_meaning : (c : Meaning) × IsMeaning q v c
    has_meaning =
        let (c, stands) = meaning_of (length M) (child_for node M) (Before method.network.order) order_decided (HoldsAt q method B) (truth_decided B) in
        (c, record { matching = M; binding = B; amounts = record { node = node; has_node = has_node; method = method; has_method = has_method; candidate = candidate; stands = stands } })

-- a node that has a candidate has a meaning, and only such a node
pub meanings_both : (q : Setting) → IsSetting q → (v : ℕ) → HasCandidate q v ↔ ((c : Meaning) × IsMeaning q v c)
meanings_both q is v = (
  (λ h. let w = candidate_here q v h.matching h.binding h.candidate in has_meaning q is v w.node w.has_node w.method w.has_method h.matching h.binding w.candidate),
  (λ m. from m.1),
)
  where
    from : {c : Meaning} → IsMeaning q v c → HasCandidate q v
    from m =
        let a = m.amounts in
        record {
          matching = m.matching;
          binding = m.binding;
          candidate = is_candidate_at q v m.matching m.binding (record { node = a.node; has_node = a.has_node; method = a.method; has_method = a.has_method; candidate = a.candidate });
        }

-- whatever a node's candidates amount to orders its children
pub meanings_are_orders : (q : Setting) → IsSetting q → (v : ℕ) (c : Meaning) → IsMeaning q v c → IsOrder (children_at q.tree.nodes v) c.before
meanings_are_orders q is v c m =
    let a = m.amounts in
    let sound = sound_network q is v a.node a.has_node a.method a.has_method in
    meaning_order a.method.network.order sound.arrangeable (children_at q.tree.nodes v) (length m.matching) (child_for a.node m.matching) (HoldsAt q a.method m.binding) c
    (matching q is v a.node a.has_node a.method a.has_method m.matching m.binding a.candidate) a.stands
