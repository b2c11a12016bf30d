-- The plan is solved exactly where the root's node fits from the initial state to the last: the root is
-- a node whose precondition is always true.
use Rattle.std.proofs.Common.{◌≡◌, ℕ, ◌+◌, List, length, sym, ap, ◌∙◌, ◌↔◌, subst, arith, Option, Some, None, MatchOption}
use Rattle.std.specs.Prelude.{slice_get, option_and_then, true}
use Rattle.hv_lists.proofs.Places.{member_at}
use Rattle.hv_lists.proofs.Pairs.{same_length}
use Rattle.hv_world.specs.Values.{Formula}
use Rattle.hv_world.specs.Worlds.{Method}
use Rattle.hv_state.specs.Plans.{StateAt}
use Rattle.hv_state.specs.Truth.{True}
use Rattle.hv_plan.specs.Trees.{IsWithin, HasActions}
use Rattle.hv_plan.specs.PlanTrees.{Node, IsRootOf, IsActionOf, IsNumberedTree, root_number, tree_of}
use Rattle.hv_match.specs.Candidates.{node_method}
use Rattle.hv_order.specs.Finishes.{FitsAll}
use Rattle.hv_order.specs.Meanings.{Meaning, AreMeanings}
use Rattle.hv_order.specs.LeastFinishes.{PlanCanBePlaced}
use Rattle.hv_order.specs.Settings.{Setting, last, HoldsAt, IsMeaning, IsSolved}
use Rattle.hv_order.specs.Tables.{IsLeast}
use Rattle.hv_order.specs.inside.PlanFacts.{IsSetting, OfMethod, FitsNode}
use Rattle.hv_order.proofs.Solutions.{placed_both, sequence_both}
use Rattle.hv_order.proofs.NodeParts.{meanings_are_orders}

module _ (q : Setting) (is : IsSetting q) where
  numbered : IsNumberedTree (tree_of q.tree) is.tree.is_tree.root (length is.tree.plan.actions)
  numbered = is.tree.is_tree.shape

  -- the last node is that of the root line
  root_is : root_number q.tree ≡ is.tree.is_tree.root
  root_is = omega (arith, is.tree.is_tree.last)

  -- its method is the initial network
  no_method : (n : Node) → slice_get q.tree.nodes (root_number q.tree) ≡ Some n → n.method ≡ None
  no_method n e = by (slice_get q.tree.nodes is.tree.is_tree.root) (ap (slice_get q.tree.nodes) (sym root_is) ∙ e) is.tree.is_tree.root_node
    where
      by : (o : Option Node) → o ≡ Some n → MatchOption o ⊥ (IsRootOf q.tree is.tree.plan.root) → n.method ≡ None
      by None f h = absurd h
      by (Some r) f h = let same : r ≡ n = cc in ap (λ (x : Node). x.method) (sym same) ∙ h.method

  its_method : (n : Node) (m : Method) → n.method ≡ None → node_method q.plan.world n ≡ Some m → q.plan.world.top ≡ m
  its_method n m none e = by n.method none e
    where
      by : (o : Option ℕ) → o ≡ None → (elim o as (λ x. Option Method) [ None ↦ Some q.plan.world.top | Some k ↦ slice_get q.plan.world.methods k ]) ≡ Some m → q.plan.world.top ≡ m
      by None f g = cc
      by (Some k) f g = absurd (let clash : Some k ≡ None = f in cc)

  none_true : (B : List ℕ) (k : ℕ) → True q.plan.world.typing (StateAt q.plan k) q.plan.world.top.precondition B
  none_true B k = let P : Formula → Type 0 = λ f. True q.plan.world.typing (StateAt q.plan k) f B in subst P (sym is.top) tt

  -- its precondition is true in each state
  pub always : (c : Meaning) → IsMeaning q (root_number q.tree) c → (k : ℕ) → c.true_at k ≡ true
  always c w k =
      let a = w.amounts in
      let top = its_method a.node a.method (no_method a.node a.has_node) a.has_method in
      (a.stands.true_at k).1 (subst (λ (m : Method). HoldsAt q m w.binding k) top (λ h. none_true w.binding k))

  -- so where its method is asked, it is
  pub root_holds : (v : ℕ) (B : List ℕ) (k : ℕ) → v + 1 ≡ length q.tree.nodes → OfMethod q v (λ m. HoldsAt q m B k)
  root_holds v B k e =
      let here : root_number q.tree ≡ v = omega (arith, e) in
      subst (λ u. OfMethod q u (λ m. HoldsAt q m B k)) here (at_root (member_at q.tree.nodes (root_number q.tree) (omega (arith, is.tree.is_tree.last))))
    where
      at_root : ((n : Node) × (slice_get q.tree.nodes (root_number q.tree) ≡ Some n)) → OfMethod q (root_number q.tree) (λ m. HoldsAt q m B k)
      at_root (n, has) =
          let P : Option Node → Type 0 = λ o. MatchOption (option_and_then (node_method q.plan.world) o) ⊥ (λ m. HoldsAt q m B k) in
          let Q : Option ℕ → Type 0 = λ o. MatchOption (elim o as (λ x. Option Method) [ None ↦ Some q.plan.world.top | Some k ↦ slice_get q.plan.world.methods k ]) ⊥ (λ m. HoldsAt q m B k) in
          subst P (sym has) (subst Q (sym (no_method n has)) (λ h. none_true B k))

  from_all : (s f : ℕ) → FitsAll (tree_of q.tree) (IsMeaning q (root_number q.tree)) (IsMeaning q) (root_number q.tree) s f → FitsNode q (root_number q.tree) s f
  from_all s f w = record {
    meaning = w.meaning;
    listed = w.listed;
    fact = record {
      at = s;
      late = omega arith;
      early = w.fact.ordered;
      holds = always w.meaning w.listed s;
      together = w.fact.together;
    };
  }

  to_all : (s f : ℕ) → FitsNode q (root_number q.tree) s f → FitsAll (tree_of q.tree) (IsMeaning q (root_number q.tree)) (IsMeaning q) (root_number q.tree) s f
  to_all s f w =
      let b = w.fact in
      let g = b.together in
      let late = b.late in
      let early = b.early in
      record {
        meaning = w.meaning;
        listed = w.listed;
        fact = record {
          ordered = omega arith;
          together = record {
            start = g.start;
            finish = g.finish;
            fits = g.fits;
            from = λ x m. let behind = g.from x m in omega arith;
            until = g.until;
            order = g.order;
          };
        };
      }

  within : IsWithin (tree_of q.tree) (root_number q.tree)
  within u m = numbered.tree.lower (root_number q.tree) u m

  action_count : length is.tree.plan.actions ≡ last q
  action_count = same_length (IsActionOf q.plan.world) is.tree.plan.actions q.tree.actions is.tree.is_tree.actions ∙ ap length (sym is.actions)

  all_reached : HasActions (tree_of q.tree) (last q)
  all_reached = subst (HasActions (tree_of q.tree)) action_count numbered.reached_actions

  meanings : AreMeanings (tree_of q.tree) (IsMeaning q (root_number q.tree)) (IsMeaning q)
  meanings = record {
    of_root = λ c m. meanings_are_orders q is (root_number q.tree) c m;
    of_lines = λ v c m. meanings_are_orders q is v c m;
  }

  -- the root's node fits between two states exactly where the steps of the plan can be placed between them
  pub root_placed : (s f : ℕ) → FitsNode q (root_number q.tree) s f ↔ PlanCanBePlaced q s f
  root_placed s f =
      let (to_fits, to_placed) = placed_both (tree_of q.tree) (IsMeaning q (root_number q.tree)) (IsMeaning q) (root_number q.tree) s f numbered.tree meanings within in
      ((λ w. to_placed (to_all s f w)), (λ p. from_all s f (to_fits p)))

  pub solved_fits : IsSolved q ↔ FitsNode q (root_number q.tree) 0 (last q)
  solved_fits =
      let (to_fits, to_solution) = sequence_both (tree_of q.tree) (IsMeaning q (root_number q.tree)) (IsMeaning q) (root_number q.tree) (last q) numbered.tree meanings within all_reached in
      ((λ h. from_all 0 (last q) (to_fits h)), (λ w. to_solution (to_all 0 (last q) w)))

  pub unsolved : IsLeast (FitsNode q (root_number q.tree) 0) (last q) None → IsSolved q → ⊥
  unsolved no_finish h = no_finish (last q) (omega arith) (solved_fits.0 h)
