-- What the check of a certificate finds: a certificate certifies the plan exactly where its lines are
-- those of the plan, what it says of each node is right, and all nodes keep the rules.
use Rattle.std.proofs.Common.{◌≡◌, ℕ, zero, suc, ◌<◌, ◌≤◌, ◌⊎◌, inl, inr, List, [], ◌∷◌, Some, None, true, length, drop, slice_get, refl, sym, ap, ◌∙◌, subst, arith, Contains}
use Rattle.std.specs.Prelude.{slice_index}
use Rattle.std.specs.List.{AllZip}
use Rattle.hv_lists.proofs.Pairs.{same_length, paired_at}
use Rattle.hv_world.specs.Orders.{Before, IsDirect}
use Rattle.hv_world.specs.Worlds.{Method}
use Rattle.hv_plan.specs.Trees.{Item, Act, Task, Pre, IsTree, Reached, IsWithin, HasActions}
use Rattle.hv_plan.specs.PlanTrees.{PlanTree, IsActionOf, children_at, root_number, tree_of}
use Rattle.hv_match.specs.Candidates.{method_at}
use Rattle.hv_order.specs.Meanings as meanings
use Rattle.hv_order.specs.Meanings.{Meaning, AreOrders, free_meaning}
use Rattle.hv_order.specs.Sequences.{HasSequenceAt, index_in}
use Rattle.hv_order.specs.Schedules.{IsSchedule}
use Rattle.hv_order.specs.Certificates.{subtask_start, AreFinishes, KeepsRules}
use Rattle.hv_order.specs.Settings.{Setting, last, child_for, HoldsAt, AmountsTo}
use Rattle.hv_order.specs.Certified.{IsChildId, Says, SaysLine, Certifies, line_numbers}
use Rattle.hv_order.specs.inside.PlanFacts.{IsSetting, OfMethod}
use Rattle.hv_order.specs.inside.Checks as checks
use Rattle.hv_order.specs.Misfits.{IsPart}
use Rattle.hv_order.specs.inside.Checks.{HasIdOf, HasLines, ArePlaces, matching_in, AreEntries, AreRight, finish_in, child_at, KeepsDirect, KeepsNode, KeepAll}
use Rattle.hv_certificate.specs.declared.certificate.Choice.{Choice}
use Rattle.hv_certificate.specs.declared.certificate.Certificate.{Certificate}
use Rattle.hv_order.proofs.Certificates.{check_law, same_schedule}
use Rattle.hv_order.proofs.Indices.{index_law}
use Rattle.hv_order.proofs.Deciding.{meaning_of}
use Rattle.hv_order.proofs.NodeParts.{IsCandidateHere, candidate_here, is_candidate_at, children_are, method_is, of_method, from_method, sound_network, order_decided, truth_decided, matching, order_count, meanings_are_orders}
use Rattle.hv_order.proofs.OrderChains.{before_within, direct_before, chained}
use Rattle.hv_order.proofs.RootNode.{always}
use Rattle.hv_order.proofs.ToldApart.{one_stand, same_firsts, one_child_id}
use Rattle.hv_order.proofs.TreeLines.{below_root, within_order}
use Rattle.hv_order.proofs.Writing.{zip_weaker}

-- what a zip says, place by place
pub zip_each : {A B : Type 0} (R S : A → B → Type 0) (xs : List A) (ys : List B) → AllZip R xs ys
    → ((i : ℕ) (x : A) (y : B) → slice_get xs i ≡ Some x → slice_get ys i ≡ Some y → R x y → S x y) → AllZip S xs ys
zip_each R S [] [] zip each = tt
zip_each R S [] (y ∷ ys) zip each = absurd zip
zip_each R S (x ∷ xs) [] zip each = absurd zip
zip_each R S (x ∷ xs) (y ∷ ys) zip each =
    (each 0 x y refl refl zip.0, zip_each R S xs ys zip.1 (λ i a b e f r. each (suc i) a b e f r))

pub behind_root : (t : PlanTree) (i v : ℕ) → slice_get (line_numbers t) i ≡ Some v → slice_get t.order (suc i) ≡ Some v
behind_root t i v e = by t.order e
  where
    by : (xs : List ℕ) → slice_get (drop 1 xs) i ≡ Some v → slice_get xs (suc i) ≡ Some v
    by [] f = absurd (let clash : None ≡ Some v = f in cc)
    by (x ∷ xs) f = f

pub in_lines : (t : PlanTree) (i v : ℕ) → slice_get t.order (suc i) ≡ Some v → slice_get (line_numbers t) i ≡ Some v
in_lines t i v e = by t.order e
  where
    by : (xs : List ℕ) → slice_get xs (suc i) ≡ Some v → slice_get (drop 1 xs) i ≡ Some v
    by [] f = absurd (let clash : None ≡ Some v = f in cc)
    by (x ∷ xs) f = f

module _ (q : Setting) (is : IsSetting q) where
  root_is : root_number q.tree ≡ is.tree.is_tree.root
  root_is = omega (arith, is.tree.is_tree.last)

  tree : IsTree (tree_of q.tree)
  tree = is.tree.is_tree.shape.tree

  root_below : root_number q.tree < length q.tree.nodes
  root_below = omega (arith, is.tree.is_tree.last)

  root_first : slice_get q.tree.order 0 ≡ Some (root_number q.tree)
  root_first = rw (is.tree.is_tree.order, root_is) refl

  all_actions : HasActions (tree_of q.tree) (last q)
  all_actions =
      let n : length is.tree.plan.actions ≡ last q = same_length (IsActionOf q.plan.world) is.tree.plan.actions q.tree.actions is.tree.is_tree.actions ∙ ap length (sym is.actions) in
      subst (HasActions (tree_of q.tree)) n is.tree.is_tree.shape.reached_actions

  within : IsWithin (tree_of q.tree) (root_number q.tree)
  within u m = tree.lower (root_number q.tree) u m

  reached : (v : ℕ) → v < root_number q.tree → Reached (tree_of q.tree) (Task v)
  reached v lt = is.tree.is_tree.shape.reached_lines v (omega (arith, lt, root_is))

  below : (v : ℕ) → Reached (tree_of q.tree) (Task v) → v < root_number q.tree
  below v r = below_root q.plan.world q.tree is.tree v r

  root_or_line : (v : ℕ) → v < length q.tree.nodes → (v ≡ root_number q.tree) ⊎ (v < root_number q.tree)
  root_or_line v lt = by (compare v (root_number q.tree))
    where
      compare : (v r : ℕ) → (v < r) ⊎ (r ≤ v)
      compare v r = grind arith

      by : (v < root_number q.tree) ⊎ (root_number q.tree ≤ v) → (v ≡ root_number q.tree) ⊎ (v < root_number q.tree)
      by (inl less) = inr less
      by (inr past) = inl (omega (arith, past, lt, is.tree.is_tree.last))

  -- a place in the order of nodes is that of the root line, or of a decomposition line
  module _ (ps : List ℕ) (places : ArePlaces q.tree ps) where
    pub place_is : (k v : ℕ) → v < length q.tree.nodes → slice_get q.tree.order k ≡ Some v → slice_index ps v ≡ k
    place_is k v lt e = one_stand q.tree.order is.tree.is_tree.once (slice_index ps v) k v (places.each v lt) e

    root_place : slice_index ps (root_number q.tree) ≡ 0
    root_place = place_is 0 (root_number q.tree) root_below root_first

    line_place : (i v : ℕ) → slice_get (line_numbers q.tree) i ≡ Some v → slice_index ps v ≡ suc i
    line_place i v e =
        let at = behind_root q.tree i v e in
        place_is (suc i) v (within_order q.plan.world q.tree is.tree (suc i) v at) at

    record HasLine (v : ℕ) : Type 0 where
      line : ℕ
      stands : slice_get (line_numbers q.tree) line ≡ Some v
      place : slice_index ps v ≡ suc line

    line_at : (v : ℕ) → v < root_number q.tree → HasLine v
    line_at v lt =
        let in_tree : v < length q.tree.nodes = omega (arith, lt) in
        by (slice_index ps v) refl (places.each v in_tree)
      where
        by : (k : ℕ) → slice_index ps v ≡ k → slice_get q.tree.order k ≡ Some v → HasLine v
        by zero e at =
            let both : Some (root_number q.tree) ≡ Some v = sym root_first ∙ at in
            let same : root_number q.tree ≡ v = cc in
            absurd (omega (arith, same, lt))
        by (suc i) e at = record { line = i; stands = in_lines q.tree i v at; place = e }

  -- what a matching and a binding amount to
  pub meant : (v : ℕ) (M B : List ℕ) → IsCandidateHere q v M B → (m : Meaning) × AmountsTo q v M B m
  meant v M B h =
      let (m, stands) = meaning_of (length M) (child_for h.node M) (Before h.method.network.order) (order_decided q is v h.node h.has_node h.method h.has_method)
      (HoldsAt q h.method B) (truth_decided q is v h.node h.has_node h.method h.has_method B) in
      (m, record { node = h.node; has_node = h.has_node; method = h.method; has_method = h.has_method; candidate = h.candidate; stands = stands })

  pub here : (v : ℕ) (M B : List ℕ) (m : Meaning) → AmountsTo q v M B m → IsCandidateHere q v M B
  here v M B m a = record { node = a.node; has_node = a.has_node; method = a.method; has_method = a.has_method; candidate = a.candidate }

  module _ (v : ℕ) (M B : List ℕ) (m : Meaning) (a : AmountsTo q v M B m) where
    orders_node : meanings.IsOrder (children_at q.tree.nodes v) m.before
    orders_node = meanings_are_orders q is v m (record { matching = M; binding = B; amounts = a })

    child_is : (j : ℕ) → child_at (children_at q.tree.nodes v) M j ≡ child_for a.node M j
    child_is j = ap (λ xs. checks.child_at xs M j) (children_are q is v a.node a.has_node a.method a.has_method)

    pub holds_of : (k : ℕ) → m.true_at k ≡ true → OfMethod q v (λ x. HoldsAt q x B k)
    holds_of k e = of_method q is v a.node a.has_node a.method a.has_method (λ x. HoldsAt q x B k) ((a.stands.true_at k).0 e)

    true_of : (k : ℕ) → OfMethod q v (λ x. HoldsAt q x B k) → m.true_at k ≡ true
    true_of k h = (a.stands.true_at k).1 (from_method q is v a.node a.has_node a.method a.has_method (λ x. HoldsAt q x B k) h)

    -- the order of subtasks is kept exactly where that of their children is
    module _ (at : ℕ → ℕ) (finish : Item → ℕ) (spans : (x : Item) → subtask_start at x ≤ finish x) where
      ordered : ((i j : ℕ) → j < length M → IsDirect a.method.network.order i j → finish (child_at (children_at q.tree.nodes v) M i) ≤ subtask_start at (child_at (children_at q.tree.nodes v) M j))
          → (x y : Item) → m.before x y ≡ true → finish x ≤ subtask_start at y
      ordered direct x y e =
          let w = (a.stands.before x y).0 e in
          let sound = sound_network q is v a.node a.has_node a.method a.has_method in
          let count = order_count q is v a.node a.has_node a.method a.has_method M B a.candidate in
          let c : ℕ → Item = λ j. child_at (children_at q.tree.nodes v) M j in
          let kept = chained a.method.network.order sound.arrangeable (λ k. finish (c k)) (λ k. subtask_start at (c k)) (λ k. spans (c k))
          (λ i j lt d. direct i j (omega (arith, lt, count)) d) w.first w.second w.before in
          let first : c w.first ≡ x = child_is w.first ∙ w.of_first in
          let second : c w.second ≡ y = child_is w.second ∙ w.of_second in
          let P : Item → Type 0 = λ z. finish z ≤ subtask_start at (c w.second) in
          let Q : Item → Type 0 = λ z. finish x ≤ subtask_start at z in
          subst Q second (subst P first kept)

      pub direct_kept : ((x y : Item) → Contains (children_at q.tree.nodes v) x → Contains (children_at q.tree.nodes v) y → m.before x y ≡ true → finish x ≤ subtask_start at y)
          → (i j : ℕ) → j < length M → IsDirect a.method.network.order i j
          → finish (child_at (children_at q.tree.nodes v) M i) ≤ subtask_start at (child_at (children_at q.tree.nodes v) M j)
      direct_kept rule i j lt d =
          let sound = sound_network q is v a.node a.has_node a.method a.has_method in
          let count = order_count q is v a.node a.has_node a.method a.has_method M B a.candidate in
          let before = direct_before a.method.network.order sound.arrangeable i j d in
          let less : i < length M = let k = before_within a.method.network.order sound.arrangeable i j before in omega (arith, k, count) in
          let matched = matching q is v a.node a.has_node a.method a.has_method M B a.candidate in
          let P : Item → Type 0 = λ z. finish z ≤ subtask_start at (child_at (children_at q.tree.nodes v) M j) in
          let Q : Item → Type 0 = λ z. finish (child_for a.node M i) ≤ subtask_start at z in
          subst P (sym (child_is i)) (subst Q (sym (child_is j))
          (rule (child_for a.node M i) (child_for a.node M j) (matched.in_list i less) (matched.in_list j lt)
          ((a.stands.before (child_for a.node M i) (child_for a.node M j)).1
          (record { first = i; second = j; first_is = less; second_is = lt; of_first = refl; of_second = refl; before = before }))))

  orders_all : (o : meanings.Choice) (M B : ℕ → List ℕ) → AmountsTo q (root_number q.tree) (M (root_number q.tree)) (B (root_number q.tree)) o.root
      → ((v : ℕ) → v < root_number q.tree → AmountsTo q v (M v) (B v) (o.line v)) → AreOrders (tree_of q.tree) o
  orders_all o M B root nodes = record {
    of_root = orders_node (root_number q.tree) (M (root_number q.tree)) (B (root_number q.tree)) o.root root;
    of_lines = λ v r. orders_node v (M v) (B v) (o.line v) (nodes v (below v r));
  }

  pub method_one : (v : ℕ) (m n : Method) → method_at q.plan.world q.tree v ≡ Some m → method_at q.plan.world q.tree v ≡ Some n → m ≡ n
  method_one v m n e f = let both : Some m ≡ Some n = sym e ∙ f in cc

  in_tree : (v : ℕ) → v < root_number q.tree → v < length q.tree.nodes
  in_tree v lt = omega (arith, lt)

  -- where lines, entries and rules are right, it is a certificate
  module _ (c : Certificate) (ps : List ℕ) (Ms : List (List ℕ)) (ks fs : List ℕ) (places : ArePlaces q.tree ps) (are : AreEntries q c ps Ms ks)
      (fin : AreFinishes (tree_of q.tree) (slice_index ks) (finish_in fs)) where
    abbrev at : ℕ → ℕ
    at = slice_index ks

    abbrev matching_at : ℕ → List ℕ
    matching_at = matching_in Ms

    root_entry : (s : Choice) → IsPart c (slice_index ps (root_number q.tree)) s (at (root_number q.tree)) → (s ≡ c.root) × (at (root_number q.tree) ≡ 0)
    root_entry s part = let P : ℕ → Type 0 = λ k. IsPart c k s (at (root_number q.tree)) in subst P (root_place ps places) part

    root_at : at (root_number q.tree) ≡ 0
    root_at = let w = are.each (root_number q.tree) root_below in (root_entry w.choice w.part).1

    pub spans : (x : Item) → subtask_start at x ≤ finish_in fs x
    spans (Act k) = omega arith
    spans (Task v) = fin.own v
    spans (Pre v) = omega arith

    line_entry : (i v : ℕ) (s : Choice) (l : ℕ × Choice × ℕ) → slice_index ps v ≡ suc i → slice_get c.lines.items i ≡ Some l → IsPart c (slice_index ps v) s (at v)
        → (s ≡ l.1) × (l.2 ≡ at v)
    line_entry i v s l place at_l part =
        let P : ℕ → Type 0 = λ k. IsPart c k s (at v) in
        let (number, there) = subst P place part in
        let both : Some (number, s, at v) ≡ Some l = sym there ∙ at_l in
        let same : (number, s, at v) ≡ l = cc in
        (ap (λ (x : ℕ × Choice × ℕ). x.1) same, ap (λ (x : ℕ × Choice × ℕ). x.2) (sym same))

    module _ (lines : HasLines q.tree c) (keep : KeepAll q.plan.world q.tree Ms ks fs (last q)) where
      abbrev Bound : ℕ → Type 0
      Bound v = (v < length q.tree.nodes) ⊎ (length q.tree.nodes ≤ v)

      bound : (v : ℕ) → Bound v
      bound v = by v (length q.tree.nodes)
        where
          by : (v n : ℕ) → (v < n) ⊎ (n ≤ v)
          by v n = grind arith

      abbrev binding_by : (v : ℕ) → Bound v → List ℕ
      binding_by v (inl lt) = (are.each v lt).binding
      binding_by v (inr past) = []

      abbrev binding_at : ℕ → List ℕ
      binding_at v = binding_by v (bound v)

      candidate_at : (v : ℕ) (lt : v < length q.tree.nodes) → IsCandidateHere q v (matching_at v) (are.each v lt).binding
      candidate_at v lt = candidate_here q v (matching_at v) (are.each v lt).binding (are.each v lt).right.candidate

      abbrev meaning_by : (v : ℕ) → Bound v → Meaning
      meaning_by v (inl lt) = (meant v (matching_at v) (are.each v lt).binding (candidate_at v lt)).0
      meaning_by v (inr past) = free_meaning

      abbrev meaning_at : ℕ → Meaning
      meaning_at v = meaning_by v (bound v)

      abbrev choice : meanings.Choice
      choice = record { root = meaning_at (root_number q.tree); line = meaning_at }

      amounts_by : (v : ℕ) (o : Bound v) → v < length q.tree.nodes → AmountsTo q v (matching_at v) (binding_by v o) (meaning_by v o)
      amounts_by v (inl lt) less = (meant v (matching_at v) (are.each v lt).binding (candidate_at v lt)).1
      amounts_by v (inr past) less = absurd (omega (arith, past, less))

      amounts : (v : ℕ) → v < length q.tree.nodes → AmountsTo q v (matching_at v) (binding_at v) (meaning_at v)
      amounts v lt = amounts_by v (bound v) lt

      ordered_at : (v : ℕ) → v < length q.tree.nodes → (x y : Item) → (meaning_at v).before x y ≡ true → finish_in fs x ≤ subtask_start at y
      ordered_at v lt =
          let a = amounts v lt in
          ordered v (matching_at v) (binding_at v) (meaning_at v) a at (finish_in fs) spans ((keep.nodes v lt).order a.method (method_is q is v a.node a.has_node a.method a.has_method))

      holds_by : (v : ℕ) (o : Bound v) → v < length q.tree.nodes → OfMethod q v (λ x. HoldsAt q x (binding_by v o) (at v))
      holds_by v (inl lt) less = (are.each v lt).right.holds
      holds_by v (inr past) less = absurd (omega (arith, past, less))

      rules : KeepsRules (tree_of q.tree) choice at (finish_in fs) (last q)
      rules = record {
        holds = λ v r. let lt = in_tree v (below v r) in true_of v (matching_at v) (binding_at v) (meaning_at v) (amounts v lt) (at v) (holds_by v (bound v) lt);
        from = λ v x r m. (keep.nodes v (in_tree v (below v r))).behind x m;
        order = λ v x y r m k h. ordered_at v (in_tree v (below v r)) x y h;
        until = λ x m. let a = fin.child (root_number q.tree) x m in let b = keep.until in omega (arith, a, b);
        root_order = λ x y m k h. ordered_at (root_number q.tree) root_below x y h;
      }

      record IsSaid (v : ℕ) (B : List ℕ) : Type 0 where
        said : Choice
        part : IsPart c (slice_index ps v) said (at v)
        says : Says q v (matching_at v) B said

      said_by : (v : ℕ) (o : Bound v) → v < length q.tree.nodes → IsSaid v (binding_by v o)
      said_by v (inl lt) less = record { said = (are.each v lt).choice; part = (are.each v lt).part; says = (are.each v lt).right.says }
      said_by v (inr past) less = absurd (omega (arith, past, less))

      says_line : (i v : ℕ) (l : ℕ × Choice × ℕ) → slice_get (line_numbers q.tree) i ≡ Some v → slice_get c.lines.items i ≡ Some l → HasIdOf q.tree v l
          → SaysLine q matching_at binding_at at v l
      says_line i v l at_v at_l id =
          let w = said_by v (bound v) (within_order q.plan.world q.tree is.tree (suc i) v (behind_root q.tree i v at_v)) in
          let (choice, index) = line_entry i v w.said l (line_place ps places i v at_v) at_l w.part in
          let Q : Choice → Type 0 = λ s. Says q v (matching_at v) (binding_at v) s in
          record { id = id; choice = subst Q choice w.says; index = index }

      says_root : Says q (root_number q.tree) (matching_at (root_number q.tree)) (binding_at (root_number q.tree)) c.root
      says_root =
          let w = said_by (root_number q.tree) (bound (root_number q.tree)) root_below in
          let Q : Choice → Type 0 = λ s. Says q (root_number q.tree) (matching_at (root_number q.tree)) (binding_at (root_number q.tree)) s in
          subst Q (root_entry w.said w.part).0 w.says

      pub certified : Certifies q c
      certified = record {
        matching = matching_at;
        binding = binding_at;
        at = at;
        choice = choice;
        root = amounts (root_number q.tree) root_below;
        nodes = λ v lt. amounts v (in_tree v lt);
        says_root = says_root;
        says_lines = zip_each (HasIdOf q.tree) (SaysLine q matching_at binding_at at) (line_numbers q.tree) c.lines.items lines says_line;
        sequence =
            (check_law (tree_of q.tree) choice at (finish_in fs) (root_number q.tree) (last q) tree
            (orders_all choice matching_at binding_at (amounts (root_number q.tree) root_below) (λ v lt. amounts v (in_tree v lt)))
            fin within all_actions).1 rules;
      }

    -- what a certificate says of a node is what its entry says
    module _ (cert : Certifies q c) where
      one_matching : (v : ℕ) (B : List ℕ) (s : Choice) → Says q v (cert.matching v) (cert.binding v) s → Says q v (matching_at v) B s → cert.matching v ≡ matching_at v
      one_matching v B s a b = same_firsts (IsChildId q v) (cert.matching v) (matching_at v) s.children.items (λ x y i. one_child_id q is.tree v x y i) a.children b.children

      same_root : cert.matching (root_number q.tree) ≡ matching_at (root_number q.tree)
      same_root =
          let w = are.each (root_number q.tree) root_below in
          let Q : Choice → Type 0 = λ s. Says q (root_number q.tree) (matching_at (root_number q.tree)) w.binding s in
          one_matching (root_number q.tree) w.binding c.root cert.says_root (subst Q (root_entry w.choice w.part).0 w.right.says)

      same_line : (v : ℕ) → v < root_number q.tree → (cert.matching v ≡ matching_at v) × (cert.at v ≡ at v)
      same_line v lt =
          let w = are.each v (in_tree v lt) in
          let h = line_at ps places v lt in
          let (l, at_l, said) = paired_at (SaysLine q cert.matching cert.binding cert.at) (line_numbers q.tree) c.lines.items h.line v cert.says_lines h.stands in
          let (choice, index) = line_entry h.line v w.choice l h.place at_l w.part in
          let Q : Choice → Type 0 = λ s. Says q v (matching_at v) w.binding s in
          (one_matching v w.binding l.1 said.choice (subst Q choice w.right.says), sym said.index ∙ index)

      sequence : HasSequenceAt (tree_of q.tree) cert.choice at (last q)
      sequence = record { found = cert.sequence.found; indices = λ v r. cert.sequence.indices v r ∙ (same_line v (below v r)).1 }

      kept_rules : KeepsRules (tree_of q.tree) cert.choice at (finish_in fs) (last q)
      kept_rules =
          (check_law (tree_of q.tree) cert.choice at (finish_in fs) (root_number q.tree) (last q) tree
          (orders_all cert.choice cert.matching cert.binding cert.root cert.nodes) fin within all_actions).0 sequence

      node_kept : (v : ℕ) (m : Meaning) → cert.matching v ≡ matching_at v → AmountsTo q v (cert.matching v) (cert.binding v) m
          → ((x : Item) → Contains (children_at q.tree.nodes v) x → at v ≤ subtask_start at x)
          → ((x y : Item) → Contains (children_at q.tree.nodes v) x → Contains (children_at q.tree.nodes v) y → m.before x y ≡ true → finish_in fs x ≤ subtask_start at y)
          → KeepsNode q.plan.world q.tree ks fs v (matching_at v)
      node_kept v m same a from rule = record {
        behind = from;
        order = λ n g.
            let method : a.method ≡ n = method_one v a.method n (method_is q is v a.node a.has_node a.method a.has_method) g in
            let P : List ℕ → Type 0 = λ M. KeepsDirect ks fs (children_at q.tree.nodes v) M n.network.order in
            let Q : Method → Type 0 = λ n. KeepsDirect ks fs (children_at q.tree.nodes v) (cert.matching v) n.network.order in
            subst P same (subst Q method (direct_kept v (cert.matching v) (cert.binding v) m a at (finish_in fs) spans rule));
      }

      keeps : (v : ℕ) → (v ≡ root_number q.tree) ⊎ (v < root_number q.tree) → KeepsNode q.plan.world q.tree ks fs v (matching_at v)
      keeps v (inl same) =
          let Q : ℕ → Type 0 = λ u. KeepsNode q.plan.world q.tree ks fs u (matching_at u) in
          subst Q (sym same)
          (node_kept (root_number q.tree) cert.choice.root same_root cert.root (λ x m. omega (arith, root_at)) (λ x y m k h. kept_rules.root_order x y m k h))
      keeps v (inr lt) =
          node_kept v (cert.choice.line v) (same_line v lt).0 (cert.nodes v lt) (λ x m. kept_rules.from v x (reached v lt) m)
          (λ x y m k h. kept_rules.order v x y (reached v lt) m k h)

      pub keep_all : KeepAll q.plan.world q.tree Ms ks fs (last q)
      keep_all = record {
        nodes = λ v lt. keeps v (root_or_line v lt);
        until = fin.least (root_number q.tree) (last q) (omega (arith, root_at)) (λ x m. kept_rules.until x m);
      }

  -- a certificate has the plan's lines
  pub lines_of : (c : Certificate) → Certifies q c → HasLines q.tree c
  lines_of c cert = zip_weaker (SaysLine q cert.matching cert.binding cert.at) (HasIdOf q.tree) (λ v l s. s.id) (line_numbers q.tree) c.lines.items cert.says_lines

  -- and what it says of each node is right
  module _ (c : Certificate) (ps : List ℕ) (places : ArePlaces q.tree ps) (cert : Certifies q c) where
    cert_orders : AreOrders (tree_of q.tree) cert.choice
    cert_orders = orders_all cert.choice cert.matching cert.binding cert.root cert.nodes

    cert_schedule : IsSchedule (tree_of q.tree) cert.choice cert.at 0 (last q)
    cert_schedule =
        same_schedule (tree_of q.tree) tree cert.choice cert.at (index_in cert.sequence.found.sequence) cert.sequence.indices 0 (last q)
        (index_law (tree_of q.tree) cert.choice (last q) cert.sequence.found tree cert_orders)

    root_right : AreRight q c 0 (root_number q.tree)
    root_right =
        let v = root_number q.tree in
        let M = cert.matching v in
        let B = cert.binding v in
        record {
          choice = c.root;
          index = 0;
          part = (refl, refl);
          matching = M;
          binding = B;
          right = record {
            says = cert.says_root;
            candidate = is_candidate_at q v M B (here v M B cert.choice.root cert.root);
            holds = holds_of v M B cert.choice.root cert.root 0 (always q is cert.choice.root (record { matching = M; binding = B; amounts = cert.root }) 0);
          };
        }

    line_right : (v : ℕ) (lt : v < root_number q.tree) (i : ℕ) → slice_get (line_numbers q.tree) i ≡ Some v → AreRight q c (suc i) v
    line_right v lt i stands =
        let (l, at_l, said) = paired_at (SaysLine q cert.matching cert.binding cert.at) (line_numbers q.tree) c.lines.items i v cert.says_lines stands in
        let M = cert.matching v in
        let B = cert.binding v in
        let P : ℕ → Type 0 = λ k. OfMethod q v (λ x. HoldsAt q x B k) in
        record {
          choice = l.1;
          index = l.2;
          part = (l.0, at_l);
          matching = M;
          binding = B;
          right = record {
            says = said.choice;
            candidate = is_candidate_at q v M B (here v M B (cert.choice.line v) (cert.nodes v lt));
            holds = subst P (sym said.index) (holds_of v M B (cert.choice.line v) (cert.nodes v lt) (cert.at v) (cert_schedule.holds v (reached v lt)));
          };
        }

    pub all_right : (v : ℕ) → v < length q.tree.nodes → AreRight q c (slice_index ps v) v
    all_right v lt = by (root_or_line v lt)
      where
        by : (v ≡ root_number q.tree) ⊎ (v < root_number q.tree) → AreRight q c (slice_index ps v) v
        by (inl same) =
            let P : ℕ → Type 0 = λ u. AreRight q c (slice_index ps u) u in
            let Q : ℕ → Type 0 = λ k. AreRight q c k (root_number q.tree) in
            subst P (sym same) (subst Q (sym (root_place ps places)) root_right)
        by (inr less) =
            let h = line_at ps places v less in
            let Q : ℕ → Type 0 = λ k. AreRight q c k v in
            subst Q (sym h.place) (line_right v less h.line h.stands)
