-- Where the nodes of a walk are those of a tree, the candidates by which they stand have an executable
-- sequence in which each precondition stands at its index.
use Rattle.std.proofs.Common.{◌≡◌, ℕ, zero, suc, ◌≤◌, ◌<◌, true, List, refl, sym, ap, ◌∙◌, subst, arith, Option, Some, None, length, Contains}
use Rattle.hv_plan.specs.Trees.{Item, Act, Task, Pre, AtOrBelow, itself, its_pre, its_child, Tree, Reached, IsTree, IsWithin, HasActions}
use Rattle.hv_plan.specs.TreeViews.{child_view}
use Rattle.hv_plan.specs.declared.tree.Child.{Child}
use Rattle.hv_plan.specs.declared.tree.Child.TheVariants as children
use Rattle.hv_order.specs.Meanings.{Choice, AreOrders}
use Rattle.hv_order.specs.StandIns.{Comes}
use Rattle.hv_order.specs.Sequences.{HasSequenceAt}
use Rattle.hv_order.specs.Certificates.{subtask_start, AreFinishes, KeepsRules}
use Rattle.hv_order.specs.inside.Children.{child_at}
use Rattle.hv_order.specs.inside.Arrangements.{Arrangement}
use Rattle.hv_order.specs.inside.Facts.{Facts}
use Rattle.hv_order.specs.inside.Walks.{said_of, root_of, winner_of, index_of, start_in, finish_in, index_in, begins, over, AreBranches, IsStanding, AreWalked}
use Rattle.hv_order.specs.inside.WalkedTrees.{item_at, HasAll, AreOfTree, IsChosen}
use Rattle.hv_order.specs.declared.walk.Stand.{Stand}
use Rattle.hv_order.proofs.Certificates.{check_law}
use Rattle.hv_order.proofs.LatestEnds.{over_by, are_finishes}

-- the node that a line stands for
node_child : (x : Child) (u : ℕ) → child_view x ≡ Task u → x ≡ children.Node u
node_child (children.Action k) u e = absurd (let h : Act k ≡ Task u = e in cc)
node_child (children.Node v) u e = let h : Task v ≡ Task u = e in let k : v ≡ u = cc in ap children.Node k

module _ (q : Facts) (count : ℕ) (stands : List (Option Stand)) (walked : AreWalked q count stands) (t : Tree) (tree : IsTree t) (of_tree : AreOfTree q t (root_of count)) where
  -- a node stands
  abbrev pub Stands : ℕ → Type 0
  Stands v = (s : Stand) × (said_of stands v ≡ Some s)

  -- the root, as it stands
  root_stand : Stand
  root_stand = walked.root.0

  root_said : said_of stands (root_of count) ≡ Some root_stand
  unfolding root_stand
  root_said = walked.root.1

  root_is : IsStanding q stands (root_of count) root_stand
  root_is = walked.each (root_of count) root_stand root_said

  -- a line among items that all stand for subtasks stands
  has_stand : (c : Arrangement) (s : Stand) (xs : List Item) → AreBranches q stands s c → HasAll c xs → (u : ℕ) → Contains xs (Task u) → Stands u
  has_stand c s xs branches all u m = let (j, lt, e) = all (Task u) m in branches.stand j u (lt, node_child (child_at c.children j) u e)

  -- each line of the tree stands
  line_below : (a x : Item) → Contains t.initial_tasks a → AtOrBelow t a x → (u : ℕ) → x ≡ Task u → Stands u
  line_below a x i itself u e =
      has_stand (winner_of root_stand) root_stand t.initial_tasks root_is.branches (of_tree.initial (winner_of root_stand) root_is.is.is_candidate) u
      (let P : Item → Type 0 = λ w. Contains t.initial_tasks w in subst P e i)
  line_below a x i (its_pre {v = v} p) u e = absurd (let h : Pre v ≡ Task u = e in cc)
  line_below a x i (its_child {v = v} p m) u e =
      let (s, said) = line_below a (Task v) i p v refl in
      let is = walked.each v s said in
      has_stand (winner_of s) s (t.children v) is.branches (of_tree.children v (winner_of s) is.is.is_candidate) u
      (let P : Item → Type 0 = λ w. Contains (t.children v) w in subst P e m)

  pub stands_of : (v : ℕ) → Reached t (Task v) → Stands v
  stands_of v r = line_below r.ancestor (Task v) r.is_initial r.below v refl

  -- where a node stands, its index is that of its precondition
  index_is : (v : ℕ) (s : Stand) → said_of stands v ≡ Some s → index_of stands v ≡ s.at
  index_is v s e = ap index_in e

  -- a child begins no later than its start is counted
  begin_is : (o : Option Stand) → ((s : Stand) → o ≡ Some s → s.start ≤ s.at) → start_in o ≤ index_in o
  begin_is None h = omega arith
  begin_is (Some s) h = h s refl

  begins_by : (x : Child) → begins stands x ≤ subtask_start (index_of stands) (child_view x)
  begins_by (children.Action k) = omega arith
  begins_by (children.Node u) = begin_is (said_of stands u) (λ s e. (walked.each u s e).is.late)

  module _ (finish : Item → ℕ) (fin : AreFinishes t (index_of stands) finish) where
    -- a child is over by where its node is, if lines are
    over_child : (x : Child) → ((u : ℕ) → x ≡ children.Node u → finish (Task u) ≤ finish_in (said_of stands u)) → finish (child_view x) ≤ over stands x
    over_child (children.Action k) h = let e = fin.act k in omega arith
    over_child (children.Node u) h = h u refl

    over_all : (c : Arrangement) (s : Stand) (xs : List Item) → AreBranches q stands s c → HasAll c xs → ((u : ℕ) → Contains xs (Task u) → finish (Task u) ≤ finish_in (said_of stands u)) → (x : Item) → Contains xs x → finish x ≤ s.finish
    over_all c s xs branches all h x m =
        let (j, lt, e) = all x m in
        let child = over_child (child_at c.children j) (λ u k. h u (let P : Item → Type 0 = λ w. Contains xs w in subst P (sym e ∙ ap child_view k) m)) in
        let until = branches.until j lt in
        let same = ap finish e in
        omega arith

    -- a line is over by where its node is
    over_line : (depth v : ℕ) → v < depth → (s : Stand) → said_of stands v ≡ Some s → finish (Task v) ≤ s.finish
    over_line zero v lt s said = absurd (omega arith)
    over_line (suc depth) v lt s said =
        let is = walked.each v s said in
        let own = index_is v s said in
        let early = is.is.early in
        fin.least v s.finish (omega arith)
        (over_all (winner_of s) s (t.children v) is.branches (of_tree.children v (winner_of s) is.is.is_candidate)
        (λ u m. let (r, k) = has_stand (winner_of s) s (t.children v) is.branches (of_tree.children v (winner_of s) is.is.is_candidate) u m in let lower = tree.lower v u m in let b = over_line depth u (omega arith) r k in let e = ap finish_in k in omega arith))

    -- so is each child of a node that stands
    child_over : (c : Arrangement) (s : Stand) → AreBranches q stands s c → (j : ℕ) → j < length c.children → finish (item_at c j) ≤ over stands (child_at c.children j)
    child_over c s branches j lt = over_child (child_at c.children j) (λ u e. let (r, k) = branches.stand j u (lt, e) in let b = over_line (suc u) u (omega arith) r k in let same = ap finish_in k in omega arith)

    from_start : (c : Arrangement) (s : Stand) → AreBranches q stands s c → (j : ℕ) → j < length c.children → s.at ≤ subtask_start (index_of stands) (item_at c j)
    from_start c s branches j lt = let a = branches.from j lt in let b = begins_by (child_at c.children j) in omega arith

    in_order : (c : Arrangement) (s : Stand) → AreBranches q stands s c → (x y : Item) → Comes (length c.children) (item_at c) (q.before c) x y → finish x ≤ subtask_start (index_of stands) y
    in_order c s branches x y comes =
        let a = child_over c s branches comes.first comes.first_is in
        let b = branches.order comes.first comes.second comes.first_is comes.second_is comes.before in
        let d = begins_by (child_at c.children comes.second) in
        let e = ap finish comes.of_first in
        let f = ap (subtask_start (index_of stands)) comes.of_second in
        omega arith

    until_end : (x : Item) → Contains t.initial_tasks x → finish x ≤ q.last
    until_end x m =
        let c = winner_of root_stand in
        let (j, lt, e) = of_tree.initial c root_is.is.is_candidate x m in
        let a = child_over c root_stand root_is.branches j lt in
        let b = root_is.branches.until j lt in
        let d = root_is.is.least.within in
        let same = ap finish e in
        omega arith

    module _ (o : Choice) (chosen : IsChosen q count stands o) where
      from_line : (v : ℕ) (x : Item) → Reached t (Task v) → Contains (t.children v) x → index_of stands v ≤ subtask_start (index_of stands) x
      from_line v x r m =
          let (s, said) = stands_of v r in
          let is = walked.each v s said in
          let c = winner_of s in
          let (j, lt, e) = of_tree.children v c is.is.is_candidate x m in
          let a = from_start c s is.branches j lt in
          let own = index_is v s said in
          let same = ap (subtask_start (index_of stands)) e in
          omega arith

      holds_line : (v : ℕ) → Reached t (Task v) → (o.line v).true_at (index_of stands v) ≡ true
      holds_line v r =
          let (s, said) = stands_of v r in
          let is = walked.each v s said in
          let means = chosen.line v s said in
          subst (λ k. (o.line v).true_at k ≡ true) (sym (index_is v s said)) ((means.true_at s.at).1 is.is.holds)

      order_line : (v : ℕ) (x y : Item) → Reached t (Task v) → (o.line v).before x y ≡ true → finish x ≤ subtask_start (index_of stands) y
      order_line v x y r h =
          let (s, said) = stands_of v r in
          let is = walked.each v s said in
          let means = chosen.line v s said in
          in_order (winner_of s) s is.branches x y ((means.before x y).0 h)

      order_root : (x y : Item) → o.root.before x y ≡ true → finish x ≤ subtask_start (index_of stands) y
      order_root x y h =
          let means = chosen.root root_stand root_said in
          in_order (winner_of root_stand) root_stand root_is.branches x y ((means.before x y).0 h)

      pub keeps_rules : KeepsRules t o (index_of stands) finish q.last
      keeps_rules = record {
        holds = holds_line;
        from = from_line;
        order = λ v x y r m k h. order_line v x y r h;
        until = until_end;
        root_order = λ x y m k h. order_root x y h;
      }

-- what is walked has an executable sequence, by the choice of these candidates and the indices of the walk
pub walked_sequence : (q : Facts) (count : ℕ) (stands : List (Option Stand)) (t : Tree) (o : Choice) (depth : ℕ) → AreWalked q count stands → IsTree t → AreOfTree q t (root_of count) → IsChosen q count stands o → AreOrders t o → IsWithin t depth → HasActions t q.last → HasSequenceAt t o (index_of stands) q.last
walked_sequence q count stands t o depth walked tree of_tree chosen orders within all =
    let finish = over_by t tree (index_of stands) in
    let fin = are_finishes t tree (index_of stands) in
    (check_law t o (index_of stands) finish depth q.last tree orders fin within all).1
    (keeps_rules q count stands walked t tree of_tree finish fin o chosen)
