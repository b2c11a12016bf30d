-- The tree of a plan's shape and of what its lines say is the tree of the plan.
use Rattle.std.proofs.Common.{Contains, ◌≡◌, ℕ, zero, suc, ◌+◌, ◌-◌, ◌<◌, ◌≤◌, inl, inr, List, [], ◌∷◌, map, length, slice_get, Option, Some, None, refl, ap, sym, subst, ◌∙◌, arith}
use Rattle.std.specs.Prelude.{get_or, option_and_then, MatchOption}
use Rattle.std.specs.List.{AllZip}
use Rattle.std.proofs.Math.Path.{fun_ext}
use Rattle.std.proofs.lemmas.Option.{get_or_from_slice_get, slice_get_past, slice_get_within}
use Rattle.hv_lists.proofs.Contained.{contains_first, in_tail, contains_at}
use Rattle.hv_lists.proofs.Numbers.{either_side}
use Rattle.hv_lists.proofs.Places.{map_some, member_at}
use Rattle.hv_lists.proofs.Pairs.{paired_at}
use Rattle.hv_world.specs.Bindings.{GroundAction}
use Rattle.hv_lists.specs.Lists.{Once}
use Rattle.hv_world.specs.Worlds.{World}
use Rattle.hv_plan.specs.Values.{Action, Decomposition, Plan}
use Rattle.hv_plan.specs.Trees.{Item, Act, Task, Pre}
use Rattle.hv_plan.specs.PlanTrees.{Node, PlanTree, children_of, children_at, StandsFor, IsActionOf, IsNodeOf, IsRootOf, NodeIs, IsNumberedTree, IsTreeOf}
use Rattle.hv_plan.specs.PlanTrees as trees
use Rattle.hv_plan.specs.inside.ShapeViews.{Shape, Stands, line_id, IsShape, children_of_node, items_in, root_node, shape_tree}
use Rattle.hv_plan.specs.inside.FitViews.{IsDecomposed}
use Rattle.hv_plan.specs.inside.NodeViews.{node_of, node_of_line, node_of_root, nodes_from, nodes_of}
use Rattle.hv_plan.specs.inside.FitViews.{Decomposed}
use Rattle.hv_plan.specs.inside.Origins.{origin_of_action, origin_of_line}
use Rattle.hv_plan.specs.declared.origin.Origin.{Origin}
use Rattle.hv_plan.proofs.ChildLemmas.{mapped_at}

-- as many nodes as places, and one more
many_from : (r : ℕ) (os : List Origin) (s : Shape) (xs : List Decomposed) (v : ℕ) (ks : List ℕ) → length (nodes_from r os s xs v ks) ≡ length ks + 1
many_from r os s xs v [] = refl
many_from r os s xs v (k ∷ ks) = let rest = many_from r os s xs (v + 1) ks in let more : suc (length (nodes_from r os s xs (v + 1) ks)) ≡ suc (length ks) + 1 = omega (arith, rest) in more

-- the node of a number
node_from : (r : ℕ) (os : List Origin) (s : Shape) (xs : List Decomposed) (v : ℕ) (ks : List ℕ) (j : ℕ) → j ≤ length ks
    → slice_get (nodes_from r os s xs v ks) j
    ≡ Some (node_of r (option_and_then (slice_get os) (slice_get ks j)) (option_and_then (slice_get xs) (slice_get ks j)) (children_of_node s (v + j)))
node_from r os s xs v [] zero le = ap (λ u. Some (node_of r None None (children_of_node s u))) (omega arith)
node_from r os s xs v [] (suc j) le = absurd (omega (arith, le))
node_from r os s xs v (k ∷ ks) zero le = ap (λ u. Some (node_of r (slice_get os k) (slice_get xs k) (children_of_node s u))) (omega arith)
node_from r os s xs v (k ∷ ks) (suc j) le =
    node_from r os s xs (v + 1) ks j (omega (arith, le))
    ∙ ap (λ u. Some (node_of r (option_and_then (slice_get os) (slice_get ks j)) (option_and_then (slice_get xs) (slice_get ks j)) (children_of_node s u))) (omega arith)

-- how many nodes there are, and which they are
pub as_many_nodes : (r : ℕ) (os : List Origin) (s : Shape) (xs : List Decomposed) → length (nodes_of r os s xs) ≡ length s.lines + 1
as_many_nodes r os s xs = many_from r os s xs 0 s.lines

pub node_here : (r : ℕ) (os : List Origin) (s : Shape) (xs : List Decomposed) (v : ℕ) → v ≤ length s.lines
    → slice_get (nodes_of r os s xs) v
    ≡ Some (node_of r (option_and_then (slice_get os) (slice_get s.lines v)) (option_and_then (slice_get xs) (slice_get s.lines v)) (children_of_node s v))
node_here r os s xs v le =
    node_from r os s xs 0 s.lines v le
    ∙ ap (λ u. Some (node_of r (option_and_then (slice_get os) (slice_get s.lines v)) (option_and_then (slice_get xs) (slice_get s.lines v)) (children_of_node s u))) (omega arith)

pub no_node_behind : (r : ℕ) (os : List Origin) (s : Shape) (xs : List Decomposed) (v : ℕ) → length s.lines < v → slice_get (nodes_of r os s xs) v ≡ None
no_node_behind r os s xs v lt = slice_get_past (nodes_of r os s xs) v (omega (arith, lt, as_many_nodes r os s xs))

-- lists that are paired, by places
zip_at : {A B : Type 0} (R : A → B → Type 0) (xs : List A) (ys : List B) → length xs ≡ length ys
    → ((k : ℕ) (x : A) (y : B) → slice_get xs k ≡ Some x → slice_get ys k ≡ Some y → R x y) → AllZip R xs ys
zip_at R [] [] e each = tt
zip_at R [] (y ∷ ys) e each = absurd (let z : 0 ≡ suc (length ys) = e in omega (arith, z))
zip_at R (x ∷ xs) [] e each = absurd (let z : suc (length xs) ≡ 0 = e in omega (arith, z))
zip_at R (x ∷ xs) (y ∷ ys) e each = (each zero x y refl refl, zip_at R xs ys (let z : suc (length xs) ≡ suc (length ys) = e in omega (arith, z)) (λ k. each (suc k)))

zip_as : {A B : Type 0} (R S : A → B → Type 0) (xs : List A) (ys : List B) → ((x : A) (y : B) → R x y → S x y) → AllZip R xs ys → AllZip S xs ys
zip_as R S [] [] more all = tt
zip_as R S [] (y ∷ ys) more all = absurd all
zip_as R S (x ∷ xs) [] more all = absurd all
zip_as R S (x ∷ xs) (y ∷ ys) more (r, all) = (more x y r, zip_as R S xs ys more all)

-- the ids and the numbers of the lines of actions, by their origins
ids_of : (ls : List Action) → map (λ o. o.id) (map origin_of_action ls) ≡ map (λ a. a.id) ls
ids_of [] = refl
ids_of (a ∷ ls) = ap (λ is. a.id ∷ is) (ids_of ls)

lines_of : (ls : List Action) → map (λ o. o.line) (map origin_of_action ls) ≡ map (λ a. a.line) ls
lines_of [] = refl
lines_of (a ∷ ls) = ap (λ ns. a.line ∷ ns) (lines_of ls)

-- a plan of this shape, whose lines say this
module _ (w : World) (p : Plan) (s : Shape) (is : IsShape p s) (as' : List GroundAction) (xs : List Decomposed) (acts : AllZip (IsActionOf w) p.actions as')
    (says : AllZip (IsDecomposed w) p.decompositions xs) where
  abbrev root : Node
  root = node_of_root p.root.line (children_of_node s (root_node p))

  abbrev os : List Origin
  os = map origin_of_line p.decompositions

  abbrev nodes : List Node
  nodes = nodes_of p.root.line os s xs

  abbrev tree : PlanTree
  tree = record {
    actions = as';
    action_ids = map (λ o. o.id) (map origin_of_action p.actions);
    action_lines = map (λ o. o.line) (map origin_of_action p.actions);
    nodes = nodes;
    order = length s.lines ∷ s.numbers;
  }

  -- the line of a node, and what it says
  record LineOf (v k : ℕ) (d : Decomposition) : Type 0 where
    pub x : Decomposed
    pub said : IsDecomposed w d x
    pub at : slice_get nodes v ≡ Some (node_of_line (origin_of_line d) x (children_of_node s v))

  line_of : (v k : ℕ) (d : Decomposition) → slice_get s.lines v ≡ Some k → slice_get p.decompositions k ≡ Some d → LineOf v k d
  line_of v k d at of_line =
      let (x, of_said, said) = paired_at (IsDecomposed w) p.decompositions xs k d says of_line in
      let below : v < length s.lines = slice_get_within s.lines v k at in
      let here = node_here p.root.line os s xs v (omega (arith, below)) in
      let is_line : option_and_then (slice_get os) (slice_get s.lines v) ≡ Some (origin_of_line d) = ap (option_and_then (slice_get os)) at ∙ map_some origin_of_line p.decompositions k d of_line in
      let is_said : option_and_then (slice_get xs) (slice_get s.lines v) ≡ Some x = ap (option_and_then (slice_get xs)) at ∙ of_said in
      record { x = x; said = said; at = here ∙ (λ i. Some (node_of p.root.line (is_line i) (is_said i) (children_of_node s v))) }

  line_at : (k v : ℕ) → slice_get s.numbers k ≡ Some v → (d : Decomposition) × (slice_get p.decompositions k ≡ Some d)
  line_at k v at = member_at p.decompositions k (let lt : k < length s.numbers = slice_get_within s.numbers k v at in omega (arith, lt, is.as_many_numbers))

  root_at : (v : ℕ) → v ≡ length s.lines → slice_get nodes v ≡ Some root
  root_at v e =
      let here = node_here p.root.line os s xs v (omega (arith, e)) in
      let behind : slice_get s.lines v ≡ None = slice_get_past s.lines v (omega (arith, e)) in
      let of_root : children_of_node s v ≡ children_of_node s (root_node p) = ap (children_of_node s) (e ∙ is.as_many_lines) in
      here ∙ (λ i. Some (node_of p.root.line (option_and_then (slice_get os) (behind i)) (option_and_then (slice_get xs) (behind i)) (of_root i)))

  as_long : length nodes ≡ length s.lines + 1
  as_long = as_many_nodes p.root.line os s xs

  -- the children of each node are those that the shape gives it
  same_children : (v : ℕ) → children_at nodes v ≡ children_of_node s v
  same_children v = elim (either_side v (length s.lines)) [ inl below ↦ of_line below | inr behind ↦ elim (either_side (length s.lines) v) [ inl above ↦ none above | inr le ↦ of_root (omega (arith, behind, le)) ] ]
    where
      of_line : v < length s.lines → children_at nodes v ≡ children_of_node s v
      of_line below =
          let (k, at) = member_at s.lines v below in
          let (d, of_line) = line_at k v ((is.numbered v k).0 at) in
          ap children_of (line_of v k d at of_line).at

      of_root : v ≡ length s.lines → children_at nodes v ≡ children_of_node s v
      of_root e = ap children_of (root_at v e) ∙ ap (children_of_node s) (sym (e ∙ is.as_many_lines))

      none : length s.lines < v → children_at nodes v ≡ children_of_node s v
      none above =
          let no_node : slice_get nodes v ≡ None = slice_get_past nodes v (omega (arith, above, as_long)) in
          let no_list : slice_get s.children v ≡ None = slice_get_past s.children v (omega (arith, above, is.as_many_nodes, is.as_many_lines)) in
          ap children_of no_node ∙ sym (ap items_in no_list)

  same_tree : shape_tree p s ≡ trees.tree_of tree
  same_tree =
      let last : length nodes - 1 ≡ root_node p = omega (arith, as_long, is.as_many_lines) in
      let initial : children_at nodes (length nodes - 1) ≡ children_of_node s (root_node p) = ap (children_at nodes) last ∙ same_children (root_node p) in
      let all : children_at nodes ≡ children_of_node s = fun_ext same_children in
      (λ i. record { initial_tasks = sym initial i; children = sym all i })

  -- what an id stands for in the shape it stands for in the tree
  stands_for : (i : ℕ) (x : Item) → Stands p s i x → StandsFor tree i x
  stands_for i (Act k) h = ap (λ is. slice_get is k) (ids_of p.actions) ∙ h
  stands_for i (Task v) h = go (slice_get s.lines v) refl h
    where
      go : (o : Option ℕ) → slice_get s.lines v ≡ o → option_and_then (line_id p) o ≡ Some i → MatchOption (slice_get nodes v) ⊥ (λ n. n.id ≡ Some i)
      go None at e = cc
      go (Some k) at e =
          let (d, of_line, id) = mapped_at (λ d. d.id) p.decompositions k i e in
          subst (λ o. MatchOption o ⊥ (λ n. n.id ≡ Some i)) (sym (line_of v k d at of_line).at) (ap Some id)
  stands_for i (Pre v) h = absurd h

  is_root : NodeIs tree (IsRootOf tree p.root) (length s.lines)
  is_root = subst (λ o. MatchOption o ⊥ (IsRootOf tree p.root)) (sym (root_at (length s.lines) refl)) (record {
    id = refl;
    line = refl;
    task = refl;
    objects = refl;
    method = refl;
    children = zip_as (Stands p s) (StandsFor tree) p.root.ids (children_of_node s (root_node p)) stands_for is.of_root;
  })

  is_node : (k : ℕ) (d : Decomposition) (v : ℕ) → slice_get p.decompositions k ≡ Some d → slice_get s.numbers k ≡ Some v → NodeIs tree (IsNodeOf w tree d) v
  is_node k d v of_line at =
      let line = line_of v k d ((is.numbered v k).1 at) of_line in
      let (u, u_at, below) = paired_at (λ d v. AllZip (Stands p s) d.children (children_of_node s v)) p.decompositions s.numbers k d is.of_lines of_line in
      let same : u ≡ v = cc in
      let stand : AllZip (Stands p s) d.children (children_of_node s v) = subst (λ n. AllZip (Stands p s) d.children (children_of_node s n)) same below in
      subst (λ o. MatchOption o ⊥ (IsNodeOf w tree d)) (sym line.at) (record {
        id = refl;
        line = refl;
        number = line.x.task;
        task = refl;
        says = line.said.says;
        method = sym line.said.named;
        children = zip_as (Stands p s) (StandsFor tree) d.children (children_of_node s v) stands_for stand;
      })

  -- no number stands twice in the order
  once : Once (length s.lines ∷ s.numbers)
  once = λ a b d lt within e. go a b d lt within e
    where
      go : (a b d : ℕ) → a < b → b < length (length s.lines ∷ s.numbers) → get_or (length s.lines ∷ s.numbers) a d ≡ get_or (length s.lines ∷ s.numbers) b d → ⊥
      go zero zero d lt within e = omega (arith, lt)
      go (suc a) zero d lt within e = omega (arith, lt)
      go zero (suc b) d lt within e =
          let (v, at) = member_at s.numbers b (omega (arith, within)) in
          let is_v : get_or s.numbers b d ≡ v = get_or_from_slice_get s.numbers b v d at in
          let below : v < length s.lines = slice_get_within s.lines v b ((is.numbered v b).1 at) in
          let same : length s.lines ≡ v = e ∙ is_v in
          omega (arith, below, same)
      go (suc a) (suc b) d lt within e =
          let (u, at_a) = member_at s.numbers a (omega (arith, lt, within)) in
          let (v, at_b) = member_at s.numbers b (omega (arith, within)) in
          let same : u ≡ v = sym (get_or_from_slice_get s.numbers a u d at_a) ∙ e ∙ get_or_from_slice_get s.numbers b v d at_b in
          let line_a : slice_get s.lines v ≡ Some a = subst (λ n. slice_get s.lines n ≡ Some a) same ((is.numbered u a).1 at_a) in
          let line_b : slice_get s.lines v ≡ Some b = (is.numbered v b).1 at_b in
          let one : a ≡ b = cc in
          omega (arith, lt, one)

  -- each node stands in the order
  every : (v : ℕ) → v < length nodes → Contains (length s.lines ∷ s.numbers) v
  every v lt = elim (either_side v (length s.lines)) [ inl below ↦ of_line below | inr behind ↦ of_root (omega (arith, lt, behind, as_long)) ]
    where
      of_line : v < length s.lines → Contains (length s.lines ∷ s.numbers) v
      of_line below = let (k, at) = member_at s.lines v below in in_tail (length s.lines) s.numbers v (contains_at s.numbers k v ((is.numbered v k).0 at))

      of_root : length s.lines ≡ v → Contains (length s.lines ∷ s.numbers) v
      of_root e = subst (Contains (length s.lines ∷ s.numbers)) e (contains_first (length s.lines) s.numbers)

  numbered : IsNumberedTree (trees.tree_of tree) (length s.lines) (length p.actions)
  numbered = subst (λ n. IsNumberedTree (trees.tree_of tree) n (length p.actions)) (sym is.as_many_lines) (subst (λ t. IsNumberedTree t (length p.decompositions) (length p.actions)) same_tree is.shape)

  -- the tree of the plan
  is_tree_of : IsTreeOf w p tree
  is_tree_of = record {
    actions = acts;
    action_ids = ids_of p.actions;
    action_lines = lines_of p.actions;
    root = length s.lines;
    lines = s.numbers;
    order = refl;
    last = as_long;
    as_many = is.as_many_numbers ∙ sym is.as_many_lines;
    once = once;
    every = every;
    root_node = is_root;
    line_nodes = zip_at (λ d v. NodeIs tree (IsNodeOf w tree d) v) p.decompositions s.numbers (sym is.as_many_numbers) is_node;
    shape = numbered;
  }

  -- the same, by what the tree keeps of the lines
  pub is_tree_by : (of_actions of_lines : List Origin) → of_actions ≡ map origin_of_action p.actions → of_lines ≡ os
      → IsTreeOf w p (record {
        actions = as';
        action_ids = map (λ o. o.id) of_actions;
        action_lines = map (λ o. o.line) of_actions;
        nodes = nodes_of p.root.line of_lines s xs;
        order = length s.lines ∷ s.numbers;
      })
  is_tree_by of_actions of_lines a l =
      subst (IsTreeOf w p) (λ i. record {
        actions = as';
        action_ids = map (λ o. o.id) (sym a i);
        action_lines = map (λ o. o.line) (sym a i);
        nodes = nodes_of p.root.line (sym l i) s xs;
        order = length s.lines ∷ s.numbers;
      }) is_tree_of
