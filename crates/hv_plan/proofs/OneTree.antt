-- A plan has one tree: its nodes are numbered one after another, so two trees give each line one number.
use Rattle.std.proofs.Common.{◌≡◌, ◌≢◌, ◌+◌, ◌-◌, ◌<◌, ◌≤◌, ◌⊎◌, inl, inr, ℕ, zero, suc, Bool, true, false, List, [], ◌∷◌, ◌++◌, Option, Some, None, cond, map, nat_eq, slice_get, refl, sym, ap, ◌∙◌, subst, arith, length, get_or, Contains, eqb-true, eq-eqb, append_assoc}
use Rattle.std.specs.Prelude.{MatchOption}
use Rattle.std.specs.List.{AllZip, flat_map, list_any}
use Rattle.std.specs.Cmp.{nat_eq_equiv}
use Rattle.std.proofs.lemmas.List.{length-map, map-append}
use Rattle.std.proofs.lemmas.List.Elements.{Contains-append_cases}
use Rattle.std.proofs.lemmas.Map.Views.{list_any-from_Contains, Contains-from_any}
use Rattle.std.proofs.lemmas.Option.{slice_get-get_or, get_or_from_slice_get, slice_get_within, same_Some}
use Rattle.hv_lists.proofs.Contained.{contains_first, in_tail, contains_at}
use Rattle.hv_lists.proofs.Pairs.{same_length, zip_back}
use Rattle.hv_lists.proofs.Places.{map_some}
use Rattle.hv_lists.proofs.EachOnce.{same_place, once_apart, once_right, once_left}
use Rattle.hv_lists.proofs.Numbers.{either, either_side}
use Rattle.hv_world.specs.Bindings.{GroundAction}
use Rattle.hv_lists.specs.Lists.{Once}
use Rattle.hv_world.specs.Names.{place_in}
use Rattle.hv_world.specs.Values.{primitive, compound}
use Rattle.hv_world.specs.Worlds.{World, task_named}
use Rattle.hv_plan.specs.Values.{Action, Decomposition, Plan}
use Rattle.hv_plan.specs.Shapes.{FormTree}
use Rattle.hv_plan.specs.Trees.{Item, Act, Task, Pre}
use Rattle.hv_plan.specs.PlanTrees.{Node, PlanTree, children_of, children_at, node_numbers, child_nodes, countdown, StandsFor, IsActionOf, IsNodeOf, IsRootOf, NodeIs, IsTreeOf}
use Rattle.hv_plan.proofs.FitLemmas.{contains_cons, same_partners}
use Rattle.hv_plan.proofs.HeadLists.{action_ids, decomposition_ids, ids_are}

-- parts of one list that are as long at its front are one
same_front : {A : Type 0} (as' bs cs ds : List A) → as' ++ bs ≡ cs ++ ds → length as' ≡ length cs → as' ≡ cs
same_front [] bs [] ds e l = refl
same_front [] bs (c ∷ cs) ds e l = absurd (let z : 0 ≡ suc (length cs) = l in omega (arith, z))
same_front (a ∷ as') bs [] ds e l = absurd (let z : suc (length as') ≡ 0 = l in omega (arith, z))
same_front (a ∷ as') bs (c ∷ cs) ds e l =
    let h : a ∷ (as' ++ bs) ≡ c ∷ (cs ++ ds) = e in
    let x : a ≡ c = cc in
    let y : as' ++ bs ≡ cs ++ ds = cc in
    let m : suc (length as') ≡ suc (length cs) = l in
    let rest : as' ≡ cs = same_front as' bs cs ds y (omega (arith, m)) in
    cc

-- lists with the same members at each place are one
same_lists : {A : Type 0} (xs ys : List A) → length xs ≡ length ys → ((k : ℕ) (x y : A) → slice_get xs k ≡ Some x → slice_get ys k ≡ Some y → x ≡ y) → xs ≡ ys
same_lists [] [] l each = refl
same_lists [] (y ∷ ys) l each = absurd (let z : 0 ≡ suc (length ys) = l in omega (arith, z))
same_lists (x ∷ xs) [] l each = absurd (let z : suc (length xs) ≡ 0 = l in omega (arith, z))
same_lists (x ∷ xs) (y ∷ ys) l each =
    let m : suc (length xs) ≡ suc (length ys) = l in
    let first : x ≡ y = each zero x y refl refl in
    let rest : xs ≡ ys = same_lists xs ys (omega (arith, m)) (λ k. each (suc k)) in
    cc

-- functions that give the same along a list give the same of its members
same_on : {A : Type 0} (g h : ℕ → A) (xs : List ℕ) (x : ℕ) → map g xs ≡ map h xs → Contains xs x → g x ≡ h x
same_on g h [] x e c = let w : c.0 < 0 = c.1 in absurd (omega (arith, w))
same_on g h (y ∷ ys) x e c =
    let f : g y ∷ map g ys ≡ h y ∷ map h ys = e in
    let here : g y ≡ h y = cc in
    let there : map g ys ≡ map h ys = cc in
    elim (contains_cons y ys x c) [ inl q ↦ sym (ap g q) ∙ here ∙ ap h q | inr d ↦ same_on g h ys x there d ]

-- what two lists that are paired with a third pair with each of its members is one
same_zips : {A B : Type 0} (R S : A → B → Type 0) (xs : List A) (ys zs : List B) → ((x : A) (y z : B) → R x y → S x z → y ≡ z) → AllZip R xs ys → AllZip S xs zs → ys ≡ zs
same_zips R S [] [] [] one r s = refl
same_zips R S [] [] (z ∷ zs) one r s = absurd s
same_zips R S [] (y ∷ ys) zs one r s = absurd r
same_zips R S (x ∷ xs) [] zs one r s = absurd r
same_zips R S (x ∷ xs) (y ∷ ys) [] one r s = absurd s
same_zips R S (x ∷ xs) (y ∷ ys) (z ∷ zs) one r s =
    let first : y ≡ z = one x y z r.0 s.0 in
    let rest : ys ≡ zs = same_zips R S xs ys zs one r.1 s.1 in
    cc

-- the nodes among the children of the k nodes from n on, those of the last first
abbrev upper : (ℕ → List Item) → ℕ → ℕ → List ℕ
upper f n zero = []
upper f n (suc k) = flat_map node_numbers (f (n + k)) ++ upper f n k

upper_split : (f : ℕ → List Item) (n k : ℕ) → child_nodes f (n + k) ≡ upper f n k ++ child_nodes f n
upper_split f n zero = ap (child_nodes f) (omega arith)
upper_split f n (suc k) =
    let e : n + suc k ≡ suc (n + k) = omega arith in
    ap (child_nodes f) e ∙ ap (λ xs. flat_map node_numbers (f (n + k)) ++ xs) (upper_split f n k) ∙ sym (append_assoc (flat_map node_numbers (f (n + k))) (upper f n k) (child_nodes f n))

-- the nodes among items are tasks of theirs
task_of : (xs : List Item) (u : ℕ) → Contains (flat_map node_numbers xs) u → Contains xs (Task u)
task_of [] u c = let w : c.0 < 0 = c.1 in absurd (omega (arith, w))
task_of (Act k ∷ xs) u c = in_tail (Act k) xs (Task u) (task_of xs u c)
task_of (Task v ∷ xs) u c = elim (contains_cons v (flat_map node_numbers xs) u c) [ inl q ↦ (0, omega arith, ap Task q) | inr d ↦ in_tail (Task v) xs (Task u) (task_of xs u d) ]
task_of (Pre k ∷ xs) u c = in_tail (Pre k) xs (Task u) (task_of xs u c)

-- the nodes among the children of nodes up to n are below n
low : (f : ℕ → List Item) → ((v u : ℕ) → Contains (f v) (Task u) → u < v) → (n u : ℕ) → Contains (child_nodes f (suc n)) u → u < n
low f lower n u c = by n (Contains-append_cases (flat_map node_numbers (f n)) (child_nodes f n) u c)
  where
    by : (m : ℕ) → Contains (flat_map node_numbers (f m)) u ⊎ Contains (child_nodes f m) u → u < m
    by m (inl h) = lower m u (task_of (f m) u h)
    by zero (inr h) = let w : h.0 < 0 = h.1 in absurd (omega (arith, w))
    by (suc m) (inr h) = let lt : u < m = by m (Contains-append_cases (flat_map node_numbers (f m)) (child_nodes f m) u h) in omega (arith, lt)

counted : (n v : ℕ) → v < n → Contains (countdown n) v
counted zero v lt = absurd (omega (arith, lt))
counted (suc n) v lt = elim (either v n) [ inl e ↦ subst (Contains (n ∷ countdown n)) (sym e) (contains_first n (countdown n)) | inr d ↦ in_tail n (countdown n) v (counted n v (omega (arith, lt, d))) ]

-- a node below the root is among the children of the nodes above it
above_has : (f : ℕ → List Item) → ((v u : ℕ) → Contains (f v) (Task u) → u < v) → (root v k : ℕ) → suc v + k ≡ suc root → child_nodes f (suc root) ≡ countdown root → v < root
    → Contains (upper f (suc v) k) v
above_has f lower root v k sum numbers lt =
    let has : Contains (child_nodes f (suc v + k)) v = subst (λ n. Contains (child_nodes f n) v) (sym sum) (subst (λ xs. Contains xs v) (sym numbers) (counted root v lt)) in
    elim (Contains-append_cases (upper f (suc v) k) (child_nodes f (suc v)) v (subst (λ xs. Contains xs v) (upper_split f (suc v) k) has)) [
      | inl h ↦ h
      | inr h ↦ absurd (let less : v < v = low f lower v v h in omega (arith, less))
    ]

-- the id of a node
abbrev id_in : Option Node → Option ℕ
id_in None = None
id_in (Some n) = n.id

abbrev id_at : PlanTree → ℕ → Option ℕ
id_at t v = id_in (slice_get t.nodes v)

-- the children of the line that begins with an id; no id stands for the root line
abbrev children_with : List Decomposition → ℕ → List ℕ
children_with [] i = []
children_with (d ∷ ds) i = cond (nat_eq d.id i) d.children (children_with ds i)

abbrev children_named : Plan → Option ℕ → List ℕ
children_named p None = p.root.ids
children_named p (Some i) = children_with p.decompositions i

-- an id that begins a decomposition line
abbrev line_child : Plan → ℕ → List (Option ℕ)
line_child p i = cond (list_any (nat_eq i) (decomposition_ids p)) (Some i ∷ []) []

-- the ids of the lines that the nodes of some numbers name as children, where these are the ids of the nodes
abbrev line_children : Plan → (ℕ → Option ℕ) → ℕ → ℕ → List (Option ℕ)
line_children p g n zero = []
line_children p g n (suc k) = flat_map (line_child p) (children_named p (g (n + k))) ++ line_children p g n k

line_children_same : (p : Plan) (g h : ℕ → Option ℕ) (n k : ℕ) → ((j : ℕ) → j < k → g (n + j) ≡ h (n + j)) → line_children p g n k ≡ line_children p h n k
line_children_same p g h n zero each = refl
line_children_same p g h n (suc k) each =
    let here : g (n + k) ≡ h (n + k) = each k (omega arith) in
    let rest : line_children p g n k ≡ line_children p h n k = line_children_same p g h n k (λ j lt. each j (omega (arith, lt))) in
    λ i. flat_map (line_child p) (children_named p (here i)) ++ rest i

once_children : (ds : List Decomposition) (k : ℕ) (d : Decomposition) → Once (map (λ d. d.id) ds) → slice_get ds k ≡ Some d → children_with ds d.id ≡ d.children
once_children [] k d once e = cc
once_children (x ∷ ds) zero d once e =
    let same : x ≡ d = same_Some x d e in
    ap (λ b. cond b x.children (children_with ds d.id)) (eq-eqb x.id d.id (ap (λ (y : Decomposition). y.id) same)) ∙ ap (λ (y : Decomposition). y.children) same
once_children (x ∷ ds) (suc k) d once e = ap (λ b. cond b x.children (children_with ds d.id)) (by (nat_eq x.id d.id) refl) ∙ once_children ds k d (once_right (x.id ∷ []) (map (λ d. d.id) ds) once) e
  where
    by : (b : Bool) → nat_eq x.id d.id ≡ b → nat_eq x.id d.id ≡ false
    by true t =
        let q : x.id ≡ d.id = eqb-true x.id d.id t in
        absurd (once_apart (x.id ∷ []) (map (λ d. d.id) ds) d.id once (subst (Contains (x.id ∷ [])) q (contains_first x.id [])) (contains_at (map (λ d. d.id) ds) k d.id (map_some (λ d. d.id) ds k d e)))
    by false t = t

module _ (w : World) (p : Plan) (form : FormTree p) where
  ids_once : Once (action_ids p ++ decomposition_ids p)
  ids_once = subst Once (ids_are p) form.distinct

  lines_once : Once (decomposition_ids p)
  lines_once = once_right (action_ids p) (decomposition_ids p) ids_once

  abbrev count : ℕ
  count = length p.decompositions

  -- one place of a line of an id
  one_line : (j k : ℕ) (c d : Decomposition) → slice_get p.decompositions j ≡ Some c → slice_get p.decompositions k ≡ Some d → c.id ≡ d.id → j ≡ k
  one_line j k c d e f same =
      let a : slice_get (decomposition_ids p) j ≡ Some c.id = map_some (λ d. d.id) p.decompositions j c e in
      let b : slice_get (decomposition_ids p) k ≡ Some d.id = map_some (λ d. d.id) p.decompositions k d f in
      same_place (decomposition_ids p) lines_once j k (slice_get_within (decomposition_ids p) j c.id a) (slice_get_within (decomposition_ids p) k d.id b)
      (get_or_from_slice_get (decomposition_ids p) j c.id 0 a ∙ same ∙ sym (get_or_from_slice_get (decomposition_ids p) k d.id 0 b))

  module _ (t : PlanTree) (is : IsTreeOf w p t) where
    root_is : is.root ≡ count
    root_is = sym is.as_many ∙ sym (same_length (λ d v. NodeIs t (IsNodeOf w t d) v) p.decompositions is.lines is.line_nodes)

    long : length t.nodes ≡ suc count
    long = let l : length t.nodes ≡ is.root + 1 = is.last in let r = root_is in omega (arith, l, r)

    numbers_are : child_nodes (children_at t.nodes) (suc count) ≡ countdown count
    numbers_are = ap (λ n. child_nodes (children_at t.nodes) (suc n)) (sym root_is) ∙ is.shape.numbers ∙ ap countdown root_is

    -- what the node of a number is
    data What (v : ℕ) : Type 0 where
      of_root : (n : Node) → slice_get t.nodes v ≡ Some n → IsRootOf t p.root n → What v
      of_line : (k : ℕ) (d : Decomposition) (n : Node) → slice_get p.decompositions k ≡ Some d → slice_get is.lines k ≡ Some v → slice_get t.nodes v ≡ Some n → IsNodeOf w t d n → What v

    what_root : NodeIs t (IsRootOf t p.root) is.root → What is.root
    what_root h = by (slice_get t.nodes is.root) refl h
      where
        by : (o : Option Node) → slice_get t.nodes is.root ≡ o → MatchOption o ⊥ (IsRootOf t p.root) → What is.root
        by None e h = absurd h
        by (Some n) e h = of_root n e h

    what_line : (k : ℕ) (v : ℕ) (d : Decomposition) → slice_get p.decompositions k ≡ Some d → slice_get is.lines k ≡ Some v → NodeIs t (IsNodeOf w t d) v → What v
    what_line k v d e f h = by (slice_get t.nodes v) refl h
      where
        by : (o : Option Node) → slice_get t.nodes v ≡ o → MatchOption o ⊥ (IsNodeOf w t d) → What v
        by None q h = absurd h
        by (Some n) q h = of_line k d n e f q h

    what : (v : ℕ) → v < suc count → What v
    what v lt =
        let among : Contains (is.root ∷ is.lines) v = subst (λ xs. Contains xs v) is.order (is.every v (omega (arith, lt, long))) in
        elim (contains_cons is.root is.lines v among) [ inl e ↦ subst What e (what_root is.root_node) | inr h ↦ line h ]
      where
        line : Contains is.lines v → What v
        line h =
            let at : slice_get is.lines h.0 ≡ Some v = slice_get-get_or is.lines h.0 v h.1 ∙ ap Some h.2 in
            let (d, e, node) = zip_back (λ d v. NodeIs t (IsNodeOf w t d) v) p.decompositions is.lines h.0 v is.line_nodes at in
            what_line h.0 v d e at node

    -- what a node names as children
    names : (v : ℕ) → v < suc count → AllZip (StandsFor t) (children_named p (id_at t v)) (children_at t.nodes v)
    names v lt = by (what v lt)
      where
        by : What v → AllZip (StandsFor t) (children_named p (id_at t v)) (children_at t.nodes v)
        by (of_root n at root) =
            let i : id_at t v ≡ None = ap id_in at ∙ root.id in
            let c : children_at t.nodes v ≡ n.children = ap children_of at in
            subst (λ o. AllZip (StandsFor t) (children_named p o) (children_at t.nodes v)) (sym i) (subst (AllZip (StandsFor t) p.root.ids) (sym c) root.children)
        by (of_line k d n e f at node) =
            let i : id_at t v ≡ Some d.id = ap id_in at ∙ node.id in
            let c : children_at t.nodes v ≡ n.children = ap children_of at in
            let named : children_with p.decompositions d.id ≡ d.children = once_children p.decompositions k d lines_once e in
            subst (λ o. AllZip (StandsFor t) (children_named p o) (children_at t.nodes v)) (sym i)
            (subst (λ is. AllZip (StandsFor t) is (children_at t.nodes v)) (sym named) (subst (AllZip (StandsFor t) d.children) (sym c) node.children))

    -- an id that stands for an action is no line's, and one that stands for a node is
    action_id : (i k : ℕ) → StandsFor t i (Act k) → Contains (action_ids p) i
    action_id i k h = contains_at (action_ids p) k i (ap (λ xs. slice_get xs k) (sym is.action_ids) ∙ h)

    stands_id : (i v : ℕ) → StandsFor t i (Task v) → (v < suc count) × (id_at t v ≡ Some i)
    stands_id i v h = by (slice_get t.nodes v) refl h
      where
        by : (o : Option Node) → slice_get t.nodes v ≡ o → MatchOption o ⊥ (λ n. n.id ≡ Some i) → (v < suc count) × (id_at t v ≡ Some i)
        by None e h = absurd h
        by (Some n) e h = let lt : v < length t.nodes = slice_get_within t.nodes v n e in (omega (arith, lt, long), ap id_in e ∙ h)

    line_id : (i v : ℕ) → v < suc count → id_at t v ≡ Some i → (k : ℕ) × (slice_get (decomposition_ids p) k ≡ Some i) × (slice_get is.lines k ≡ Some v)
    line_id i v lt e = by (what v lt)
      where
        by : What v → (k : ℕ) × (slice_get (decomposition_ids p) k ≡ Some i) × (slice_get is.lines k ≡ Some v)
        by (of_root n at root) = let none : id_at t v ≡ None = ap id_in at ∙ root.id in cc
        by (of_line k d n f g at node) =
            let some : id_at t v ≡ Some d.id = ap id_in at ∙ node.id in
            let same : d.id ≡ i = cc in
            (k, map_some (λ d. d.id) p.decompositions k d f ∙ ap Some same, g)

    -- nodes of one id are one
    one_node : (u v i : ℕ) → u < suc count → v < suc count → id_at t u ≡ Some i → id_at t v ≡ Some i → u ≡ v
    one_node u v i a b e f =
        let (j, at_j, line_j) = line_id i u a e in
        let (k, at_k, line_k) = line_id i v b f in
        let same : j ≡ k =
        same_place (decomposition_ids p) lines_once j k (slice_get_within (decomposition_ids p) j i at_j) (slice_get_within (decomposition_ids p) k i at_k)
        (get_or_from_slice_get (decomposition_ids p) j i 0 at_j ∙ sym (get_or_from_slice_get (decomposition_ids p) k i 0 at_k)) in
        let at : slice_get is.lines k ≡ Some u = ap (slice_get is.lines) (sym same) ∙ line_j in
        cc

    not_both : (i : ℕ) → Contains (action_ids p) i → Contains (decomposition_ids p) i → ⊥
    not_both i a b = once_apart (action_ids p) (decomposition_ids p) i ids_once a b

    of_action : (i k : ℕ) → StandsFor t i (Act k) → line_child p i ≡ []
    of_action i k h = ap (λ b. cond b (Some i ∷ []) []) (by (list_any (nat_eq i) (decomposition_ids p)) refl)
      where
        by : (b : Bool) → list_any (nat_eq i) (decomposition_ids p) ≡ b → list_any (nat_eq i) (decomposition_ids p) ≡ false
        by true e = absurd (not_both i (action_id i k h) (Contains-from_any {eq = nat_eq} (λ x y q. eqb-true x y q) i (decomposition_ids p) e))
        by false e = e

    of_node : (i v : ℕ) → StandsFor t i (Task v) → line_child p i ≡ Some i ∷ []
    of_node i v h =
        let s = stands_id i v h in
        let (k, at, line) = line_id i v s.0 s.1 in
        ap (λ b. cond b (Some i ∷ []) []) (list_any-from_Contains nat_eq_equiv i (decomposition_ids p) (contains_at (decomposition_ids p) k i at))

    -- the ids of the nodes that ids name
    named_nodes : (is xs : List ℕ) (ys : List Item) → AllZip (StandsFor t) xs ys → map (id_at t) (flat_map node_numbers ys) ≡ flat_map (line_child p) xs
    named_nodes is [] [] all = refl
    named_nodes is [] (y ∷ ys) all = absurd all
    named_nodes is (x ∷ xs) [] all = absurd all
    named_nodes is (x ∷ xs) (Act k ∷ ys) all = named_nodes is xs ys all.1 ∙ ap (λ zs. zs ++ flat_map (line_child p) xs) (sym (of_action x k all.0))
    named_nodes is (x ∷ xs) (Task v ∷ ys) all =
        let first : id_at t v ≡ Some x = (stands_id x v all.0).1 in
        let rest : map (id_at t) (flat_map node_numbers ys) ≡ flat_map (line_child p) xs = named_nodes is xs ys all.1 in
        (λ i. first i ∷ rest i) ∙ ap (λ zs. zs ++ flat_map (line_child p) xs) (sym (of_node x v all.0))
    named_nodes is (x ∷ xs) (Pre v ∷ ys) all = absurd all.0

    upper_ids : (n k : ℕ) → n + k ≤ suc count → map (id_at t) (upper (children_at t.nodes) n k) ≡ line_children p (id_at t) n k
    upper_ids n zero le = refl
    upper_ids n (suc k) le =
        let lt : n + k < suc count = omega (arith, le) in
        let here : map (id_at t) (flat_map node_numbers (children_at t.nodes (n + k))) ≡ flat_map (line_child p) (children_named p (id_at t (n + k))) =
        named_nodes [] (children_named p (id_at t (n + k))) (children_at t.nodes (n + k)) (names (n + k) lt) in
        let rest : map (id_at t) (upper (children_at t.nodes) n k) ≡ line_children p (id_at t) n k = upper_ids n k (omega (arith, le)) in
        map-append (id_at t) (flat_map node_numbers (children_at t.nodes (n + k))) (upper (children_at t.nodes) n k) ∙ (λ i. here i ++ rest i)

    root_id : id_at t count ≡ None
    root_id = subst (λ v. id_at t v ≡ None) root_is (by (what_root is.root_node))
      where
        by : What is.root → id_at t is.root ≡ None
        by (of_root n at root) = ap id_in at ∙ root.id
        by (of_line k d n e f at node) =
            let lt : k < length is.lines = slice_get_within is.lines k is.root f in
            let at_root : get_or (is.root ∷ is.lines) (suc k) 0 ≡ is.root = get_or_from_slice_get is.lines k is.root 0 f in
            absurd (subst Once is.order is.once zero (suc k) 0 (omega arith) (omega (arith, lt)) (sym at_root))

  module _ (t u : PlanTree) (ti : IsTreeOf w p t) (ui : IsTreeOf w p u) where
    lower_t : (v x : ℕ) → Contains (children_at t.nodes v) (Task x) → x < v
    lower_t v x h = ti.shape.tree.lower v x h

    -- where the nodes above one have one id each, it has
    next_id : (x : ℕ) → x < count → ((j : ℕ) → j < count - x → id_at t (suc x + j) ≡ id_at u (suc x + j)) → id_at t x ≡ id_at u x
    next_id x lt higher =
        same_on (id_at t) (id_at u) (upper (children_at t.nodes) (suc x) m) x (fronts ∙ ap (map (id_at u)) (sym same))
        (above_has (children_at t.nodes) lower_t count x m sum (numbers_are t ti) lt)
      where
        m : ℕ
        m = count - x

        sum : suc x + m ≡ suc count
        sum = omega (arith, lt)

        fits : suc x + m ≤ suc count
        fits = omega (arith, lt)

        fronts : map (id_at t) (upper (children_at t.nodes) (suc x) m) ≡ map (id_at u) (upper (children_at u.nodes) (suc x) m)
        fronts = upper_ids t ti (suc x) m fits ∙ line_children_same p (id_at t) (id_at u) (suc x) m higher ∙ sym (upper_ids u ui (suc x) m fits)

        both : upper (children_at t.nodes) (suc x) m ++ child_nodes (children_at t.nodes) (suc x) ≡ upper (children_at u.nodes) (suc x) m ++ child_nodes (children_at u.nodes) (suc x)
        both =
            sym (upper_split (children_at t.nodes) (suc x) m) ∙ ap (child_nodes (children_at t.nodes)) sum ∙ numbers_are t ti ∙ sym (numbers_are u ui) ∙ ap (child_nodes (children_at u.nodes)) (sym sum)
            ∙ upper_split (children_at u.nodes) (suc x) m

        as_long : length (upper (children_at t.nodes) (suc x) m) ≡ length (upper (children_at u.nodes) (suc x) m)
        as_long = sym (length-map (upper (children_at t.nodes) (suc x) m) (id_at t)) ∙ ap length fronts ∙ length-map (upper (children_at u.nodes) (suc x) m) (id_at u)

        same : upper (children_at t.nodes) (suc x) m ≡ upper (children_at u.nodes) (suc x) m
        same = same_front (upper (children_at t.nodes) (suc x) m) (child_nodes (children_at t.nodes) (suc x)) (upper (children_at u.nodes) (suc x) m) (child_nodes (children_at u.nodes) (suc x)) both as_long

    -- the nodes of one number have one id
    agree : (k x : ℕ) → count < x + k → x ≤ count → id_at t x ≡ id_at u x
    agree zero x past le = absurd (omega (arith, past, le))
    agree (suc k) x past le = by (agree k x) (λ j lt. agree k (suc x + j) (omega (arith, past)) (omega (arith, lt))) (either_side count (x + k)) (either x count)
      where
        by : (count < x + k → x ≤ count → id_at t x ≡ id_at u x) → ((j : ℕ) → j < count - x → id_at t (suc x + j) ≡ id_at u (suc x + j)) → (count < x + k) ⊎ (x + k ≤ count) → (x ≡ count) ⊎ (x ≢ count)
            → id_at t x ≡ id_at u x
        by fewer higher (inl more) at = fewer more le
        by fewer higher (inr less) (inl e) = subst (λ y. id_at t y ≡ id_at u y) (sym e) (root_id t ti ∙ sym (root_id u ui))
        by fewer higher (inr less) (inr d) = next_id x (omega (arith, le, d)) higher

    same_ids : (x : ℕ) → x < suc count → id_at t x ≡ id_at u x
    same_ids x lt = agree (suc count) x (omega arith) (omega (arith, lt))

    -- an id stands for one item
    one_item : (i : ℕ) (x y : Item) → StandsFor t i x → StandsFor u i y → x ≡ y
    one_item i (Act j) (Act k) a b =
        let f : slice_get (action_ids p) j ≡ Some i = ap (λ xs. slice_get xs j) (sym ti.action_ids) ∙ a in
        let g : slice_get (action_ids p) k ≡ Some i = ap (λ xs. slice_get xs k) (sym ui.action_ids) ∙ b in
        ap Act (same_place (action_ids p) (once_left (action_ids p) (decomposition_ids p) ids_once) j k (slice_get_within (action_ids p) j i f) (slice_get_within (action_ids p) k i g)
        (get_or_from_slice_get (action_ids p) j i 0 f ∙ sym (get_or_from_slice_get (action_ids p) k i 0 g)))
    one_item i (Act j) (Task v) a b =
        let s = stands_id u ui i v b in
        let (k, at, line) = line_id u ui i v s.0 s.1 in
        absurd (not_both t ti i (action_id t ti i j a) (contains_at (decomposition_ids p) k i at))
    one_item i (Task v) (Act j) a b =
        let s = stands_id t ti i v a in
        let (k, at, line) = line_id t ti i v s.0 s.1 in
        absurd (not_both t ti i (action_id u ui i j b) (contains_at (decomposition_ids p) k i at))
    one_item i (Task v) (Task x) a b =
        let s = stands_id t ti i v a in
        let r = stands_id u ui i x b in
        ap Task (one_node t ti v x i s.0 r.0 s.1 (same_ids x r.0 ∙ r.1))
    one_item i (Pre v) y a b = absurd a
    one_item i (Act j) (Pre v) a b = absurd b
    one_item i (Task j) (Pre v) a b = absurd b

    same_children : (is : List ℕ) (xs ys : List Item) → AllZip (StandsFor t) is xs → AllZip (StandsFor u) is ys → xs ≡ ys
    same_children is xs ys a b = same_zips (StandsFor t) (StandsFor u) is xs ys one_item a b

    same_task : (a b : ℕ) (n : List ℕ) → task_named w n ≡ Some (compound a) → task_named w n ≡ Some (compound b) → a ≡ b
    same_task a b n e f = cc

    -- the nodes of one line are one
    same_line : (d : Decomposition) (m n : Node) → IsNodeOf w t d m → IsNodeOf w u d n → m ≡ n
    same_line d m n a b =
        let number : a.number ≡ b.number = same_task a.number b.number d.name a.says.name b.says.name in
        let id : m.id ≡ n.id = a.id ∙ sym b.id in
        let line : m.line ≡ n.line = a.line ∙ sym b.line in
        let task : m.task ≡ n.task = a.task ∙ ap Some number ∙ sym b.task in
        let objects : m.objects ≡ n.objects = same_partners (place_in w.objects) d.arguments m.objects n.objects a.says.objects b.says.objects in
        let method : m.method ≡ n.method = a.method ∙ sym b.method in
        let children : m.children ≡ n.children = same_children d.children m.children n.children a.children b.children in
        λ i. record { id = id i; line = line i; task = task i; objects = objects i; method = method i; children = children i }

    same_root : (m n : Node) → IsRootOf t p.root m → IsRootOf u p.root n → m ≡ n
    same_root m n a b =
        let id : m.id ≡ n.id = a.id ∙ sym b.id in
        let line : m.line ≡ n.line = a.line ∙ sym b.line in
        let task : m.task ≡ n.task = a.task ∙ sym b.task in
        let objects : m.objects ≡ n.objects = a.objects ∙ sym b.objects in
        let method : m.method ≡ n.method = a.method ∙ sym b.method in
        let children : m.children ≡ n.children = same_children p.root.ids m.children n.children a.children b.children in
        λ i. record { id = id i; line = line i; task = task i; objects = objects i; method = method i; children = children i }

    same_node : (v : ℕ) (m n : Node) → slice_get t.nodes v ≡ Some m → slice_get u.nodes v ≡ Some n → m ≡ n
    same_node v m n at_m at_n = by (what t ti v lt) (what u ui v lt)
      where
        lt : v < suc count
        lt = let l : v < length t.nodes = slice_get_within t.nodes v m at_m in omega (arith, l, long t ti)

        ids_same : m.id ≡ n.id
        ids_same = sym (ap id_in at_m) ∙ same_ids v lt ∙ ap id_in at_n

        by : What t ti v → What u ui v → m ≡ n
        by (of_root m' e a) (of_root n' f b) =
            let x : m' ≡ m = same_Some m' m (sym e ∙ at_m) in
            let y : n' ≡ n = same_Some n' n (sym f ∙ at_n) in
            sym x ∙ same_root m' n' a b ∙ y
        by (of_root m' e a) (of_line k d n' g h f b) =
            let x : m' ≡ m = same_Some m' m (sym e ∙ at_m) in
            let y : n' ≡ n = same_Some n' n (sym f ∙ at_n) in
            let none : m.id ≡ None = ap (λ (z : Node). z.id) (sym x) ∙ a.id in
            let some : n.id ≡ Some d.id = ap (λ (z : Node). z.id) (sym y) ∙ b.id in
            let q = ids_same in
            cc
        by (of_line k d m' g h e a) (of_root n' f b) =
            let x : m' ≡ m = same_Some m' m (sym e ∙ at_m) in
            let y : n' ≡ n = same_Some n' n (sym f ∙ at_n) in
            let some : m.id ≡ Some d.id = ap (λ (z : Node). z.id) (sym x) ∙ a.id in
            let none : n.id ≡ None = ap (λ (z : Node). z.id) (sym y) ∙ b.id in
            let q = ids_same in
            cc
        by (of_line j c m' g h e a) (of_line k d n' i q f b) =
            let x : m' ≡ m = same_Some m' m (sym e ∙ at_m) in
            let y : n' ≡ n = same_Some n' n (sym f ∙ at_n) in
            let one : m.id ≡ Some c.id = ap (λ (z : Node). z.id) (sym x) ∙ a.id in
            let other : n.id ≡ Some d.id = ap (λ (z : Node). z.id) (sym y) ∙ b.id in
            let alike : c.id ≡ d.id = same_Some c.id d.id (sym one ∙ ids_same ∙ other) in
            let place : j ≡ k = one_line j k c d g i alike in
            let line : c ≡ d = same_Some c d (sym g ∙ ap (slice_get p.decompositions) place ∙ i) in
            sym x ∙ same_line d m' n' (subst (λ z. IsNodeOf w t z m') line a) b ∙ y

    same_numbers : ti.lines ≡ ui.lines
    same_numbers = same_lists ti.lines ui.lines (ti.as_many ∙ root_is t ti ∙ sym (root_is u ui) ∙ sym ui.as_many) one
      where
        one : (k x y : ℕ) → slice_get ti.lines k ≡ Some x → slice_get ui.lines k ≡ Some y → x ≡ y
        one k x y e f =
            let (c, at_c, node_c) = zip_back (λ d v. NodeIs t (IsNodeOf w t d) v) p.decompositions ti.lines k x ti.line_nodes e in
            let (d, at_d, node_d) = zip_back (λ d v. NodeIs u (IsNodeOf w u d) v) p.decompositions ui.lines k y ui.line_nodes f in
            let same : c ≡ d = same_Some c d (sym at_c ∙ at_d) in
            let in_t : (x < suc count) × (id_at t x ≡ Some c.id) = has_id t ti x c node_c in
            let in_u : (y < suc count) × (id_at u y ≡ Some d.id) = has_id u ui y d node_d in
            one_node t ti x y c.id in_t.0 in_u.0 in_t.1 (same_ids y in_u.0 ∙ in_u.1 ∙ ap (λ (z : Decomposition). Some z.id) (sym same))
          where
            has_id : (s : PlanTree) (si : IsTreeOf w p s) (v : ℕ) (d : Decomposition) → NodeIs s (IsNodeOf w s d) v → (v < suc count) × (id_at s v ≡ Some d.id)
            has_id s si v d h = by (slice_get s.nodes v) refl h
              where
                by : (o : Option Node) → slice_get s.nodes v ≡ o → MatchOption o ⊥ (IsNodeOf w s d) → (v < suc count) × (id_at s v ≡ Some d.id)
                by None e h = absurd h
                by (Some n) e h = let lt : v < length s.nodes = slice_get_within s.nodes v n e in (omega (arith, lt, long s si), ap id_in e ∙ h.id)

    same_action : (a : Action) (g h : GroundAction) → IsActionOf w a g → IsActionOf w a h → g ≡ h
    same_action a g h x y =
        let named : primitive g.action ≡ primitive h.action = same_Some (primitive g.action) (primitive h.action) (sym x.name ∙ y.name) in
        let action : g.action ≡ h.action = cc in
        let objects : g.objects ≡ h.objects = same_partners (place_in w.objects) a.arguments g.objects h.objects x.objects y.objects in
        λ i. record { action = action i; objects = objects i }

    pub one_tree : t ≡ u
    one_tree =
        let actions : t.actions ≡ u.actions = same_zips (IsActionOf w) (IsActionOf w) p.actions t.actions u.actions same_action ti.actions ui.actions in
        let ids : t.action_ids ≡ u.action_ids = ti.action_ids ∙ sym ui.action_ids in
        let numbers : t.action_lines ≡ u.action_lines = ti.action_lines ∙ sym ui.action_lines in
        let nodes : t.nodes ≡ u.nodes = same_lists t.nodes u.nodes (long t ti ∙ sym (long u ui)) same_node in
        let lines : ti.lines ≡ ui.lines = same_numbers in
        let root : ti.root ≡ ui.root = root_is t ti ∙ sym (root_is u ui) in
        let order : t.order ≡ u.order = ti.order ∙ (λ i. root i ∷ lines i) ∙ sym ui.order in
        λ i. record { actions = actions i; action_ids = ids i; action_lines = numbers i; nodes = nodes i; order = order i }
