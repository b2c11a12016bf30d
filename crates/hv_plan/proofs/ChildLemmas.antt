-- The names of children, and the causes for which children are not as subtasks.
use Rattle.std.proofs.Common.{◌≡◌, ℕ, zero, suc, ◌+◌, ◌<◌, ◌≤◌, Bool, true, false, List, [], ◌∷◌, ◌++◌, map, length, slice_get, Option, Some, None, option_map, refl, ap, sym, subst, ◌∙◌, arith}
use Rattle.std.specs.Prelude.{option_and_then}
use Rattle.std.specs.List.{AllZip}
use Rattle.std.proofs.lemmas.List.{length-map}
use Rattle.std.proofs.lemmas.List.Elements.{Contains-append_left, Contains-append_right}
use Rattle.hv_lists.proofs.Places.{member_at}
use Rattle.hv_lists.proofs.Pairs.{same_length, paired_at}
use Rattle.hv_lists.proofs.Contained.{contains_at, mem_map}
use Rattle.hv_world.specs.Values.{TaskName, compound, primitive}
use Rattle.hv_world.specs.Worlds.{World, Method, task_names, action_names, task_named}
use Rattle.hv_plan.specs.Values as text
use Rattle.hv_plan.specs.Values.{Plan}
use Rattle.hv_plan.specs.Shapes.{head, Parent, line_parent, FormTree}
use Rattle.hv_plan.specs.Fits.{IsNamed, multiplicity, names_of, method_of}
use Rattle.hv_plan.specs.Causes.{number}
use Rattle.hv_plan.specs.inside.LineFaults.{IsEarliest}
use Rattle.hv_plan.specs.inside.ChildFaults.{IsChildFault, ChildFaultIn, IsMethodCause, IsSaid, AreSizes, AreNumbered, said_name}
use Rattle.hv_plan.specs.inside.ShapeViews.{Shape, Stands, line_id, IsShape, children_of_node, items_in}
use Rattle.hv_plan.specs.inside.FitViews.{Decomposed}
use Rattle.std.specs.Prelude.{get_or, Result, Ok, Err, IfOk}
use Rattle.hv_plan.proofs.FitLemmas.{method_of_name}
use Rattle.hv_world.specs.Worlds.{method_named}
use Rattle.hv_plan.specs.Trees.{Item, Act, Task, Pre}
use Rattle.hv_plan.specs.Forms.{every}
use Rattle.hv_plan.specs.inside.FitViews.{decomposed_lines, IsDecomposed}
use Rattle.hv_plan.specs.PlanTrees.{IsActionOf}
use Rattle.hv_plan.specs.declared.subtasks.names.Said.{Said}
use Rattle.hv_world.specs.Bindings.{ground_actions_view}
use Rattle.hv_world.specs.Names.{place_in}
use Rattle.std.proofs.lemmas.Bool.{ltb-false}
use Rattle.std.specs.Prelude.{nat_lt, if◌then◌else◌, slice_index_or}
use Rattle.hv_plan.specs.TreeViews.{child_view}
use Rattle.hv_plan.specs.declared.tree.Child.{Child}
use Rattle.hv_plan.specs.inside.Tallies.{number_in}
use Rattle.hv_plan.specs.inside.Tallies.{HaveSameNames, IsNamesFault, count, names}
use Rattle.hv_plan.specs.declared.cause.CauseKind.{CauseKind}
use Rattle.hv_plan.specs.declared.cause.CauseKind.TheVariants as kinds
use Rattle.hv_plan.specs.declared.cause.Cause.{Cause}
use Rattle.hv_plan.proofs.FitLemmas.{place_within}
use Rattle.hv_plan.proofs.EarliestLemmas.{earliest_at, earliest_at_none, earliest_of_lists}
use Rattle.hv_plan.specs.inside.LineFaults.{earlier}
use Rattle.std.proofs.lemmas.List.{map-append}
use Rattle.hv_plan.proofs.HeadLists.{taken_at}
use Rattle.std.proofs.Common.{take}
use Rattle.std.proofs.lemmas.Option.{slice_get_within}
use Rattle.hv_plan.proofs.FormLaws.{names_one}

-- the children of one line, of which the method and the names are known
module _ (w : World) (p : Plan) (form : FormTree p) (q : Parent) (m : Method) (is_method : method_of w q.method ≡ Some m)
    (ns : List TaskName) (named : AllZip (IsNamed w p) q.children ns) where
  lengths : length q.children ≡ length ns
  lengths = same_length (IsNamed w p) q.children ns named

  subtasks : length (names_of m.network.subtasks) ≡ length m.network.subtasks
  subtasks = length-map m.network.subtasks (λ x. x.name)

  not_count : length ns ≡ length (names_of m.network.subtasks) → IsChildFault w p q kinds.ChildCount → ⊥
  not_count same (m', is', differ) =
      let one : m ≡ m' = cc in
      differ (lengths ∙ same ∙ subtasks ∙ ap (λ x. length x.network.subtasks) one)

  not_names : ((n : TaskName) → multiplicity n ns ≡ multiplicity n (names_of m.network.subtasks)) → IsChildFault w p q kinds.ChildNames → ⊥
  not_names same (m', ns', n, is', named', differ) =
      let one : m ≡ m' = cc in
      let own : ns ≡ ns' = names_one w p form q.children ns ns' named named' in
      differ (subst (λ x. multiplicity n x ≡ multiplicity n (names_of m'.network.subtasks)) own (subst (λ x. multiplicity n ns ≡ multiplicity n (names_of x.network.subtasks)) one (same n)))

  none_if_same : HaveSameNames ns (names_of m.network.subtasks) → (k : CauseKind) → IsChildFault w p q k → ⊥
  none_if_same same kinds.RepeatedId f = f
  none_if_same same kinds.UnknownChild f = f
  none_if_same same kinds.TwoParents f = f
  none_if_same same kinds.Unreached f = f
  none_if_same same kinds.UnknownTask f = f
  none_if_same same kinds.UnknownMethod f = f
  none_if_same same kinds.UnknownObject f = f
  none_if_same same kinds.ArgumentCount f = f
  none_if_same same kinds.ArgumentType f = f
  none_if_same same kinds.NotPrimitive f = f
  none_if_same same kinds.NotAbstract f = f
  none_if_same same kinds.OtherTask f = f
  none_if_same same kinds.ChildCount f = not_count same.as_many f
  none_if_same same kinds.ChildNames f = not_names same.as_often f

  none_below : (n : ℕ) → n ≤ 63 → (62 < n → IsChildFault w p q kinds.ChildCount → ⊥) → (j : CauseKind) → number j < n → IsChildFault w p q j → ⊥
  none_below n most not kinds.RepeatedId lt f = f
  none_below n most not kinds.UnknownChild lt f = f
  none_below n most not kinds.TwoParents lt f = f
  none_below n most not kinds.Unreached lt f = f
  none_below n most not kinds.UnknownTask lt f = f
  none_below n most not kinds.UnknownMethod lt f = f
  none_below n most not kinds.UnknownObject lt f = f
  none_below n most not kinds.ArgumentCount lt f = f
  none_below n most not kinds.ArgumentType lt f = f
  none_below n most not kinds.NotPrimitive lt f = f
  none_below n most not kinds.NotAbstract lt f = f
  none_below n most not kinds.OtherTask lt f = f
  none_below n most not kinds.ChildCount lt f = not lt f
  none_below n most not kinds.ChildNames lt f = omega arith

  at_fault : (k : CauseKind) → IsNamesFault ns (names_of m.network.subtasks) k → IsEarliest (ChildFaultIn w p (q ∷ [])) (Some (record { kind = k; line = q.line }))
  at_fault _ (count differ) =
      earliest_at (IsChildFault w p) (λ q. q.line) q kinds.ChildCount (m, is_method, λ same. differ (sym lengths ∙ same ∙ sym subtasks)) (none_below 62 (omega arith) (λ lt f. omega arith))
  at_fault _ (names same n differ) =
      earliest_at (IsChildFault w p) (λ q. q.line) q kinds.ChildNames (m, ns, n, is_method, named, differ) (none_below 63 (omega arith) (λ lt f. not_count same f))

  -- the cause that is found of a line is the one that is reported of it
  pub earliest_of_children : (l : ℕ) (o : Option Cause) → q.line ≡ l → IsMethodCause ns (names_of m.network.subtasks) l o → IsEarliest (ChildFaultIn w p (q ∷ [])) o
  earliest_of_children l None is same = earliest_at_none (IsChildFault w p) (λ q. q.line) q (none_if_same same)
  earliest_of_children l (Some c) is (line, f) =
      subst (λ n. IsEarliest (ChildFaultIn w p (q ∷ [])) (Some (record { kind = c.kind; line = n }))) (is ∙ sym line) (at_fault c.kind f)

-- members at places
pub mapped_at : {X Y : Type 0} (f : X → Y) (xs : List X) (k : ℕ) (y : Y) → slice_get (map f xs) k ≡ Some y → (x : X) × (slice_get xs k ≡ Some x) × (f x ≡ y)
mapped_at f [] zero y e = cc
mapped_at f [] (suc k) y e = cc
mapped_at f (x ∷ xs) zero y e = (x, refl, cc)
mapped_at f (x ∷ xs) (suc k) y e = mapped_at f xs k y e

-- the children of the decomposition line at a place stand for its ids
pub children_stand_at : (p : Plan) (s : Shape) (is : IsShape p s) (k v : ℕ) (d : text.Decomposition) (ys : List Item) → slice_get p.decompositions k ≡ Some d
    → slice_get s.numbers k ≡ Some v → slice_get s.children v ≡ Some ys → AllZip (Stands p s) d.children ys
children_stand_at p s is k v d ys at numbered_at below =
    let (u, u_at, all) = paired_at (λ d v. AllZip (Stands p s) d.children (children_of_node s v)) p.decompositions s.numbers k d is.of_lines at in
    let same : u ≡ v = cc in
    let all' : AllZip (Stands p s) d.children (children_of_node s v) = subst (λ n. AllZip (Stands p s) d.children (children_of_node s n)) same all in
    subst (λ o. AllZip (Stands p s) d.children (items_in o)) below all'

-- the children of the root line stand for its ids
pub root_stands_at : (p : Plan) (s : Shape) → IsShape p s → (v : ℕ) (ys : List Item) → v ≡ length p.decompositions → slice_get s.children v ≡ Some ys → AllZip (Stands p s) p.root.ids ys
root_stands_at p s is v ys e below =
    let at : slice_get s.children (length p.decompositions) ≡ Some ys = subst (λ n. slice_get s.children n ≡ Some ys) e below in
    subst (λ o. AllZip (Stands p s) p.root.ids (items_in o)) at is.of_root

-- what a name names has a number
numbered_below : (i n : ℕ) → i < n → (if nat_lt i n then Some i else None) ≡ Some i
numbered_below i n lt = go (nat_lt i n) refl
  where
    go : (b : Bool) → nat_lt i n ≡ b → (if b then Some i else None) ≡ Some i
    go true e = refl
    go false e = let le : n ≤ i = ltb-false i n e in absurd (omega arith)

numbered_behind : (i n m : ℕ) → i < n → (if nat_lt i n then Some (m + i) else None) ≡ Some (m + i)
numbered_behind i n m lt = go (nat_lt i n) refl
  where
    go : (b : Bool) → nat_lt i n ≡ b → (if b then Some (m + i) else None) ≡ Some (m + i)
    go true e = refl
    go false e = let le : n ≤ i = ltb-false i n e in absurd (omega arith)

module _ (w : World) (ts as' : ℕ) (sizes : AreSizes w ts as') where
  pub known_number : (n : List ℕ) (t : TaskName) → task_named w n ≡ Some t → (j : ℕ) × (number_in ts as' t ≡ Some j)
  known_number n t e = go (place_in (task_names w.tasks) n) (place_in (action_names w.actions) n) refl refl e
    where
      of_task : (i : ℕ) → place_in (task_names w.tasks) n ≡ Some i → i < ts
      of_task i p =
          let lt : i < length (task_names w.tasks) = place_within (task_names w.tasks) n i p in
          let len : length (task_names w.tasks) ≡ length w.tasks = length-map w.tasks (λ t. t.name) in
          omega (arith, lt, len, sizes.tasks)

      of_action : (i : ℕ) → place_in (action_names w.actions) n ≡ Some i → i < as'
      of_action i p =
          let lt : i < length (action_names w.actions) = place_within (action_names w.actions) n i p in
          let len : length (action_names w.actions) ≡ length w.actions = length-map w.actions (λ a. a.name) in
          omega (arith, lt, len, sizes.actions)

      go : (o o' : Option ℕ) → place_in (task_names w.tasks) n ≡ o → place_in (action_names w.actions) n ≡ o'
          → elim o [ None ↦ option_map primitive o' | Some i ↦ Some (compound i) ] ≡ Some t → (j : ℕ) × (number_in ts as' t ≡ Some j)
      go (Some i) o' p q e = (i, (let same : compound i ≡ t = cc in subst (λ u. number_in ts as' u ≡ Some i) same (numbered_below i ts (of_task i p))))
      go None (Some i) p q e = (ts + i, (let same : primitive i ≡ t = cc in subst (λ u. number_in ts as' u ≡ Some (ts + i)) same (numbered_behind i as' ts (of_action i q))))
      go None None p q e = cc

  -- the items that ids stand for have the names of the lines of the ids
  module _ (p : Plan) (s : Shape) (x : Said) (said : IsSaid w p s x) where
    pub record ItsName (i : ℕ) (y : Item) : Type 0 where
      pub name : TaskName
      pub found : said_name x y ≡ Some name
      pub named : IsNamed w p i name
      pub number : ℕ
      pub numbered : number_in ts as' name ≡ Some number

    pub name_of_item : (i : ℕ) (y : Item) → Stands p s i y → ItsName i y
    name_of_item i (Act k) e =
        let (a, at, same) = mapped_at (λ a. a.id) p.actions k i e in
        let (g, at', says) = paired_at (IsActionOf w) p.actions (ground_actions_view x.actions.now) k a said.actions at in
        let (j, numbered) = known_number a.name (primitive g.action) says.name in
        record {
          name = primitive g.action;
          found = ap (option_map (λ a. primitive a.action)) at';
          named = record { line = a; begins = Contains-append_left p.actions (map head p.decompositions) a (contains_at p.actions k a at); id = same; name = says.name };
          number = j;
          numbered = numbered;
        }
    name_of_item i (Pre v) e = absurd e
    name_of_item i (Task v) e = go (slice_get s.lines v) refl e
      where
        of_line : (k : ℕ) → slice_get s.lines v ≡ Some k → line_id p k ≡ Some i → ItsName i (Task v)
        of_line k place e =
            let (d, at, same) = mapped_at (λ d. d.id) p.decompositions k i e in
            let (z, at', says) = paired_at (IsDecomposed w) p.decompositions (decomposed_lines x.lines.now) k d said.lines at in
            let (j, numbered) = known_number d.name (compound z.task) says.says.name in
            let own : slice_get x.places.now v ≡ Some k = ap (λ l. slice_get l v) said.places ∙ place in
            record {
              name = compound z.task;
              found = ap (option_and_then (λ k. option_map (λ d. compound d.task) (slice_get (decomposed_lines x.lines.now) k))) own ∙ ap (option_map (λ d. compound d.task)) at';
              named = record { line = head d; begins = Contains-append_right p.actions (map head p.decompositions) (head d) (mem_map head p.decompositions d (contains_at p.decompositions k d at)); id = same; name = says.says.name };
              number = j;
              numbered = numbered;
            }

        go : (o : Option ℕ) → slice_get s.lines v ≡ o → option_and_then (line_id p) o ≡ Some i → ItsName i (Task v)
        go None place e = cc
        go (Some k) place e = of_line k place e

    pub record TheirNames (is : List ℕ) (ys : List Item) : Type 0 where
      pub names : List TaskName
      pub found : every (said_name x) ys ≡ Some names
      pub named : AllZip (IsNamed w p) is names
      pub numbers : List ℕ
      pub numbered : every (number_in ts as') names ≡ Some numbers

    pub names_of_items : (is : List ℕ) (ys : List Item) → AllZip (Stands p s) is ys → TheirNames is ys
    names_of_items [] [] all = record { names = []; found = refl; named = tt; numbers = []; numbered = refl }
    names_of_items [] (y ∷ ys) all = absurd all
    names_of_items (i ∷ is) [] all = absurd all
    names_of_items (i ∷ is) (y ∷ ys) (stands, all) = join (name_of_item i y stands) (names_of_items is ys all)
      where
        join : ItsName i y → TheirNames is ys → TheirNames (i ∷ is) (y ∷ ys)
        join one more =
            record {
              names = one.name ∷ more.names;
              found = rw (one.found, more.found) refl;
              named = (one.named, more.named);
              numbers = one.number ∷ more.numbers;
              numbered = rw (one.numbered, more.numbered) refl;
            }

    pub names_are_numbered : (is : List ℕ) (ys : List Item) → AllZip (Stands p s) is ys → AreNumbered ts as' (said_name x) ys
    names_are_numbered is ys all =
        let their = names_of_items is ys all in
        record { names = their.names; named = their.found; numbered = rw their.numbered refl }

    -- the children of the decomposition line at a place
    module _ (form : FormTree p) (is : IsShape p s) (k v : ℕ) (d : text.Decomposition) (z : Decomposed) (ys : List Item) (at : slice_get p.decompositions k ≡ Some d)
        (numbered_at : slice_get s.numbers k ≡ Some v) (below : slice_get s.children v ≡ Some ys) (z_at : slice_get (decomposed_lines x.lines.now) k ≡ Some z) where
      pub cause_of_children : (l : ℕ) (o : Option Cause) → d.line ≡ l
          → ((m : Method) (ns : List TaskName) → slice_get w.methods z.method ≡ Some m → every (said_name x) ys ≡ Some ns → IsMethodCause ns (names_of m.network.subtasks) l o)
          → IsEarliest (ChildFaultIn w p (line_parent d ∷ [])) o
      cause_of_children l o line found =
          let (z', z_at', says) = paired_at (IsDecomposed w) p.decompositions (decomposed_lines x.lines.now) k d said.lines at in
          let same : z' ≡ z = cc in
          let named : method_named w d.method ≡ Some z.method = subst (λ u. method_named w d.method ≡ Some u.method) same says.named in
          let (m, at_number) = method_of_name w d.method z.method named in
          let their = names_of_items d.children ys (children_stand_at p s is k v d ys at numbered_at below) in
          earliest_of_children w p form (line_parent d) m (ap (option_and_then (slice_get w.methods)) named ∙ at_number) their.names their.named l o line (found m their.names at_number their.found)

-- a list that the code reads at a place of lists, with each member seen through f
pub list_here : {X Y : Type 0} (f : X → Y) (xss : List (List X)) (k : ℕ) (xs : List X) → k < length (map (map f) xss) → xs ≡ get_or xss k [] → slice_get (map (map f) xss) k ≡ Some (map f xs)
list_here f [] k xs lt e = absurd (omega arith)
list_here f (ys ∷ xss) zero xs lt e = ap (λ zs. Some (map f zs)) (sym e)
list_here f (ys ∷ xss) (suc k) xs lt e = list_here f xss k xs (omega arith) e

-- the list at a place, where there may be none
pub list_or_none : (xss : List (List Child)) (k : ℕ) → map child_view (slice_index_or xss k []) ≡ items_in (slice_get (map (map child_view) xss) k)
list_or_none [] zero = refl
list_or_none [] (suc k) = refl
list_or_none (xs ∷ xss) zero = refl
list_or_none (xs ∷ xss) (suc k) = list_or_none xss k

-- the number of a node is below how many there are
pub node_within : (p : Plan) (s : Shape) → IsShape p s → (k v : ℕ) → slice_get s.numbers k ≡ Some v → v < length s.children
node_within p s is k v e =
    let lt : v < length s.lines = slice_get_within s.lines v k ((is.numbered v k).1 e) in
    omega (arith, lt, is.as_many_lines, is.as_many_nodes)

pub if_ok_more : {X E : Type 0} (P Q : X → Type 0) (r : Result X E) → ((x : X) → P x → Q x) → IfOk r P → IfOk r Q
if_ok_more P Q (Ok x) f h = f x h
if_ok_more P Q (Err e) f h = tt

-- the cause that is reported of one line more
pub earliest_more : (w : World) (p : Plan) (ds : List text.Decomposition) (k : ℕ) → k < length ds → (c o : Option Cause)
    → IsEarliest (ChildFaultIn w p (map line_parent (take k ds))) c
    → ((d : text.Decomposition) → slice_get ds k ≡ Some d → IsEarliest (ChildFaultIn w p (line_parent d ∷ [])) o)
    → IsEarliest (ChildFaultIn w p (map line_parent (take (k + 1) ds))) (earlier c o)
earliest_more w p ds k lt c o before more =
    let (d, at) = member_at ds k lt in
    let lines : map line_parent (take (k + 1) ds) ≡ map line_parent (take k ds) ++ line_parent d ∷ [] =
    ap (map line_parent) (taken_at ds k d at) ∙ map-append line_parent (take k ds) (d ∷ []) in
    subst (λ qs. IsEarliest (ChildFaultIn w p qs) (earlier c o)) (sym lines)
    (earliest_of_lists (IsChildFault w p) (λ q. q.line) (map line_parent (take k ds)) (line_parent d ∷ []) c o before (more d at))
