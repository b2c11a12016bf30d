-- The nodes of a plan whose lines were all met have the plan's shape.
use Rattle.std.proofs.Common.{◌≢◌, AllPairs, ◌≡◌, ◌+◌, ◌-◌, ◌<◌, ◌≤◌, ◌⊎◌, ◌↔◌, inl, inr, ℕ, zero, suc, Bool, true, false, List, [], ◌∷◌, ◌++◌, Option, Some, None, cond, map, nat_lt, nat_eq, slice_get, refl, sym, ap, ◌∙◌, subst, arith, length, get_or, Contains, slice_index, slice_index_or, length-append, ltb-true, ltb-false}
use Rattle.std.specs.List.{AllZip, flat_map, list_any}
use Rattle.std.proofs.lemmas.Grind.{flat_map-append}
use Rattle.std.proofs.Math.Seq.{take-length}
use Rattle.std.proofs.lemmas.List.{append-nil, map-append}
use Rattle.std.specs.Option.{option_and_then}
use Rattle.std.specs.Cmp.{nat_eq_equiv}
use Rattle.std.proofs.Math.ListN.{get_or-append}
use Rattle.std.proofs.Math.Seq.{get_or-append_seam}
use Rattle.std.proofs.lemmas.List.{length-map, get_or-map}
use Rattle.std.proofs.lemmas.Map.Views.{list_any-from_Contains}
use Rattle.std.proofs.lemmas.Map.Steps.{le-length_from_below}
use Rattle.std.proofs.lemmas.Option.{slice_get-get_or, get_or_from_slice_get, slice_get_within, slice_get_past}
use Rattle.hv_lists.specs.Lists.{Once}
use Rattle.hv_lists.proofs.Places.{stands_at, contained_at}
use Rattle.hv_lists.proofs.EachOnce.{same_place, once_apart, once_right, once_left}
use Rattle.hv_lists.proofs.Numbers.{either_side}
use Rattle.hv_plan.specs.Values.{Decomposition, Plan}
use Rattle.hv_plan.specs.Shapes.{ids, all_children}
use Rattle.hv_plan.specs.PlanTrees.{node_numbers, child_nodes, countdown}
use Rattle.hv_plan.specs.Trees.{Item, Act, Task, Pre, AtOrBelow, itself, its_pre, its_child, Reached, IsSubtask, IsTree}
use Rattle.hv_plan.specs.Ids.{place_of}
use Rattle.hv_plan.specs.inside.Shaping.{places_of_lines, kids, line_in, backward, is_marked, IsWalk, Comes, of_root, of_one, IsNumbering, item, items_at, children_by_number}
use Rattle.hv_plan.specs.inside.ShapeViews.{Shape, IsShape, items_in, children_of_node, shape_tree, line_id, Stands}
use Rattle.hv_plan.proofs.ShapePlaces.{place_within, id_at_place}
use Rattle.hv_plan.proofs.ShapeTrees.{mapped_to, member_of, all_zip_map, all_zip_at, are_apart, once_line, flat, among_flat, one_line, ids_long, action_at, line_at, list_of_line, decomposition_at, kid_of, root_kid, root_child, line_child}

-- kinds of items
pub act_not_task : (k v : ℕ) → Act k ≡ Task v → ⊥
act_not_task k v e = cc

pub pre_not_task : (k v : ℕ) → Pre k ≡ Task v → ⊥
pre_not_task k v e = cc

abbrev pub number_of : Item → ℕ
number_of (Act k) = k
number_of (Task v) = v
number_of (Pre v) = v

pub task_same : (u v : ℕ) → Task u ≡ Task v → u ≡ v
task_same u v e = ap number_of e

pub act_same : (j k : ℕ) → Act j ≡ Act k → j ≡ k
act_same j k e = ap number_of e

-- the item at a place
pub item_of_action : (n : ℕ) (numbers : List ℕ) (k : ℕ) → k < n → item n numbers k ≡ Act k
item_of_action n numbers k w = by (nat_lt k n) refl where
  by : (b : Bool) → nat_lt k n ≡ b → item n numbers k ≡ Act k
  by true t = ap (λ b. cond b (Act k) (Task (slice_index numbers (k - n)))) t
  by false t = let ge : n ≤ k = ltb-false k n t in absurd (omega (arith, ge, w))

pub item_of_line : (n : ℕ) (numbers : List ℕ) (k : ℕ) → item n numbers (n + k) ≡ Task (slice_index numbers k)
item_of_line n numbers k = by (nat_lt (n + k) n) refl where
  back : (n + k) - n ≡ k
  back = omega arith

  by : (b : Bool) → nat_lt (n + k) n ≡ b → item n numbers (n + k) ≡ Task (slice_index numbers k)
  by true t = let lt : n + k < n = ltb-true (n + k) n t in absurd (omega (arith, lt))
  by false t = ap (λ b. cond b (Act (n + k)) (Task (slice_index numbers ((n + k) - n)))) t ∙ ap (λ j. Task (slice_index numbers j)) back

module _ (p : Plan) (root : List ℕ) (lists : List (List ℕ)) (met lines numbers : List ℕ) (marks : List Bool)
    (root_is : root ≡ map (place_of (ids p)) p.root.ids) (lists_are : lists ≡ places_of_lines (ids p) p) (once : Once (ids p))
    (known : (i : ℕ) → Contains (all_children p) i → Contains (ids p) i) (single : Once (all_children p))
    (walk : IsWalk root (kids lists (length p.actions)) met marks) (count : length marks ≡ length (ids p))
    (all : (k : ℕ) → k < length (ids p) → is_marked marks k ≡ true)
    (numbering : IsNumbering (length p.actions) 0 met lines numbers) (numbers_count : length numbers ≡ length p.decompositions) where
  abbrev s : Shape
  s = record { lines = lines; numbers = numbers; children = children_by_number (length p.actions) lines numbers root lists }

  is_met : (k : ℕ) → k < length (ids p) → Contains met k
  is_met k w = walk.meeting.marked k (all k w)

  line_met : (k : ℕ) → k < length p.decompositions → Contains met (length p.actions + k)
  line_met k w = let l : length (ids p) ≡ length p.actions + length p.decompositions = ids_long p in is_met (length p.actions + k) (omega (arith, w, l))

  -- numbers of lines
  given : (k : ℕ) → k < length p.decompositions → (slice_index numbers k < length lines) × (slice_index lines (slice_index numbers k) ≡ k)
  given k w = let h = line_met k w in numbering.given h.0 k (omega arith) h.1 (stands_at met (length p.actions + k) h)

  as_many : length lines ≡ length p.decompositions
  as_many = omega (arith, most, least, numbers_count)
    where
      in_lines : (q : ℕ) → q < length p.decompositions → list_any (nat_eq q) lines ≡ true
      in_lines q w = let g = given q w in list_any-from_Contains nat_eq_equiv q lines (contained_at lines (slice_index numbers q) q g.0 g.1)

      in_numbers : (v : ℕ) → v < length lines → list_any (nat_eq v) numbers ≡ true
      in_numbers v w = let b = numbering.back v w in list_any-from_Contains nat_eq_equiv v numbers (contained_at numbers (slice_index lines v) v b.0 b.1)

      least : length p.decompositions ≤ length lines
      least = le-length_from_below lines (length p.decompositions) in_lines

      most : length lines ≤ length numbers
      most = le-length_from_below numbers (length lines) in_numbers

  line_of : (v : ℕ) → v < length p.decompositions → slice_index lines v < length p.decompositions
  line_of v w = let b = numbering.back v (omega (arith, w, as_many)) in let lt : slice_index lines v < length numbers = b.0 in omega (arith, lt, numbers_count)

  number_back : (v : ℕ) → v < length p.decompositions → slice_index numbers (slice_index lines v) ≡ v
  number_back v w = let b = numbering.back v (omega (arith, w, as_many)) in b.1

  numbered : (v k : ℕ) → (slice_get lines v ≡ Some k) ↔ (slice_get numbers k ≡ Some v)
  numbered v k = (to, from)
    where
      to : slice_get lines v ≡ Some k → slice_get numbers k ≡ Some v
      to e =
          let b = numbering.back v (slice_get_within lines v k e) in
          let at : slice_index lines v ≡ k = get_or_from_slice_get lines v k 0 e in
          let w : k < length numbers = let lt : slice_index lines v < length numbers = b.0 in omega (arith, lt, at) in
          slice_get-get_or numbers k 0 w ∙ ap Some (ap (slice_index numbers) (sym at) ∙ b.1)

      from : slice_get numbers k ≡ Some v → slice_get lines v ≡ Some k
      from e =
          let w : k < length numbers = slice_get_within numbers k v e in
          let g = given k (omega (arith, w, numbers_count)) in
          let at : slice_index numbers k ≡ v = get_or_from_slice_get numbers k v 0 e in
          let lt : v < length lines = let less : slice_index numbers k < length lines = g.0 in omega (arith, less, at) in
          slice_get-get_or lines v 0 lt ∙ ap Some (ap (slice_index lines) (sym at) ∙ g.1)

  -- the lists of children by number
  abbrev by_line : ℕ → List Item
  by_line k = items_at (length p.actions) numbers (slice_index_or lists k [])

  lists_long : length (map by_line lines) ≡ length p.decompositions
  lists_long = length-map lines by_line ∙ as_many

  as_many_nodes : length s.children ≡ length p.decompositions + 1
  as_many_nodes =
      let a : length (map by_line lines ++ items_at (length p.actions) numbers root ∷ []) ≡ length (map by_line lines) + 1 = length-append (map by_line lines) (items_at (length p.actions) numbers root ∷ []) in
      a ∙ ap (λ j. j + 1) lists_long

  node_list : (v : ℕ) → v < length p.decompositions → children_of_node s v ≡ by_line (slice_index lines v)
  node_list v w =
      let lw : v < length (map by_line lines) = omega (arith, w, lists_long) in
      let nw : v < length s.children = omega (arith, w, as_many_nodes) in
      ap items_in (slice_get-get_or s.children v [] nw)
      ∙ (get_or-append (map by_line lines) (items_at (length p.actions) numbers root ∷ []) [] v lw ∙ get_or-map by_line lines v 0 [] (omega (arith, w, as_many)))

  root_list : children_of_node s (length p.decompositions) ≡ items_at (length p.actions) numbers root
  root_list =
      ap (λ j. items_in (slice_get s.children j)) (sym lists_long)
      ∙ ap items_in (slice_get-get_or s.children (length (map by_line lines)) [] (omega (arith, as_many_nodes, lists_long)))
      ∙ get_or-append_seam (map by_line lines) (items_at (length p.actions) numbers root) [] []

  line_list : (k : ℕ) (d : Decomposition) → slice_get p.decompositions k ≡ Some d → by_line k ≡ items_at (length p.actions) numbers (map (place_of (ids p)) d.children)
  line_list k d e = ap (λ ls. items_at (length p.actions) numbers (slice_index_or ls k [])) lists_are ∙ ap (items_at (length p.actions) numbers) (list_of_line p k d e)

  -- an id that is a child stands for its item
  side : (place : ℕ) → place < length (ids p) → (place < length p.actions) ⊎ ((k : ℕ) × (k < length p.decompositions) × (place ≡ length p.actions + k))
  side place w = by (either_side place (length p.actions)) where
    l : length (ids p) ≡ length p.actions + length p.decompositions
    l = ids_long p

    by : (place < length p.actions) ⊎ (length p.actions ≤ place) → (place < length p.actions) ⊎ ((k : ℕ) × (k < length p.decompositions) × (place ≡ length p.actions + k))
    by (inl lt) = inl lt
    by (inr ge) = inr (place - length p.actions, omega (arith, w, ge, l), omega (arith, ge))

  stands : (i : ℕ) → Contains (all_children p) i → Stands p s i (item (length p.actions) numbers (place_of (ids p) i))
  stands i h = by (side (place_of (ids p) i) (place_within (ids p) i (known i h)))
    where
      id : slice_index (ids p) (place_of (ids p) i) ≡ i
      id = id_at_place (ids p) i (known i h)

      by : (place_of (ids p) i < length p.actions) ⊎ ((k : ℕ) × (k < length p.decompositions) × (place_of (ids p) i ≡ length p.actions + k)) → Stands p s i (item (length p.actions) numbers (place_of (ids p) i))
      by (inl w) = subst (Stands p s i) (sym (item_of_action (length p.actions) numbers (place_of (ids p) i) w)) (action_at p (place_of (ids p) i) w ∙ ap Some id)
      by (inr r) =
          let k : ℕ = r.0 in
          let g = given k r.1 in
          let is : item (length p.actions) numbers (place_of (ids p) i) ≡ Task (slice_index numbers k) = ap (item (length p.actions) numbers) r.2 ∙ item_of_line (length p.actions) numbers k in
          let at : slice_get lines (slice_index numbers k) ≡ Some k = slice_get-get_or lines (slice_index numbers k) 0 g.0 ∙ ap Some g.1 in
          subst (Stands p s i) (sym is) (ap (option_and_then (line_id p)) at ∙ line_at p k r.1 ∙ ap Some (sym (ap (slice_index (ids p)) r.2) ∙ id))

  stand_all : (is : List ℕ) → ((i : ℕ) → Contains is i → Contains (all_children p) i) → AllZip (Stands p s) is (items_at (length p.actions) numbers (map (place_of (ids p)) is))
  stand_all is among = subst (AllZip (Stands p s) is) (two_maps is) (all_zip_map (Stands p s) (λ i. item (length p.actions) numbers (place_of (ids p) i)) is (λ i h. stands i (among i h)))
    where
      two_maps : (xs : List ℕ) → map (λ i. item (length p.actions) numbers (place_of (ids p) i)) xs ≡ items_at (length p.actions) numbers (map (place_of (ids p)) xs)
      two_maps [] = refl
      two_maps (x ∷ xs) = ap (λ ys. item (length p.actions) numbers (place_of (ids p) x) ∷ ys) (two_maps xs)

  root_items : children_of_node s (length p.decompositions) ≡ items_at (length p.actions) numbers (map (place_of (ids p)) p.root.ids)
  root_items = root_list ∙ ap (items_at (length p.actions) numbers) root_is

  line_items : (v : ℕ) (w : v < length p.decompositions) (d : Decomposition) → slice_get p.decompositions (slice_index lines v) ≡ Some d
      → children_of_node s v ≡ items_at (length p.actions) numbers (map (place_of (ids p)) d.children)
  line_items v w d e = node_list v w ∙ line_list (slice_index lines v) d e

  of_root_line : AllZip (Stands p s) p.root.ids (children_of_node s (length p.decompositions))
  of_root_line = subst (AllZip (Stands p s) p.root.ids) (sym root_items) (stand_all p.root.ids (λ i h. root_child p i h))

  of_line : (k : ℕ) (d : Decomposition) → slice_get p.decompositions k ≡ Some d → AllZip (Stands p s) d.children (children_of_node s (slice_index numbers k))
  of_line k d e =
      let w : k < length p.decompositions = slice_get_within p.decompositions k d e in
      let g = given k w in
      let v : slice_index numbers k < length p.decompositions = let lt : slice_index numbers k < length lines = g.0 in omega (arith, lt, as_many) in
      let at : slice_get p.decompositions (slice_index lines (slice_index numbers k)) ≡ Some d = ap (slice_get p.decompositions) g.1 ∙ e in
      subst (AllZip (Stands p s) d.children) (sym (line_items (slice_index numbers k) v d at)) (stand_all d.children (λ i h. line_child p k d i e h))

  -- what names a child of a node
  pub data Names (v i : ℕ) : Type 0 where
    by_root : v ≡ length p.decompositions → Contains p.root.ids i → Names v i
    by_one : v < length p.decompositions → (d : Decomposition) → slice_get p.decompositions (slice_index lines v) ≡ Some d → Contains d.children i → Names v i

  pub record Child (v : ℕ) (x : Item) : Type 0 where
    pub id : ℕ
    pub named : Names v id
    pub is : x ≡ item (length p.actions) numbers (place_of (ids p) id)

  member_item : (is : List ℕ) (x : Item) → Contains (items_at (length p.actions) numbers (map (place_of (ids p)) is)) x → (i : ℕ) × Contains is i × (x ≡ item (length p.actions) numbers (place_of (ids p) i))
  member_item [] x h = let w : h.0 < 0 = h.1 in absurd (omega (arith, w))
  member_item (i ∷ is) x (zero, w, e) = (i, (0, omega arith, refl), sym e)
  member_item (i ∷ is) x (suc k, w, e) =
      let v : suc k < suc (length (items_at (length p.actions) numbers (map (place_of (ids p)) is))) = w in
      let r = member_item is x (k, omega (arith, v), e) in
      (r.0, (suc r.1.0, omega (arith, r.1.1), r.1.2), r.2)

  child : (v : ℕ) (x : Item) → Contains (children_of_node s v) x → Child v x
  child v x h = by (either_side v (length p.decompositions))
    where
      none : length p.decompositions < v → Child v x
      none w =
          let past : slice_get s.children v ≡ None = slice_get_past s.children v (omega (arith, as_many_nodes, w)) in
          let P : Option (List Item) → Type 0 = λ o. Contains (items_in o) x in
          let nowhere : Contains [] x = subst P past h in
          let w : nowhere.0 < 0 = nowhere.1 in
          absurd (omega (arith, w))

      of_the_root : (v < length p.decompositions + 1) ⊎ (length p.decompositions + 1 ≤ v) → length p.decompositions ≤ v → Child v x
      of_the_root (inl lt) ge =
          let e : v ≡ length p.decompositions = omega (arith, lt, ge) in
          let P : List Item → Type 0 = λ ys. Contains ys x in
          let r = member_item p.root.ids x (subst P (ap (children_of_node s) e ∙ root_items) h) in
          record { id = r.0; named = by_root e r.1; is = r.2 }
      of_the_root (inr gt) ge = none (omega (arith, gt))

      by : (v < length p.decompositions) ⊎ (length p.decompositions ≤ v) → Child v x
      by (inl w) =
          let d = decomposition_at p (slice_index lines v) (line_of v w) in
          let P : List Item → Type 0 = λ ys. Contains ys x in
          let r = member_item d.0.children x (subst P (line_items v w d.0 d.1) h) in
          record { id = r.0; named = by_one w d.0 d.1 r.1; is = r.2 }
      by (inr ge) = of_the_root (either_side v (length p.decompositions + 1)) ge

  is_child : (v i : ℕ) → Names v i → Contains (all_children p) i
  is_child v i (by_root e h) = root_child p i h
  is_child v i (by_one w d e h) = line_child p (slice_index lines v) d i e h

  one_name : (v w i : ℕ) → Names v i → Names w i → v ≡ w
  one_name v w i (by_root e h) (by_root f g) = e ∙ sym f
  one_name v w i (by_root e h) (by_one u d f g) = absurd (once_apart p.root.ids (flat p.decompositions) i single h (among_flat p.decompositions (slice_index lines w) d i f g))
  one_name v w i (by_one u d f g) (by_root e h) = absurd (once_apart p.root.ids (flat p.decompositions) i single h (among_flat p.decompositions (slice_index lines v) d i f g))
  one_name v w i (by_one a c e h) (by_one b d f g) =
      let same : slice_index lines v ≡ slice_index lines w = one_line p.decompositions (slice_index lines v) (slice_index lines w) c d i (once_right p.root.ids (flat p.decompositions) single) e f h g in
      sym (number_back v a) ∙ ap (slice_index numbers) same ∙ number_back w b

  -- places with the same item
  same_item : (a b : ℕ) → a < length (ids p) → b < length (ids p) → item (length p.actions) numbers a ≡ item (length p.actions) numbers b → a ≡ b
  same_item a b v w e = by (side a v) (side b w)
    where
      Side : ℕ → Type 0
      Side place = (place < length p.actions) ⊎ ((k : ℕ) × (k < length p.decompositions) × (place ≡ length p.actions + k))

      line_item : (place k : ℕ) → place ≡ length p.actions + k → item (length p.actions) numbers place ≡ Task (slice_index numbers k)
      line_item place k q = ap (item (length p.actions) numbers) q ∙ item_of_line (length p.actions) numbers k

      by : Side a → Side b → a ≡ b
      by (inl x) (inl y) = act_same a b (sym (item_of_action (length p.actions) numbers a x) ∙ e ∙ item_of_action (length p.actions) numbers b y)
      by (inl x) (inr r) = absurd (act_not_task a (slice_index numbers r.0) (sym (item_of_action (length p.actions) numbers a x) ∙ e ∙ line_item b r.0 r.2))
      by (inr r) (inl y) = absurd (act_not_task b (slice_index numbers r.0) (sym (item_of_action (length p.actions) numbers b y) ∙ sym e ∙ line_item a r.0 r.2))
      by (inr r) (inr q) =
          let same : slice_index numbers r.0 ≡ slice_index numbers q.0 = task_same (slice_index numbers r.0) (slice_index numbers q.0) (sym (line_item a r.0 r.2) ∙ e ∙ line_item b q.0 q.2) in
          let g = given r.0 r.1 in
          let h = given q.0 q.1 in
          let k : r.0 ≡ q.0 = sym g.1 ∙ ap (slice_index lines) same ∙ h.1 in
          r.2 ∙ ap (λ j. length p.actions + j) k ∙ sym q.2

  same_id : (v w i j : ℕ) → Names v i → Names w j → place_of (ids p) i ≡ place_of (ids p) j → i ≡ j
  same_id v w i j a b e = sym (id_at_place (ids p) i (known i (is_child v i a))) ∙ ap (slice_index (ids p)) e ∙ id_at_place (ids p) j (known j (is_child w j b))

  one_parent : (v w : ℕ) (x : Item) → Contains (children_of_node s v) x → Contains (children_of_node s w) x → v ≡ w
  one_parent v w x h g =
      let a = child v x h in
      let b = child w x g in
      let within_a : place_of (ids p) a.id < length (ids p) = place_within (ids p) a.id (known a.id (is_child v a.id a.named)) in
      let within_b : place_of (ids p) b.id < length (ids p) = place_within (ids p) b.id (known b.id (is_child w b.id b.named)) in
      let e : a.id ≡ b.id = same_id v w a.id b.id a.named b.named (same_item (place_of (ids p) a.id) (place_of (ids p) b.id) within_a within_b (sym a.is ∙ b.is)) in
      one_name v w b.id (subst (Names v) e a.named) b.named

  kind : (v : ℕ) (x : Item) → Contains (children_of_node s v) x → IsSubtask x
  kind v x h =
      let c = child v x h in
      subst IsSubtask (sym c.is) (by (side (place_of (ids p) c.id) (place_within (ids p) c.id (known c.id (is_child v c.id c.named)))))
    where
      by : {place : ℕ} → (place < length p.actions) ⊎ ((k : ℕ) × (k < length p.decompositions) × (place ≡ length p.actions + k)) → IsSubtask (item (length p.actions) numbers place)
      by {place = place} (inl w) = subst IsSubtask (sym (item_of_action (length p.actions) numbers place w)) tt
      by {place = place} (inr r) = subst IsSubtask (sym (ap (item (length p.actions) numbers) r.2 ∙ item_of_line (length p.actions) numbers r.0)) tt

  -- a line that is a child has a lower number than its parent
  lower_line : (v k i : ℕ) → Names v i → k < length p.decompositions → place_of (ids p) i ≡ length p.actions + k → slice_index numbers k < v
  lower_line v k i (by_root e h) w is = let g = given k w in let lt : slice_index numbers k < length lines = g.0 in omega (arith, lt, as_many, e)
  lower_line v k i (by_one u d e h) w is =
      let above = line_met (slice_index lines v) (line_of v u) in
      let below = line_met k w in
      let at_a : slice_index met above.0 ≡ length p.actions + slice_index lines v = stands_at met (length p.actions + slice_index lines v) above in
      let at_b : slice_index met below.0 ≡ length p.actions + k = stands_at met (length p.actions + k) below in
      let falls : slice_index numbers k < slice_index numbers (slice_index lines v) = numbering.falling above.0 below.0 (slice_index lines v) k (omega arith) (before above.0 below.0 above.1 below.1 at_a at_b (walk.comes below.0 below.1)) below.1 at_a at_b in
      let back : slice_index numbers (slice_index lines v) ≡ v = number_back v u in
      omega (arith, falls, back)
    where
      before : (a b : ℕ) → a < length met → b < length met → slice_index met a ≡ length p.actions + slice_index lines v → slice_index met b ≡ length p.actions + k
          → Comes root (kids lists (length p.actions)) met b → a < b
      before a b x y at_a at_b (of_root r) =
          let q = root_kid p root root_is (slice_index met b) r in
          let same : i ≡ q.id = same_id v (length p.decompositions) i q.id (by_one u d e h) (by_root refl q.named) (is ∙ sym at_b ∙ q.is) in
          let other : v ≡ length p.decompositions = one_name v (length p.decompositions) i (by_one u d e h) (by_root refl (subst (Contains p.root.ids) (sym same) q.named)) in
          absurd (omega (arith, other, u))
      before a b x y at_a at_b (of_one c less r) =
          let q = kid_of p lists lists_are (slice_index met c) (slice_index met b) r in
          let kw : q.number < length p.decompositions = slice_get_within p.decompositions q.number q.line q.at in
          let child_i : Contains (all_children p) i = line_child p (slice_index lines v) d i e h in
          let child_q : Contains (all_children p) q.id = line_child p q.number q.line q.id q.at q.named in
          let same : i ≡ q.id = sym (id_at_place (ids p) i (known i child_i)) ∙ ap (slice_index (ids p)) (is ∙ sym at_b ∙ q.is) ∙ id_at_place (ids p) q.id (known q.id child_q) in
          let line : slice_index lines v ≡ q.number = one_line p.decompositions (slice_index lines v) q.number d q.line i (once_right p.root.ids (flat p.decompositions) single) e q.at h (subst (Contains q.line.children) (sym same) q.named) in
          let here : a ≡ c = same_place met walk.meeting.once a c x (omega (arith, less, y)) (at_a ∙ ap (λ j. length p.actions + j) line ∙ sym q.behind) in
          omega (arith, here, less)

  lower : (v u : ℕ) → Contains (children_of_node s v) (Task u) → u < v
  lower v u h = let c = child v (Task u) h in by c (side (place_of (ids p) c.id) (place_within (ids p) c.id (known c.id (is_child v c.id c.named))))
    where
      by : (c : Child v (Task u)) → (place_of (ids p) c.id < length p.actions) ⊎ ((k : ℕ) × (k < length p.decompositions) × (place_of (ids p) c.id ≡ length p.actions + k)) → u < v
      by c (inl w) = absurd (act_not_task (place_of (ids p) c.id) u (sym (item_of_action (length p.actions) numbers (place_of (ids p) c.id) w) ∙ sym c.is))
      by c (inr r) =
          let e : u ≡ slice_index numbers r.0 = task_same u (slice_index numbers r.0) (c.is ∙ ap (item (length p.actions) numbers) r.2 ∙ item_of_line (length p.actions) numbers r.0) in
          let lt : slice_index numbers r.0 < v = lower_line v r.0 c.id c.named r.1 r.2 in
          omega (arith, e, lt)

  -- what a line stands at or below is a line with no lower number
  above_line : {c x : Item} → AtOrBelow (shape_tree p s) c x → (v : ℕ) → x ≡ Task v → (u : ℕ) × (c ≡ Task u) × (v ≤ u)
  above_line itself v e = (v, e, omega arith)
  above_line (its_pre {v = w} q) v e = absurd (pre_not_task w v e)
  above_line (its_child {v = w} {x = x} q h) v e =
      let lt : v < w = lower w v (let P : Item → Type 0 = λ y. Contains (children_of_node s w) y in subst P e h) in
      let r = above_line q w refl in
      let le : w ≤ r.0 = r.2 in
      (r.0, r.1, omega (arith, lt, le))

  no_initial_below : (c x : Item) (v : ℕ) → Contains (children_of_node s (length p.decompositions)) c → AtOrBelow (shape_tree p s) c (Task v) → Contains (children_of_node s v) x
      → Contains (children_of_node s (length p.decompositions)) x → ⊥
  no_initial_below c x v initial q h g =
      let e : v ≡ length p.decompositions = one_parent v (length p.decompositions) x h g in
      let r = above_line q v refl in
      let lt : r.0 < length p.decompositions = lower (length p.decompositions) r.0 (let P : Item → Type 0 = λ y. Contains (children_of_node s (length p.decompositions)) y in subst P r.1 initial) in
      let le : v ≤ r.0 = r.2 in
      omega (arith, e, lt, le)

  pub tree : IsTree (shape_tree p s)
  tree = record {
    initial_kind = λ x h. kind (length p.decompositions) x h;
    child_kind = λ v x h. kind v x h;
    lower = lower;
    one_parent = one_parent;
    no_initial_below = no_initial_below;
  }

  -- no node has a child twice
  once_items : (is : List ℕ) → Once is → ((i : ℕ) → Contains is i → Contains (all_children p) i) → AllPairs ◌≢◌ (items_at (length p.actions) numbers (map (place_of (ids p)) is))
  once_items is once among = λ a b d o w e.
      let la : length (map (place_of (ids p)) is) ≡ length is = length-map is (place_of (ids p)) in
      let lb : length (items_at (length p.actions) numbers (map (place_of (ids p)) is)) ≡ length (map (place_of (ids p)) is) = length-map (map (place_of (ids p)) is) (item (length p.actions) numbers) in
      let v : b < length is = omega (arith, w, la, lb) in
      let u : a < length is = omega (arith, o, v) in
      once a b 0 o v (same (slice_index is a) (slice_index is b) (among (slice_index is a) (contained_at is a (slice_index is a) u refl)) (among (slice_index is b) (contained_at is b (slice_index is b) v refl))
      (sym (at a d u) ∙ e ∙ at b d v))
    where
      at : (k : ℕ) (d : Item) → k < length is → get_or (items_at (length p.actions) numbers (map (place_of (ids p)) is)) k d ≡ item (length p.actions) numbers (place_of (ids p) (slice_index is k))
      at k d lt =
          let la : length (map (place_of (ids p)) is) ≡ length is = length-map is (place_of (ids p)) in
          get_or-map (item (length p.actions) numbers) (map (place_of (ids p)) is) k 0 d (omega (arith, lt, la)) ∙ ap (item (length p.actions) numbers) (get_or-map (place_of (ids p)) is k 0 0 lt)

      same : (i j : ℕ) → Contains (all_children p) i → Contains (all_children p) j → item (length p.actions) numbers (place_of (ids p) i) ≡ item (length p.actions) numbers (place_of (ids p) j) → i ≡ j
      same i j h g e =
          let q : place_of (ids p) i ≡ place_of (ids p) j = same_item (place_of (ids p) i) (place_of (ids p) j) (place_within (ids p) i (known i h)) (place_within (ids p) j (known j g)) e in
          sym (id_at_place (ids p) i (known i h)) ∙ ap (slice_index (ids p)) q ∙ id_at_place (ids p) j (known j g)

  child_once : (v : ℕ) → AllPairs ◌≢◌ (children_of_node s v)
  child_once v = by (either_side v (length p.decompositions))
    where
      none : length p.decompositions < v → AllPairs ◌≢◌ (children_of_node s v)
      none w =
          let past : slice_get s.children v ≡ None = slice_get_past s.children v (omega (arith, as_many_nodes, w)) in
          let P : Option (List Item) → Type 0 = λ o. AllPairs ◌≢◌ (items_in o) in
          subst P (sym past) (λ a b d o w e. absurd (no_place b w))
        where
          no_place : (k : ℕ) → k < 0 → ⊥
          no_place k w = omega arith

      of_the_root : (v < length p.decompositions + 1) ⊎ (length p.decompositions + 1 ≤ v) → length p.decompositions ≤ v → AllPairs ◌≢◌ (children_of_node s v)
      of_the_root (inl lt) ge =
          let e : v ≡ length p.decompositions = omega (arith, lt, ge) in
          let P : List Item → Type 0 = λ xs. AllPairs ◌≢◌ xs in
          subst P (sym (ap (children_of_node s) e ∙ root_items)) (once_items p.root.ids (once_left p.root.ids (flat p.decompositions) single) (λ i h. root_child p i h))
      of_the_root (inr gt) ge = none (omega (arith, gt))

      by : (v < length p.decompositions) ⊎ (length p.decompositions ≤ v) → AllPairs ◌≢◌ (children_of_node s v)
      by (inl w) =
          let d = decomposition_at p (slice_index lines v) (line_of v w) in
          let P : List Item → Type 0 = λ xs. AllPairs ◌≢◌ xs in
          subst P (sym (line_items v w d.0 d.1))
          (once_items d.0.children (once_line p root lists root_is lists_are known single p.decompositions (slice_index lines v) d.0 (once_right p.root.ids (flat p.decompositions) single) d.1) (λ i h. line_child p (slice_index lines v) d.0 i d.1 h))
      by (inr ge) = of_the_root (either_side v (length p.decompositions + 1)) ge

  -- the nodes among items are the lines among places
  abbrev below : ℕ → List ℕ
  below k = slice_index_or lists k []

  nodes_are : (places : List ℕ) → flat_map node_numbers (items_at (length p.actions) numbers places) ≡ map (slice_index numbers) (flat_map (line_in (length p.actions)) places)
  nodes_are [] = refl
  nodes_are (x ∷ xs) =
      let first : node_numbers (item (length p.actions) numbers x) ≡ map (slice_index numbers) (line_in (length p.actions) x) = by (nat_lt x (length p.actions)) in
      let rest : flat_map node_numbers (items_at (length p.actions) numbers xs) ≡ map (slice_index numbers) (flat_map (line_in (length p.actions)) xs) = nodes_are xs in
      (λ i. first i ++ rest i) ∙ sym (map-append (slice_index numbers) (line_in (length p.actions) x) (flat_map (line_in (length p.actions)) xs))
    where
      by : (b : Bool) → node_numbers (cond b (Act x) (Task (slice_index numbers (x - length p.actions)))) ≡ map (slice_index numbers) (cond b [] ((x - length p.actions) ∷ []))
      by true = refl
      by false = refl

  by_number : (v : ℕ) → v ≤ length p.decompositions
      → child_nodes (children_of_node s) v ≡ map (slice_index numbers) (flat_map (line_in (length p.actions)) (flat_map below (backward lines v)))
  by_number zero le = refl
  by_number (suc v) le =
      let first : flat_map node_numbers (children_of_node s v) ≡ map (slice_index numbers) (flat_map (line_in (length p.actions)) (below (slice_index lines v))) =
      ap (flat_map node_numbers) (node_list v (omega (arith, le))) ∙ nodes_are (below (slice_index lines v)) in
      let rest : child_nodes (children_of_node s) v ≡ map (slice_index numbers) (flat_map (line_in (length p.actions)) (flat_map below (backward lines v))) = by_number v (omega (arith, le)) in
      (λ i. first i ++ rest i)
      ∙ sym (map-append (slice_index numbers) (flat_map (line_in (length p.actions)) (below (slice_index lines v))) (flat_map (line_in (length p.actions)) (flat_map below (backward lines v))))
      ∙ ap (map (slice_index numbers)) (sym (flat_map-append (line_in (length p.actions)) (below (slice_index lines v)) (flat_map below (backward lines v))))

  kids_lines : (xs : List ℕ) → flat_map below (flat_map (line_in (length p.actions)) xs) ≡ flat_map (kids lists (length p.actions)) xs
  kids_lines [] = refl
  kids_lines (x ∷ xs) =
      let first : flat_map below (line_in (length p.actions) x) ≡ kids lists (length p.actions) x = by (nat_lt x (length p.actions)) in
      let rest : flat_map below (flat_map (line_in (length p.actions)) xs) ≡ flat_map (kids lists (length p.actions)) xs = kids_lines xs in
      flat_map-append below (line_in (length p.actions) x) (flat_map (line_in (length p.actions)) xs) ∙ (λ i. first i ++ rest i)
    where
      by : (b : Bool) → flat_map below (cond b [] ((x - length p.actions) ∷ [])) ≡ cond b [] (below (x - length p.actions))
      by true = refl
      by false = append-nil (below (x - length p.actions))

  numbered_back : (v : ℕ) → v ≤ length p.decompositions → map (slice_index numbers) (backward lines v) ≡ countdown v
  numbered_back zero le = refl
  numbered_back (suc v) le =
      let first : slice_index numbers (slice_index lines v) ≡ v = number_back v (omega (arith, le)) in
      let rest : map (slice_index numbers) (backward lines v) ≡ countdown v = numbered_back v (omega (arith, le)) in
      λ i. first i ∷ rest i

  -- the nodes are numbered level by level
  in_order : child_nodes (children_of_node s) (suc (length p.decompositions)) ≡ countdown (length p.decompositions)
  in_order =
      let of_root : flat_map node_numbers (children_of_node s (length p.decompositions)) ≡ map (slice_index numbers) (flat_map (line_in (length p.actions)) root) = ap (flat_map node_numbers) root_list ∙ nodes_are root in
      let others : child_nodes (children_of_node s) (length p.decompositions) ≡ map (slice_index numbers) (flat_map (line_in (length p.actions)) (flat_map below (backward lines (length p.decompositions)))) =
      by_number (length p.decompositions) (omega arith) in
      let listed : flat_map (line_in (length p.actions)) met ≡ backward lines (length p.decompositions) = numbering.in_order ∙ ap (backward lines) as_many in
      let walked : met ≡ root ++ flat_map (kids lists (length p.actions)) met =
      walk.in_order (are_apart p root lists root_is lists_are known single) ∙ ap (λ zs. root ++ flat_map (kids lists (length p.actions)) zs) (take-length met) in
      let all_below : root ++ flat_map below (backward lines (length p.decompositions)) ≡ met =
      ap (λ zs. root ++ flat_map below zs) (sym listed) ∙ ap (λ zs. root ++ zs) (kids_lines met) ∙ sym walked in
      (λ i. of_root i ++ others i)
      ∙ sym (map-append (slice_index numbers) (flat_map (line_in (length p.actions)) root) (flat_map (line_in (length p.actions)) (flat_map below (backward lines (length p.decompositions)))))
      ∙ ap (map (slice_index numbers)) (sym (flat_map-append (line_in (length p.actions)) root (flat_map below (backward lines (length p.decompositions)))) ∙ ap (flat_map (line_in (length p.actions))) all_below ∙ listed)
      ∙ numbered_back (length p.decompositions) (omega arith)

  -- all that was met belongs to the tree
  reached_met : (steps b : ℕ) → b < steps → b < length met → Reached (shape_tree p s) (item (length p.actions) numbers (slice_index met b))
  reached_met zero b below w = absurd (omega arith)
  reached_met (suc steps) b below w = by (walk.comes b w) (λ a v u. reached_met steps a v u)
    where
      by : Comes root (kids lists (length p.actions)) met b → ((a : ℕ) → a < steps → a < length met → Reached (shape_tree p s) (item (length p.actions) numbers (slice_index met a)))
          → Reached (shape_tree p s) (item (length p.actions) numbers (slice_index met b))
      by (of_root h) earlier =
          let P : List Item → Type 0 = λ ys. Contains ys (item (length p.actions) numbers (slice_index met b)) in
          record {
            ancestor = item (length p.actions) numbers (slice_index met b);
            is_initial = subst P (sym root_list) (member_of (item (length p.actions) numbers) root (slice_index met b) h);
            below = itself;
          }
      by (of_one a less h) earlier =
          let q = kid_of p lists lists_are (slice_index met a) (slice_index met b) h in
          let k : ℕ = q.number in
          let kw : k < length p.decompositions = slice_get_within p.decompositions k q.line q.at in
          let g = given k kw in
          let vw : slice_index numbers k < length p.decompositions = let lt : slice_index numbers k < length lines = g.0 in omega (arith, lt, as_many) in
          let above : item (length p.actions) numbers (slice_index met a) ≡ Task (slice_index numbers k) = ap (item (length p.actions) numbers) q.behind ∙ item_of_line (length p.actions) numbers k in
          let r : Reached (shape_tree p s) (Task (slice_index numbers k)) = subst (Reached (shape_tree p s)) above (earlier a (omega (arith, less, below)) (omega (arith, less, w))) in
          let at : slice_get p.decompositions (slice_index lines (slice_index numbers k)) ≡ Some q.line = ap (slice_get p.decompositions) g.1 ∙ q.at in
          let named : Contains (map (place_of (ids p)) q.line.children) (slice_index met b) = subst (Contains (map (place_of (ids p)) q.line.children)) (sym q.is) (mapped_to (place_of (ids p)) q.line.children q.id q.named) in
          let P : List Item → Type 0 = λ ys. Contains ys (item (length p.actions) numbers (slice_index met b)) in
          let member : Contains (children_of_node s (slice_index numbers k)) (item (length p.actions) numbers (slice_index met b)) =
          subst P (sym (line_items (slice_index numbers k) vw q.line at)) (member_of (item (length p.actions) numbers) (map (place_of (ids p)) q.line.children) (slice_index met b) named) in
          record { ancestor = r.ancestor; is_initial = r.is_initial; below = its_child r.below member }

  place_reached : (k : ℕ) → k < length (ids p) → Reached (shape_tree p s) (item (length p.actions) numbers k)
  place_reached k w =
      let h = is_met k w in
      subst (λ j. Reached (shape_tree p s) (item (length p.actions) numbers j)) (stands_at met k h) (reached_met (h.0 + 1) h.0 (omega arith) h.1)

  reached_line : (v : ℕ) → v < length p.decompositions → Reached (shape_tree p s) (Task v)
  reached_line v w =
      let k : ℕ = slice_index lines v in
      let kw : k < length p.decompositions = line_of v w in
      let l : length (ids p) ≡ length p.actions + length p.decompositions = ids_long p in
      let is : item (length p.actions) numbers (length p.actions + k) ≡ Task v = item_of_line (length p.actions) numbers k ∙ ap Task (number_back v w) in
      subst (Reached (shape_tree p s)) is (place_reached (length p.actions + k) (omega (arith, kw, l)))

  reached_action : (k : ℕ) → k < length p.actions → Reached (shape_tree p s) (Act k)
  reached_action k w =
      let l : length (ids p) ≡ length p.actions + length p.decompositions = ids_long p in
      subst (Reached (shape_tree p s)) (item_of_action (length p.actions) numbers k w) (place_reached k (omega (arith, w, l)))

  pub is_shape : IsShape p s
  is_shape = record {
    as_many_lines = as_many;
    as_many_numbers = numbers_count;
    as_many_nodes = as_many_nodes;
    numbered = numbered;
    of_root = of_root_line;
    of_lines = all_zip_at (λ d v. AllZip (Stands p s) d.children (children_of_node s v)) p.decompositions numbers numbers_count of_line;
    shape = record { tree = tree; child_once = child_once; numbers = in_order; reached_lines = reached_line; reached_actions = reached_action };
  }

-- the numbers of lines are below that of the root line
pub numbers_below : (p : Plan) (s : Shape) → IsShape p s → (k d : ℕ) → k < length s.numbers → get_or s.numbers k d < length s.lines
numbers_below p s is k d w = slice_get_within s.lines (get_or s.numbers k d) k ((is.numbered (get_or s.numbers k d) k).1 (slice_get-get_or s.numbers k d w))
