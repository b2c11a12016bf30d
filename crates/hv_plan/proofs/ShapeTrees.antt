-- The shape that a walk and its numbers give is the plan's.
use Rattle.std.proofs.Common.{◌≡◌, ◌+◌, ◌-◌, ◌<◌, ◌≤◌, ◌⊎◌, inl, inr, ℕ, zero, suc, Bool, true, false, List, [], ◌∷◌, ◌++◌, Option, Some, None, option_map, cond, map, nat_lt, slice_get, refl, sym, ap, ◌∙◌, subst, arith, length, get_or, Contains, slice_index, slice_index_or, length-append, ltb-true, ltb-false}
use Rattle.std.specs.List.{AllZip, flat_map}
use Rattle.std.proofs.Math.ListN.{get_or-append, get_or-eq_default}
use Rattle.std.proofs.lemmas.List.{length-map, get_or-map, get_or-append_right}
use Rattle.std.proofs.lemmas.List.Elements.{Contains-append_left, Contains-append_right}
use Rattle.std.proofs.lemmas.Option.{slice_get-map, slice_get-get_or, get_or_from_slice_get, same_Some}
use Rattle.hv_lists.specs.Lists.{Once}
use Rattle.hv_lists.proofs.Places.{stands_at, contained_at}
use Rattle.hv_lists.proofs.EachOnce.{once_apart, once_right, once_left}
use Rattle.hv_lists.proofs.Numbers.{either_side}
use Rattle.hv_lists.proofs.Contained.{contains_at}
use Rattle.hv_plan.specs.Values.{Action, Decomposition, Plan}
use Rattle.hv_plan.specs.Shapes.{ids, line_parent, all_children, IsReached, FormTree}
use Rattle.hv_plan.specs.Shapes as form
use Rattle.hv_plan.specs.Trees.{Item}
use Rattle.hv_plan.specs.Ids.{place_of}
use Rattle.hv_plan.specs.inside.Shaping.{places_of_lines, kids, is_marked, AreApart, IsWalk, Comes, of_root, of_one}
use Rattle.hv_plan.specs.inside.ShapeViews.{line_id}
use Rattle.hv_plan.proofs.HeadLists.{action_ids, decomposition_ids, ids_are}
use Rattle.hv_plan.proofs.ShapeWalks.{once_map, once_none}
use Rattle.hv_plan.proofs.ShapePlaces.{place_within, id_at_place, place_is}

-- what a mapped list contains comes from the list
pub mapped_from : (f : ℕ → ℕ) (xs : List ℕ) (y : ℕ) → Contains (map f xs) y → (x : ℕ) × Contains xs x × (y ≡ f x)
mapped_from f xs y h =
    let l : length (map f xs) ≡ length xs = length-map xs f in
    let v : h.0 < length (map f xs) = h.1 in
    let w : h.0 < length xs = omega (arith, v, l) in
    (slice_index xs h.0, contained_at xs h.0 (slice_index xs h.0) w refl, sym h.2 ∙ get_or-map f xs h.0 0 y w)

pub mapped_to : (f : ℕ → ℕ) (xs : List ℕ) (x : ℕ) → Contains xs x → Contains (map f xs) (f x)
mapped_to f xs x h =
    let l : length (map f xs) ≡ length xs = length-map xs f in
    let w : h.0 < length xs = h.1 in
    (h.0, omega (arith, w, l), get_or-map f xs h.0 0 (f x) w ∙ ap f (stands_at xs x h))

-- what a list of items contains
here : (y : Item) (ys : List Item) (x : Item) → y ≡ x → Contains (y ∷ ys) x
here y ys x e = (0, omega arith, e)

pub member_to : (f : ℕ → Item) (xs : List ℕ) (x k : ℕ) → k < length xs → slice_index xs k ≡ x → Contains (map f xs) (f x)
member_to f [] x k w e = absurd (no_place k w) where
  no_place : (k : ℕ) → k < 0 → ⊥
  no_place k w = omega arith
member_to f (y ∷ ys) x zero w e = here (f y) (map f ys) (f x) (ap f e)
member_to f (y ∷ ys) x (suc k) w e = Contains-append_right (f y ∷ []) (map f ys) (f x) (member_to f ys x k (omega arith) e)

pub member_of : (f : ℕ → Item) (xs : List ℕ) (x : ℕ) → Contains xs x → Contains (map f xs) (f x)
member_of f xs x h = member_to f xs x h.0 h.1 (stands_at xs x h)

pub all_zip_map : {B : Type 0} (R : ℕ → B → Type 0) (f : ℕ → B) (xs : List ℕ) → ((x : ℕ) → Contains xs x → R x (f x)) → AllZip R xs (map f xs)
all_zip_map R f [] each = tt
all_zip_map R f (x ∷ xs) each = (each x (0, omega arith, refl), all_zip_map R f xs (λ y h. each y (Contains-append_right (x ∷ []) xs y h)))

pub all_zip_at : {A : Type 0} (R : A → ℕ → Type 0) (xs : List A) (ys : List ℕ) → length ys ≡ length xs → ((k : ℕ) (x : A) → slice_get xs k ≡ Some x → R x (slice_index ys k)) → AllZip R xs ys
all_zip_at R [] [] e each = tt
all_zip_at R [] (y ∷ ys) e each = absurd (let z : suc (length ys) ≡ 0 = e in omega (arith, z))
all_zip_at R (x ∷ xs) [] e each = absurd (let z : 0 ≡ suc (length xs) = e in omega (arith, z))
all_zip_at R (x ∷ xs) (y ∷ ys) e each = (each zero x refl, all_zip_at R xs ys (let z : suc (length ys) ≡ suc (length xs) = e in omega (arith, z)) (λ k z g. each (suc k) z g))

-- the children of decomposition lines
abbrev pub flat : List Decomposition → List ℕ
flat ds = flat_map (λ q. q.children) (map line_parent ds)

pub among_flat : (ds : List Decomposition) (k : ℕ) (d : Decomposition) (i : ℕ) → slice_get ds k ≡ Some d → Contains d.children i → Contains (flat ds) i
among_flat [] k d i e h = absurd (cc)
among_flat (x ∷ ds) zero d i e h =
    let P : Decomposition → Type 0 = λ y. Contains y.children i in
    Contains-append_left x.children (flat ds) i (subst P (sym (same_Some x d e)) h)
among_flat (x ∷ ds) (suc k) d i e h = Contains-append_right x.children (flat ds) i (among_flat ds k d i e h)

pub one_line : (ds : List Decomposition) (j k : ℕ) (c d : Decomposition) (i : ℕ) → Once (flat ds) → slice_get ds j ≡ Some c → slice_get ds k ≡ Some d → Contains c.children i → Contains d.children i → j ≡ k
one_line [] j k c d i once e f h g = absurd (cc)
one_line (x ∷ ds) zero zero c d i once e f h g = refl
one_line (x ∷ ds) zero (suc k) c d i once e f h g =
    let P : Decomposition → Type 0 = λ y. Contains y.children i in
    absurd (once_apart x.children (flat ds) i once (subst P (sym (same_Some x c e)) h) (among_flat ds k d i f g))
one_line (x ∷ ds) (suc j) zero c d i once e f h g =
    let P : Decomposition → Type 0 = λ y. Contains y.children i in
    absurd (once_apart x.children (flat ds) i once (subst P (sym (same_Some x d f)) g) (among_flat ds j c i e h))
one_line (x ∷ ds) (suc j) (suc k) c d i once e f h g = ap suc (one_line ds j k c d i (once_right x.children (flat ds) once) e f h g)

pub ids_long : (p : Plan) → length (ids p) ≡ length p.actions + length p.decompositions
ids_long p =
    let a : length (action_ids p) ≡ length p.actions = length-map p.actions (λ (a : Action). a.id) in
    let b : length (decomposition_ids p) ≡ length p.decompositions = length-map p.decompositions (λ (d : Decomposition). d.id) in
    let c : length (action_ids p ++ decomposition_ids p) ≡ length (action_ids p) + length (decomposition_ids p) = length-append (action_ids p) (decomposition_ids p) in
    ap length (ids_are p) ∙ omega (arith, a, b, c)

pub action_at : (p : Plan) (k : ℕ) → k < length p.actions → slice_get (action_ids p) k ≡ Some (slice_index (ids p) k)
action_at p k w =
    let a : length (action_ids p) ≡ length p.actions = length-map p.actions (λ (a : Action). a.id) in
    let v : k < length (action_ids p) = omega (arith, w, a) in
    slice_get-get_or (action_ids p) k 0 v ∙ ap Some (sym (ap (λ xs. slice_index xs k) (ids_are p) ∙ get_or-append (action_ids p) (decomposition_ids p) 0 k v))

pub behind_actions : (p : Plan) (k : ℕ) → slice_index (ids p) (length p.actions + k) ≡ slice_index (decomposition_ids p) k
behind_actions p k =
    let a : length (action_ids p) ≡ length p.actions = length-map p.actions (λ (a : Action). a.id) in
    ap (λ xs. slice_index xs (length p.actions + k)) (ids_are p)
    ∙ get_or-append_right (action_ids p) (decomposition_ids p) (length p.actions) (length p.actions + k) 0 a (omega arith)
    ∙ ap (slice_index (decomposition_ids p)) back
  where
    back : (length p.actions + k) - length p.actions ≡ k
    back = omega arith

pub line_at : (p : Plan) (k : ℕ) → k < length p.decompositions → line_id p k ≡ Some (slice_index (ids p) (length p.actions + k))
line_at p k w =
    let b : length (decomposition_ids p) ≡ length p.decompositions = length-map p.decompositions (λ (d : Decomposition). d.id) in
    slice_get-get_or (decomposition_ids p) k 0 (omega (arith, w, b)) ∙ ap Some (sym (behind_actions p k))

pub line_has : (p : Plan) (k : ℕ) (d : Decomposition) → slice_get p.decompositions k ≡ Some d → slice_index (ids p) (length p.actions + k) ≡ d.id
line_has p k d e =
    behind_actions p k ∙ get_or_from_slice_get (decomposition_ids p) k d.id 0 (slice_get-map (λ (d : Decomposition). d.id) p.decompositions k ∙ ap (option_map (λ (d : Decomposition). d.id)) e)

-- the kids of a place
pub record KidOf (p : Plan) (v c : ℕ) : Type 0 where
  pub number : ℕ
  pub line : Decomposition
  pub at : slice_get p.decompositions number ≡ Some line
  pub behind : v ≡ length p.actions + number
  pub id : ℕ
  pub named : Contains line.children id
  pub is : c ≡ place_of (form.ids p) id

pub record RootKid (p : Plan) (c : ℕ) : Type 0 where
  pub id : ℕ
  pub named : Contains p.root.ids id
  pub is : c ≡ place_of (form.ids p) id

pub list_of_line : (p : Plan) (k : ℕ) (d : Decomposition) → slice_get p.decompositions k ≡ Some d
    → slice_index_or (places_of_lines (ids p) p) k [] ≡ map (place_of (ids p)) d.children
list_of_line p k d e =
    get_or_from_slice_get (places_of_lines (ids p) p) k (map (place_of (ids p)) d.children) []
    (slice_get-map (λ (d : Decomposition). map (place_of (ids p)) d.children) p.decompositions k ∙ ap (option_map (λ (d : Decomposition). map (place_of (ids p)) d.children)) e)

pub decomposition_at : (p : Plan) (k : ℕ) → k < length p.decompositions → (d : Decomposition) × (slice_get p.decompositions k ≡ Some d)
decomposition_at p k w = by (slice_get p.decompositions k) refl where
  by : (o : Option Decomposition) → slice_get p.decompositions k ≡ o → (d : Decomposition) × (slice_get p.decompositions k ≡ Some d)
  by (Some d) e = (d, e)
  by None e = absurd (none_some (get_or p.decompositions k (record { id = 0; name = []; arguments = []; method = []; children = []; line = 0 })) (sym e ∙ slice_get-get_or p.decompositions k (record { id = 0; name = []; arguments = []; method = []; children = []; line = 0 }) w))
    where
      none_some : (d : Decomposition) → ◌≡◌ {A = Option Decomposition} None (Some d) → ⊥
      none_some d q = cc

no_member : (c : ℕ) → Contains {X = ℕ} [] c → ⊥
no_member c h = at h.0 h.1
  where
    at : (k : ℕ) → k < 0 → ⊥
    at k w = omega arith

pub kid_of : (p : Plan) (lists : List (List ℕ)) → lists ≡ places_of_lines (ids p) p → (v c : ℕ) → Contains (kids lists (length p.actions) v) c → KidOf p v c
kid_of p lists are v c h = by (nat_lt v (length p.actions)) refl where
  n : ℕ
  n = length p.actions

  listed : (k : ℕ) → v ≡ n + k → Contains (slice_index_or lists k []) c → (k < length p.decompositions) ⊎ (length p.decompositions ≤ k) → KidOf p v c
  listed k e g (inl w) =
      let d = decomposition_at p k w in
      let P : List ℕ → Type 0 = λ xs. Contains xs c in
      let m = mapped_from (place_of (ids p)) d.0.children c (subst P (ap (λ ls. slice_index_or ls k []) are ∙ list_of_line p k d.0 d.1) g) in
      record { number = k; line = d.0; at = d.1; behind = e; id = m.0; named = m.1; is = m.2 }
  listed k e g (inr ge) =
      let l : length (places_of_lines (ids p) p) ≡ length p.decompositions = length-map p.decompositions (λ (d : Decomposition). map (place_of (ids p)) d.children) in
      let P : List ℕ → Type 0 = λ xs. Contains xs c in
      absurd (no_member c (subst P (ap (λ ls. slice_index_or ls k []) are ∙ get_or-eq_default (places_of_lines (ids p) p) [] (omega (arith, l, ge))) g))

  by : (b : Bool) → nat_lt v n ≡ b → KidOf p v c
  by true e = let P : Bool → Type 0 = λ b. Contains (cond b [] (slice_index_or lists (v - n) [])) c in absurd (no_member c (subst P e h))
  by false e =
      let P : Bool → Type 0 = λ b. Contains (cond b [] (slice_index_or lists (v - n) [])) c in
      let ge : n ≤ v = ltb-false v n e in
      listed (v - n) (omega (arith, ge)) (subst P e h) (either_side (v - n) (length p.decompositions))

pub kids_of : (p : Plan) (lists : List (List ℕ)) → lists ≡ places_of_lines (ids p) p → (k : ℕ) (d : Decomposition) → slice_get p.decompositions k ≡ Some d
    → kids lists (length p.actions) (length p.actions + k) ≡ map (place_of (ids p)) d.children
kids_of p lists are k d e =
    let n : ℕ = length p.actions in
    ap (λ b. cond b [] (slice_index_or lists ((length p.actions + k) - length p.actions) [])) not_less
    ∙ ap (λ j. slice_index_or lists j []) back ∙ ap (λ ls. slice_index_or ls k []) are ∙ list_of_line p k d e
  where
    back : (length p.actions + k) - length p.actions ≡ k
    back = omega arith

    not_less : nat_lt (length p.actions + k) (length p.actions) ≡ false
    not_less = by (nat_lt (length p.actions + k) (length p.actions)) refl where
      by : (b : Bool) → nat_lt (length p.actions + k) (length p.actions) ≡ b → nat_lt (length p.actions + k) (length p.actions) ≡ false
      by true t = let lt : length p.actions + k < length p.actions = ltb-true (length p.actions + k) (length p.actions) t in absurd (omega (arith, lt))
      by false t = t

pub root_kid : (p : Plan) (root : List ℕ) → root ≡ map (place_of (ids p)) p.root.ids → (c : ℕ) → Contains root c → RootKid p c
root_kid p root is c h =
    let P : List ℕ → Type 0 = λ xs. Contains xs c in
    let m = mapped_from (place_of (ids p)) p.root.ids c (subst P is h) in
    record { id = m.0; named = m.1; is = m.2 }

-- all children
pub root_child : (p : Plan) (i : ℕ) → Contains p.root.ids i → Contains (all_children p) i
root_child p i h = Contains-append_left p.root.ids (flat p.decompositions) i h

pub line_child : (p : Plan) (k : ℕ) (d : Decomposition) (i : ℕ) → slice_get p.decompositions k ≡ Some d → Contains d.children i → Contains (all_children p) i
line_child p k d i e h = Contains-append_right p.root.ids (flat p.decompositions) i (among_flat p.decompositions k d i e h)

-- what is reached by children is met by the walk, and the other way
module _ (p : Plan) (root : List ℕ) (lists : List (List ℕ)) (met : List ℕ) (marks : List Bool)
    (root_is : root ≡ map (place_of (ids p)) p.root.ids) (lists_are : lists ≡ places_of_lines (ids p) p) (once : Once (ids p))
    (known : (i : ℕ) → Contains (all_children p) i → Contains (ids p) i) (walk : IsWalk root (kids lists (length p.actions)) met marks) where
  pub met_reached : (steps b : ℕ) → b < steps → b < length met → IsReached p (slice_index (ids p) (slice_index met b))
  met_reached zero b below w = absurd (omega arith)
  met_reached (suc steps) b below w = by (walk.comes b w) (λ a v u. met_reached steps a v u)
    where
      by : Comes root (kids lists (length p.actions)) met b → ((a : ℕ) → a < steps → a < length met → IsReached p (slice_index (ids p) (slice_index met a))) → IsReached p (slice_index (ids p) (slice_index met b))
      by (of_root h) earlier =
          let k = root_kid p root root_is (slice_index met b) h in
          let e : slice_index (ids p) (slice_index met b) ≡ k.id = ap (slice_index (ids p)) k.is ∙ id_at_place (ids p) k.id (known k.id (root_child p k.id k.named)) in
          subst (IsReached p) (sym e) (form.of_root k.named)
      by (of_one a o h) earlier =
          let k = kid_of p lists lists_are (slice_index met a) (slice_index met b) h in
          let e : slice_index (ids p) (slice_index met b) ≡ k.id = ap (slice_index (ids p)) k.is ∙ id_at_place (ids p) k.id (known k.id (line_child p k.number k.line k.id k.at k.named)) in
          let f : slice_index (ids p) (slice_index met a) ≡ k.line.id = ap (slice_index (ids p)) k.behind ∙ line_has p k.number k.line k.at in
          let above : IsReached p k.line.id = subst (IsReached p) f (earlier a (omega (arith, o, below)) (omega (arith, o, w))) in
          subst (IsReached p) (sym e) (form.of_line k.line (contains_at p.decompositions k.number k.line k.at) above k.named)

  pub reached_met : {i : ℕ} → IsReached p i → Contains met (place_of (ids p) i)
  reached_met (form.of_root {i = i} h) =
      let P : List ℕ → Type 0 = λ xs. Contains xs (place_of (ids p) i) in
      walk.has_root (place_of (ids p) i) (subst P (sym root_is) (mapped_to (place_of (ids p)) p.root.ids i h))
  reached_met (form.of_line {i = i} d in_plan above h) =
      let k : ℕ = in_plan.0 in
      let w : k < length p.decompositions = in_plan.1 in
      let at : slice_get p.decompositions k ≡ Some d = slice_get-get_or p.decompositions k d w ∙ ap Some in_plan.2 in
      let l : length (ids p) ≡ length p.actions + length p.decompositions = ids_long p in
      let here : place_of (ids p) d.id ≡ length p.actions + k = place_is (ids p) (length p.actions + k) d.id once (omega (arith, w, l)) (line_has p k d at) in
      let m = reached_met above in
      let stands : slice_index met m.0 ≡ length p.actions + k = stands_at met (place_of (ids p) d.id) m ∙ here in
      let P : List ℕ → Type 0 = λ xs. Contains xs (place_of (ids p) i) in
      let are : kids lists (length p.actions) (slice_index met m.0) ≡ map (place_of (ids p)) d.children = ap (kids lists (length p.actions)) stands ∙ kids_of p lists lists_are k d at in
      walk.closed m.0 (place_of (ids p) i) m.1 (subst P (sym are) (mapped_to (place_of (ids p)) d.children i h))

  -- lines that are all met form a tree, where each child begins one line and is a child once
  pub form_tree : Once (all_children p) → ((k : ℕ) → k < length (ids p) → is_marked marks k ≡ true) → FormTree p
  form_tree single all = record { distinct = once; children = known; once = single; reached = λ i h. reach i h }
    where
      reach : (i : ℕ) → Contains (ids p) i → IsReached p i
      reach i h =
          let place : Contains met h.0 = walk.meeting.marked h.0 (all h.0 h.1) in
          let e : slice_index (ids p) (slice_index met place.0) ≡ i = ap (slice_index (ids p)) (stands_at met h.0 place) ∙ stands_at (ids p) i h in
          subst (IsReached p) e (met_reached (place.0 + 1) place.0 (omega arith) place.1)

-- the places of children are places of lines
pub root_within : (p : Plan) (root : List ℕ) → root ≡ map (place_of (ids p)) p.root.ids → ((i : ℕ) → Contains (all_children p) i → Contains (ids p) i) → (c : ℕ) → Contains root c → c < length (ids p)
root_within p root is known c h =
    let k = root_kid p root is c h in
    let w : place_of (ids p) k.id < length (ids p) = place_within (ids p) k.id (known k.id (root_child p k.id k.named)) in
    let e : c ≡ place_of (ids p) k.id = k.is in
    omega (arith, w, e)

pub kids_within : (p : Plan) (lists : List (List ℕ)) → lists ≡ places_of_lines (ids p) p → ((i : ℕ) → Contains (all_children p) i → Contains (ids p) i)
    → (v c : ℕ) → Contains (kids lists (length p.actions) v) c → c < length (ids p)
kids_within p lists are known v c h =
    let k = kid_of p lists are v c h in
    let w : place_of (ids p) k.id < length (ids p) = place_within (ids p) k.id (known k.id (line_child p k.number k.line k.id k.at k.named)) in
    let e : c ≡ place_of (ids p) k.id = k.is in
    omega (arith, w, e)

pub kids_behind : (n : ℕ) (lists : List (List ℕ)) (k : ℕ) → kids lists n (n + k) ≡ slice_index_or lists k []
kids_behind n lists k = by (nat_lt (n + k) n) refl
  where
    back : (n + k) - n ≡ k
    back = omega arith

    by : (b : Bool) → nat_lt (n + k) n ≡ b → kids lists n (n + k) ≡ slice_index_or lists k []
    by true t = let lt : n + k < n = ltb-true (n + k) n t in absurd (omega (arith, lt))
    by false t = ap (λ b. cond b [] (slice_index_or lists ((n + k) - n) [])) t ∙ ap (λ j. slice_index_or lists j []) back

-- each child stands below one line, and once there
module _ (p : Plan) (root : List ℕ) (lists : List (List ℕ)) (root_is : root ≡ map (place_of (ids p)) p.root.ids) (lists_are : lists ≡ places_of_lines (ids p) p)
    (known : (i : ℕ) → Contains (all_children p) i → Contains (ids p) i) (single : Once (all_children p)) where
  one_id : (i j : ℕ) → Contains (all_children p) i → Contains (all_children p) j → place_of (ids p) i ≡ place_of (ids p) j → i ≡ j
  one_id i j h g e = sym (id_at_place (ids p) i (known i h)) ∙ ap (slice_index (ids p)) e ∙ id_at_place (ids p) j (known j g)

  once_places : (is : List ℕ) → Once is → ((i : ℕ) → Contains is i → Contains (all_children p) i) → Once (map (place_of (ids p)) is)
  once_places is once contains_at = once_map (place_of (ids p)) is (λ i j h g. one_id i j (contains_at i h) (contains_at j g)) once

  pub once_line : (ds : List Decomposition) (k : ℕ) (d : Decomposition) → Once (flat ds) → slice_get ds k ≡ Some d → Once d.children
  once_line [] k d once e = absurd (cc)
  once_line (x ∷ ds) zero d once e = subst (λ (y : Decomposition). Once y.children) (same_Some x d e) (once_left x.children (flat ds) once)
  once_line (x ∷ ds) (suc k) d once e = once_line ds k d (once_right x.children (flat ds) once) e

  once_kids : (v : ℕ) → Once (kids lists (length p.actions) v)
  once_kids v = by (nat_lt v (length p.actions)) refl
    where
      n : ℕ
      n = length p.actions

      listed : (k : ℕ) → (k < length p.decompositions) ⊎ (length p.decompositions ≤ k) → Once (slice_index_or lists k [])
      listed k (inl w) =
          let d = decomposition_at p k w in
          subst Once (sym (ap (λ ls. slice_index_or ls k []) lists_are ∙ list_of_line p k d.0 d.1))
          (once_places d.0.children (once_line p.decompositions k d.0 (once_right p.root.ids (flat p.decompositions) single) d.1) (λ i h. line_child p k d.0 i d.1 h))
      listed k (inr ge) =
          let l : length (places_of_lines (ids p) p) ≡ length p.decompositions = length-map p.decompositions (λ (d : Decomposition). map (place_of (ids p)) d.children) in
          subst Once (sym (ap (λ ls. slice_index_or ls k []) lists_are ∙ get_or-eq_default (places_of_lines (ids p) p) [] (omega (arith, l, ge)))) once_none

      by : (b : Bool) → nat_lt v n ≡ b → Once (kids lists n v)
      by true e = let P : Bool → Type 0 = λ b. Once (cond b [] (slice_index_or lists (v - n) [])) in subst P (sym e) once_none
      by false e = let P : Bool → Type 0 = λ b. Once (cond b [] (slice_index_or lists (v - n) [])) in subst P (sym e) (listed (v - n) (either_side (v - n) (length p.decompositions)))

  pub are_apart : AreApart root (kids lists (length p.actions))
  are_apart = record {
    roots = subst Once (sym root_is) (once_places p.root.ids (once_left p.root.ids (flat p.decompositions) single) (λ i h. root_child p i h));
    lists = once_kids;
    below_root = λ v c h g. apart v c (root_kid p root root_is c h) (kid_of p lists lists_are v c g);
    below_one = λ u v c h g. one u v c (kid_of p lists lists_are u c h) (kid_of p lists lists_are v c g);
  }
    where
      apart : (v c : ℕ) → RootKid p c → KidOf p v c → ⊥
      apart v c r k =
          let same : r.id ≡ k.id = one_id r.id k.id (root_child p r.id r.named) (line_child p k.number k.line k.id k.at k.named) (sym r.is ∙ k.is) in
          once_apart p.root.ids (flat p.decompositions) k.id single (subst (Contains p.root.ids) same r.named) (among_flat p.decompositions k.number k.line k.id k.at k.named)

      one : (u v c : ℕ) → KidOf p u c → KidOf p v c → u ≡ v
      one u v c j k =
          let same : j.id ≡ k.id = one_id j.id k.id (line_child p j.number j.line j.id j.at j.named) (line_child p k.number k.line k.id k.at k.named) (sym j.is ∙ k.is) in
          let line : j.number ≡ k.number = one_line p.decompositions j.number k.number j.line k.line k.id (once_right p.root.ids (flat p.decompositions) single) j.at k.at (subst (Contains j.line.children) same j.named) k.named in
          j.behind ∙ ap (λ m. length p.actions + m) line ∙ sym k.behind
