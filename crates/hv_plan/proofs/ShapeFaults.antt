-- The causes for which lines form no tree, where they are found.
use Rattle.std.proofs.Common.{◌≡◌, ◌≢◌, ◌+◌, ◌-◌, ◌==◌, ◌<◌, ◌≤◌, ◌⊎◌, inl, inr, ℕ, zero, suc, Bool, true, false, List, [], ◌∷◌, ◌++◌, Option, Some, None, if◌then◌else◌, map, slice_get, refl, sym, ap, ◌∙◌, subst, arith, length, get_or, Contains, slice_index, length-append, true≢false}
use Rattle.std.specs.List.{flat_map}
use Rattle.std.proofs.Math.ListN.{get_or-append}
use Rattle.std.proofs.lemmas.List.{length-map, get_or-map, get_or-append_right}
use Rattle.std.proofs.lemmas.List.Elements.{Contains-append_right, Contains-get_or}
use Rattle.std.proofs.lemmas.Option.{slice_get-get_or, same_Some}
use Rattle.hv_lists.specs.Lists.{Once}
use Rattle.hv_lists.proofs.Places.{stands_at, contained_at}
use Rattle.hv_lists.proofs.EachOnce.{once_at, once_tail}
use Rattle.hv_lists.proofs.Numbers.{either, either_side}
use Rattle.hv_world.specs.Worlds.{World}
use Rattle.hv_plan.specs.Values.{Action, Decomposition, Plan}
use Rattle.hv_plan.specs.Shapes.{heads, ids, Parent, line_parent, parents, all_children, line_numbers, IsReached, IsInTextOrder}
use Rattle.hv_plan.specs.Causes.{number, Qualifies, repeated_id, unknown_child, child_before, child_twice, unreached}
use Rattle.hv_plan.specs.Ids.{place_of}
use Rattle.hv_plan.specs.inside.Shaping.{IsFirst, IsRepeat, IsMissed, is_known, is_marked, lines_of_heads, child_lines, lines_of_children, places_of_lines, kids, IsWalk}
use Rattle.hv_plan.specs.inside.ShapeCauses.{NoneBelow, IsFirstFor, IsFormFault}
use Rattle.hv_plan.specs.declared.cause.CauseKind.{CauseKind}
use Rattle.hv_plan.specs.declared.cause.CauseKind.TheVariants as kinds
use Rattle.hv_plan.specs.declared.cause.TreeFault.TheVariants as faults
use Rattle.hv_plan.proofs.HeadLists.{lines_are}
use Rattle.hv_plan.proofs.FirstLines.{same_first}
use Rattle.hv_plan.proofs.ShapeWalks.{once_from}
use Rattle.hv_plan.proofs.ShapePlaces.{known_is, unknown_is, is_unknown, place_is}
use Rattle.hv_plan.proofs.ShapeTrees.{met_reached, reached_met}

-- the kind of a number
abbrev pub kind_of : ℕ → CauseKind
kind_of n =
    if n == 50 then kinds.RepeatedId else if n == 51 then kinds.UnknownChild else if n == 52 then kinds.TwoParents else if n == 53 then kinds.Unreached
    else if n == 54 then kinds.UnknownTask else if n == 55 then kinds.UnknownMethod else if n == 56 then kinds.UnknownObject
    else if n == 57 then kinds.ArgumentCount else if n == 58 then kinds.ArgumentType else if n == 59 then kinds.NotPrimitive
    else if n == 60 then kinds.NotAbstract else if n == 61 then kinds.OtherTask else if n == 62 then kinds.ChildCount else kinds.ChildNames

kind_back : (k : CauseKind) → kind_of (number k) ≡ k
kind_back kinds.RepeatedId = refl
kind_back kinds.UnknownChild = refl
kind_back kinds.TwoParents = refl
kind_back kinds.Unreached = refl
kind_back kinds.UnknownTask = refl
kind_back kinds.UnknownMethod = refl
kind_back kinds.UnknownObject = refl
kind_back kinds.ArgumentCount = refl
kind_back kinds.ArgumentType = refl
kind_back kinds.NotPrimitive = refl
kind_back kinds.NotAbstract = refl
kind_back kinds.OtherTask = refl
kind_back kinds.ChildCount = refl
kind_back kinds.ChildNames = refl

pub same_kind : (j k : CauseKind) → number j ≡ number k → j ≡ k
same_kind j k e = sym (kind_back j) ∙ ap kind_of e ∙ kind_back k

-- no number is below that of the first cause
pub none_below : (p : Plan) → NoneBelow p 50
none_below p w k l lt q = absurd (small k lt)
  where
    small : (k : CauseKind) → number k < 50 → ⊥
    small kinds.RepeatedId lt = omega (arith, lt)
    small kinds.UnknownChild lt = omega (arith, lt)
    small kinds.TwoParents lt = omega (arith, lt)
    small kinds.Unreached lt = omega (arith, lt)
    small kinds.UnknownTask lt = omega (arith, lt)
    small kinds.UnknownMethod lt = omega (arith, lt)
    small kinds.UnknownObject lt = omega (arith, lt)
    small kinds.ArgumentCount lt = omega (arith, lt)
    small kinds.ArgumentType lt = omega (arith, lt)
    small kinds.NotPrimitive lt = omega (arith, lt)
    small kinds.NotAbstract lt = omega (arith, lt)
    small kinds.OtherTask lt = omega (arith, lt)
    small kinds.ChildCount lt = omega (arith, lt)
    small kinds.ChildNames lt = omega (arith, lt)

pub none_so_far : (p : Plan) (k : CauseKind) → NoneBelow p (number k) → IsFirstFor p k None → NoneBelow p (number k + 1)
none_so_far p k below first w j l lt q = by (either_side (number j) (number k))
  where
    by : (number j < number k) ⊎ (number k ≤ number j) → ⊥
    by (inl less) = below w j l less q
    by (inr le) =
        let e : j ≡ k = same_kind j k (omega (arith, lt, le)) in
        let P : CauseKind → Type 0 = λ i. Qualifies w p i l in
        first w l (subst P e q)

pub the_cause : (p : Plan) (k : CauseKind) (l : ℕ) → NoneBelow p (number k) → IsFirstFor p k (Some l) → IsFormFault p (faults.Cause (record { kind = k; line = l }))
the_cause p k l below first w = record { qualifies = (first w).0; smallest = λ j m lt. below w j m lt; first = (first w).1 }

-- the first line, where one of which it holds is not to be shown
pub almost_first : (P R : ℕ → Type 0) (o : Option ℕ) → IsFirst P o → ((l : ℕ) → P l → R l) → ((l : ℕ) → R l → (P l → ⊥) → ⊥) → IsFirst R o
almost_first P R None a of_p of_r = λ l r. of_r l r (a l)
almost_first P R (Some l) a of_p of_r = (of_p l a.0, λ m r. by m r (either_side m l))
  where
    by : (m : ℕ) → R m → (m < l) ⊎ (l ≤ m) → l ≤ m
    by m r (inl lt) = absurd (of_r m r (λ q. let le : l ≤ m = a.1 m q in omega (arith, le, lt)))
    by m r (inr le) = le

-- what begins a line at a place
pub record HeadAt (p : Plan) (k : ℕ) : Type 0 where
  pub head : Action
  pub among : Contains (heads p) head
  pub id : head.id ≡ slice_index (ids p) k
  pub line : head.line ≡ slice_index (lines_of_heads p) k

nothing : Action
nothing = record { id = 0; name = []; arguments = []; line = 0 }

ids_count : (p : Plan) → length (ids p) ≡ length (heads p)
ids_count p = length-map (heads p) (λ (a : Action). a.id)

pub lines_count : (p : Plan) → length (ids p) ≡ length (lines_of_heads p)
lines_count p = ids_count p ∙ sym (length-map (heads p) (λ (a : Action). a.line))

head_at : (p : Plan) (k : ℕ) → k < length (ids p) → HeadAt p k
head_at p k w =
    let c : length (ids p) ≡ length (heads p) = ids_count p in
    let v : k < length (heads p) = omega (arith, w, c) in
    let a : Action = get_or (heads p) k nothing in
    record {
      head = a;
      among = Contains-get_or (heads p) k nothing v;
      id = sym (get_or-map (λ (a : Action). a.id) (heads p) k nothing 0 v);
      line = sym (get_or-map (λ (a : Action). a.line) (heads p) k nothing 0 v);
    }

head_id : (p : Plan) (a : Action) (h : Contains (heads p) a) → slice_index (ids p) h.0 ≡ a.id
head_id p a h = get_or-map (λ (a : Action). a.id) (heads p) h.0 a 0 h.1 ∙ ap (λ (b : Action). b.id) h.2

head_line : (p : Plan) (a : Action) (h : Contains (heads p) a) → slice_index (lines_of_heads p) h.0 ≡ a.line
head_line p a h = get_or-map (λ (a : Action). a.line) (heads p) h.0 a 0 h.1 ∙ ap (λ (b : Action). b.line) h.2

head_within : (p : Plan) (a : Action) (h : Contains (heads p) a) → h.0 < length (ids p)
head_within p a h = let c : length (ids p) ≡ length (heads p) = ids_count p in let v : h.0 < length (heads p) = h.1 in omega (arith, v, c)

head_lines_once : (p : Plan) → IsInTextOrder p → Once (lines_of_heads p)
head_lines_once p order = λ a b d o w. order.once (suc a) (suc b) d (omega (arith, o)) (omega (arith, w))

module _ (p : Plan) (order : IsInTextOrder p) (w : World) where
  of_repeat : (l : ℕ) → IsRepeat (ids p) (lines_of_heads p) (length (ids p)) l → Qualifies w p kinds.RepeatedId l
  of_repeat l r = by (either_side (slice_index (lines_of_heads p) r.one) (slice_index (lines_of_heads p) r.other))
    where
      o : r.one < r.other
      o = r.before

      v : r.other < length (ids p)
      v = r.within

      a : HeadAt p r.one
      a = head_at p r.one (omega (arith, r.before, r.within))

      b : HeadAt p r.other
      b = head_at p r.other r.within

      apart : slice_index (lines_of_heads p) r.one ≢ slice_index (lines_of_heads p) r.other
      apart = once_at (lines_of_heads p) (head_lines_once p order) r.one r.other r.before (let c : length (ids p) ≡ length (lines_of_heads p) = lines_count p in omega (arith, r.within, c))

      by : (slice_index (lines_of_heads p) r.one < slice_index (lines_of_heads p) r.other) ⊎ (slice_index (lines_of_heads p) r.other ≤ slice_index (lines_of_heads p) r.one)
          → Qualifies w p kinds.RepeatedId l
      by (inl lt) =
          let e : b.head.line ≡ l = omega (arith, b.line, lt, r.later) in
          subst (Qualifies w p kinds.RepeatedId) e (repeated_id a.head b.head a.among b.among (a.id ∙ r.same ∙ sym b.id) (omega (arith, lt, a.line, b.line)))
      by (inr ge) =
          let e : a.head.line ≡ l = omega (arith, a.line, ge, r.later) in
          subst (Qualifies w p kinds.RepeatedId) e (repeated_id b.head a.head b.among a.among (b.id ∙ sym r.same ∙ sym a.id) (omega (arith, ge, apart, a.line, b.line)))

  to_repeat : {l : ℕ} → Qualifies w p kinds.RepeatedId l → IsRepeat (ids p) (lines_of_heads p) (length (ids p)) l
  to_repeat (repeated_id a b ca cb e lt) = by (either_side ca.0 cb.0)
    where
      same : slice_index (ids p) ca.0 ≡ slice_index (ids p) cb.0
      same = head_id p a ca ∙ e ∙ sym (head_id p b cb)

      la : slice_index (lines_of_heads p) ca.0 ≡ a.line
      la = head_line p a ca

      lb : slice_index (lines_of_heads p) cb.0 ≡ b.line
      lb = head_line p b cb

      apart : ca.0 ≢ cb.0
      apart q = let s : slice_index (lines_of_heads p) ca.0 ≡ slice_index (lines_of_heads p) cb.0 = ap (slice_index (lines_of_heads p)) q in omega (arith, la, lb, lt, s)

      by : (ca.0 < cb.0) ⊎ (cb.0 ≤ ca.0) → IsRepeat (ids p) (lines_of_heads p) (length (ids p)) b.line
      by (inl o) = record { one = ca.0; other = cb.0; before = o; within = head_within p b cb; same = same; later = omega (arith, la, lb, lt) }
      by (inr o) = record { one = cb.0; other = ca.0; before = omega (arith, o, apart); within = head_within p a ca; same = sym same; later = omega (arith, la, lb, lt) }

pub repeats_are : (p : Plan) → IsInTextOrder p → (o : Option ℕ) → IsFirst (IsRepeat (ids p) (lines_of_heads p) (length (ids p))) o → IsFirstFor p kinds.RepeatedId o
repeats_are p order o first w =
    same_first (IsRepeat (ids p) (lines_of_heads p) (length (ids p))) (Qualifies w p kinds.RepeatedId) o first (of_repeat p order w) (λ l q. to_repeat p order w q)

-- children and their lines, one after another
abbrev pub children_in : List Parent → List ℕ
children_in qs = flat_map (λ q. q.children) qs

abbrev pub lines_in : List Parent → List ℕ
lines_in qs = flat_map child_lines qs

pub as_many_lines : (qs : List Parent) → length (children_in qs) ≡ length (lines_in qs)
as_many_lines [] = refl
as_many_lines (q ∷ qs) =
    let a : length (q.children ++ children_in qs) ≡ length q.children + length (children_in qs) = length-append q.children (children_in qs) in
    let b : length (child_lines q ++ lines_in qs) ≡ length (child_lines q) + length (lines_in qs) = length-append (child_lines q) (lines_in qs) in
    let c : length (child_lines q) ≡ length q.children = length-map q.children (λ (i : ℕ). q.line) in
    let d : length (children_in qs) ≡ length (lines_in qs) = as_many_lines qs in
    omega (arith, a, b, c, d)

front_line : (q : Parent) (qs : List Parent) (k : ℕ) → k < length q.children → slice_index (child_lines q ++ lines_in qs) k ≡ q.line
front_line q qs k w =
    let c : length (child_lines q) ≡ length q.children = length-map q.children (λ (i : ℕ). q.line) in
    get_or-append (child_lines q) (lines_in qs) 0 k (omega (arith, w, c)) ∙ get_or-map (λ (i : ℕ). q.line) q.children k 0 0 w

back_line : (q : Parent) (qs : List Parent) (k : ℕ) → slice_index (child_lines q ++ lines_in qs) (length q.children + k) ≡ slice_index (lines_in qs) k
back_line q qs k =
    let c : length (child_lines q) ≡ length q.children = length-map q.children (λ (i : ℕ). q.line) in
    get_or-append_right (child_lines q) (lines_in qs) (length q.children) (length q.children + k) 0 c (omega arith) ∙ ap (slice_index (lines_in qs)) back
  where
    back : (length q.children + k) - length q.children ≡ k
    back = omega arith

front_child : (q : Parent) (qs : List Parent) (k : ℕ) → k < length q.children → slice_index (q.children ++ children_in qs) k ≡ slice_index q.children k
front_child q qs k w = get_or-append q.children (children_in qs) 0 k w

back_child : (q : Parent) (qs : List Parent) (k : ℕ) → slice_index (q.children ++ children_in qs) (length q.children + k) ≡ slice_index (children_in qs) k
back_child q qs k = get_or-append_right q.children (children_in qs) (length q.children) (length q.children + k) 0 refl (omega arith) ∙ ap (slice_index (children_in qs)) back
  where
    back : (length q.children + k) - length q.children ≡ k
    back = omega arith

-- the parent of a child
pub record ParentAt (qs : List Parent) (k : ℕ) : Type 0 where
  pub parent : Parent
  pub among : Contains qs parent
  pub named : Contains parent.children (slice_index (children_in qs) k)
  pub line : slice_index (lines_in qs) k ≡ parent.line

-- a place is in the first list, or behind it
behind : (n k : ℕ) → n ≤ k → n + (k - n) ≡ k
behind n k le = omega (arith, le)

pub parent_at : (qs : List Parent) (k : ℕ) → k < length (children_in qs) → ParentAt qs k
parent_at [] k w = absurd (no_place k w) where
  no_place : (k : ℕ) → k < 0 → ⊥
  no_place k w = omega arith
parent_at (q ∷ qs) k w = by (either_side k (length q.children)) (λ j v. parent_at qs j v)
  where
    long : length (q.children ++ children_in qs) ≡ length q.children + length (children_in qs)
    long = length-append q.children (children_in qs)

    by : (k < length q.children) ⊎ (length q.children ≤ k) → ((j : ℕ) → j < length (children_in qs) → ParentAt qs j) → ParentAt (q ∷ qs) k
    by (inl v) rest = record {
      parent = q;
      among = (0, omega arith, refl);
      named = contained_at q.children k (slice_index (q.children ++ children_in qs) k) v (sym (front_child q qs k v));
      line = front_line q qs k v;
    }
    by (inr ge) rest =
        let j : ℕ = k - length q.children in
        let e : length q.children + (k - length q.children) ≡ k = behind (length q.children) k ge in
        let r = rest (k - length q.children) (omega (arith, w, ge, long)) in
        let P : ℕ → Type 0 = Contains r.parent.children in
        record {
          parent = r.parent;
          among = Contains-append_right (q ∷ []) qs r.parent r.among;
          named = subst P (sym (back_child q qs (k - length q.children)) ∙ ap (slice_index (q.children ++ children_in qs)) e) r.named;
          line = ap (slice_index (child_lines q ++ lines_in qs)) (sym e) ∙ back_line q qs (k - length q.children) ∙ r.line;
        }

-- where a child of a parent stands
pub record ChildAt (qs : List Parent) (q : Parent) (i : ℕ) : Type 0 where
  pub place : ℕ
  pub within : place < length (children_in qs)
  pub is : slice_index (children_in qs) place ≡ i
  pub line : slice_index (lines_in qs) place ≡ q.line

pub child_at : (qs : List Parent) (q : Parent) (i k : ℕ) → slice_get qs k ≡ Some q → Contains q.children i → ChildAt qs q i
child_at [] q i k e h = absurd (cc)
child_at (r ∷ qs) q i zero e h =
    let same : r ≡ q = same_Some r q e in
    let P : Parent → Type 0 = λ y. Contains y.children i in
    let g : Contains r.children i = subst P (sym same) h in
    let v : g.0 < length r.children = g.1 in
    let long : length (r.children ++ children_in qs) ≡ length r.children + length (children_in qs) = length-append r.children (children_in qs) in
    record {
      place = g.0;
      within = omega (arith, v, long);
      is = front_child r qs g.0 g.1 ∙ stands_at r.children i g;
      line = front_line r qs g.0 g.1 ∙ ap (λ (y : Parent). y.line) same;
    }
child_at (r ∷ qs) q i (suc k) e h =
    let c = child_at qs q i k e h in
    let v : c.place < length (children_in qs) = c.within in
    let long : length (r.children ++ children_in qs) ≡ length r.children + length (children_in qs) = length-append r.children (children_in qs) in
    record {
      place = length r.children + c.place;
      within = omega (arith, v, long);
      is = back_child r qs c.place ∙ c.is;
      line = back_line r qs c.place ∙ c.line;
    }

pub child_of : (qs : List Parent) (q : Parent) (i : ℕ) → Contains qs q → Contains q.children i → ChildAt qs q i
child_of qs q i h g = child_at qs q i h.0 (slice_get-get_or qs h.0 q h.1 ∙ ap Some h.2) g

-- two children of one parent with the same id
pub twice_at : (qs : List Parent) (q : Parent) (k a b : ℕ) → slice_get qs k ≡ Some q → a < b → b < length q.children → slice_index q.children a ≡ slice_index q.children b
    → IsRepeat (children_in qs) (lines_in qs) (length (children_in qs)) q.line
twice_at [] q k a b e o w s = absurd (cc)
twice_at (r ∷ qs) q zero a b e o w s =
    let same : q ≡ r = sym (same_Some r q e) in
    let len : length q.children ≡ length r.children = ap (λ (y : Parent). length y.children) same in
    let v : b < length r.children = omega (arith, w, len) in
    let u : a < length r.children = omega (arith, v, o) in
    let long : length (r.children ++ children_in qs) ≡ length r.children + length (children_in qs) = length-append r.children (children_in qs) in
    let la : slice_index (child_lines r ++ lines_in qs) a ≡ r.line = front_line r qs a u in
    let lb : slice_index (child_lines r ++ lines_in qs) b ≡ r.line = front_line r qs b v in
    let l : q.line ≡ r.line = ap (λ (y : Parent). y.line) same in
    record {
      one = a;
      other = b;
      before = o;
      within = omega (arith, v, long);
      same = front_child r qs a u ∙ ap (λ (y : Parent). slice_index y.children a) (sym same) ∙ s ∙ ap (λ (y : Parent). slice_index y.children b) same ∙ sym (front_child r qs b v);
      later = omega (arith, la, lb, l);
    }
twice_at (r ∷ qs) q (suc k) a b e o w s =
    let c = twice_at qs q k a b e o w s in
    let x : c.one < c.other = c.before in
    let v : c.other < length (children_in qs) = c.within in
    let long : length (r.children ++ children_in qs) ≡ length r.children + length (children_in qs) = length-append r.children (children_in qs) in
    let la : slice_index (child_lines r ++ lines_in qs) (length r.children + c.one) ≡ slice_index (lines_in qs) c.one = back_line r qs c.one in
    let lb : slice_index (child_lines r ++ lines_in qs) (length r.children + c.other) ≡ slice_index (lines_in qs) c.other = back_line r qs c.other in
    record {
      one = length r.children + c.one;
      other = length r.children + c.other;
      before = omega (arith, x);
      within = omega (arith, v, long);
      same = back_child r qs c.one ∙ c.same ∙ sym (back_child r qs c.other);
      later = omega (arith, la, lb, c.later);
    }

-- two places with one id are those of two parents, or of one that names it twice
pub data Pair (qs : List Parent) (j k : ℕ) : Type 0 where
  of_two : (q r : Parent) → Contains qs q → Contains qs r → Contains q.children (slice_index (children_in qs) j) → Contains r.children (slice_index (children_in qs) j)
      → slice_index (lines_in qs) j ≡ q.line → slice_index (lines_in qs) k ≡ r.line → q.line ≢ r.line → Pair qs j k
  of_one_twice : (q : Parent) → Contains qs q → (Once q.children → ⊥) → slice_index (lines_in qs) j ≡ q.line → slice_index (lines_in qs) k ≡ q.line → Pair qs j k

abbrev pub numbers_of : List Parent → List ℕ
numbers_of qs = map (λ q. q.line) qs

first_apart : (q r : Parent) (qs : List Parent) → Once (numbers_of (q ∷ qs)) → Contains qs r → q.line ≢ r.line
first_apart q r qs once h e =
    let l : length (numbers_of qs) ≡ length qs = length-map qs (λ (y : Parent). y.line) in
    let v : h.0 < length qs = h.1 in
    once 0 (suc h.0) 0 (omega arith) (omega (arith, v, l)) (e ∙ sym (get_or-map (λ (y : Parent). y.line) qs h.0 r 0 h.1 ∙ ap (λ (y : Parent). y.line) h.2))

pub pair_at : (qs : List Parent) → Once (numbers_of qs) → (j k : ℕ) → j < k → k < length (children_in qs) → slice_index (children_in qs) j ≡ slice_index (children_in qs) k → Pair qs j k
pair_at [] once j k o w e = absurd (no_place k w) where
  no_place : (k : ℕ) → k < 0 → ⊥
  no_place k w = omega arith
pair_at (q ∷ qs) once j k o w e = by (either_side j (length q.children)) (either_side k (length q.children)) (λ a b x y z. pair_at qs (once_tail q.line (numbers_of qs) once) a b x y z)
  where
    long : length (q.children ++ children_in qs) ≡ length q.children + length (children_in qs)
    long = length-append q.children (children_in qs)

    by : (j < length q.children) ⊎ (length q.children ≤ j) → (k < length q.children) ⊎ (length q.children ≤ k)
        → ((a b : ℕ) → a < b → b < length (children_in qs) → slice_index (children_in qs) a ≡ slice_index (children_in qs) b → Pair qs a b) → Pair (q ∷ qs) j k
    by (inl x) (inl y) rest =
        of_one_twice q (0, omega arith, refl) (λ single. once_at q.children single j k o y (sym (front_child q qs j x) ∙ e ∙ front_child q qs k y)) (front_line q qs j x) (front_line q qs k y)
    by (inl x) (inr ge) rest =
        let b : length q.children + (k - length q.children) ≡ k = behind (length q.children) k ge in
        let r = parent_at qs (k - length q.children) (omega (arith, w, ge, long)) in
        let P : ℕ → Type 0 = Contains r.parent.children in
        let at : slice_index (children_in qs) (k - length q.children) ≡ slice_index (q.children ++ children_in qs) j =
        sym (back_child q qs (k - length q.children)) ∙ ap (slice_index (q.children ++ children_in qs)) b ∙ sym e in
        of_two q r.parent (0, omega arith, refl) (Contains-append_right (q ∷ []) qs r.parent r.among)
        (contained_at q.children j (slice_index (q.children ++ children_in qs) j) x (sym (front_child q qs j x))) (subst P at r.named)
        (front_line q qs j x) (ap (slice_index (child_lines q ++ lines_in qs)) (sym b) ∙ back_line q qs (k - length q.children) ∙ r.line) (first_apart q r.parent qs once r.among)
    by (inr x) (inl y) rest = absurd (omega (arith, x, y, o))
    by (inr x) (inr y) rest =
        let a : length q.children + (j - length q.children) ≡ j = behind (length q.children) j x in
        let b : length q.children + (k - length q.children) ≡ k = behind (length q.children) k y in
        let ca : slice_index (q.children ++ children_in qs) j ≡ slice_index (children_in qs) (j - length q.children) = ap (slice_index (q.children ++ children_in qs)) (sym a) ∙ back_child q qs (j - length q.children) in
        let cb : slice_index (q.children ++ children_in qs) k ≡ slice_index (children_in qs) (k - length q.children) = ap (slice_index (q.children ++ children_in qs)) (sym b) ∙ back_child q qs (k - length q.children) in
        let la : slice_index (child_lines q ++ lines_in qs) j ≡ slice_index (lines_in qs) (j - length q.children) = ap (slice_index (child_lines q ++ lines_in qs)) (sym a) ∙ back_line q qs (j - length q.children) in
        let lb : slice_index (child_lines q ++ lines_in qs) k ≡ slice_index (lines_in qs) (k - length q.children) = ap (slice_index (child_lines q ++ lines_in qs)) (sym b) ∙ back_line q qs (k - length q.children) in
        shifted ca la lb (rest (j - length q.children) (k - length q.children) (omega (arith, x, y, o)) (omega (arith, w, y, long)) (sym ca ∙ e ∙ cb))
      where
        shifted : slice_index (q.children ++ children_in qs) j ≡ slice_index (children_in qs) (j - length q.children)
            → slice_index (child_lines q ++ lines_in qs) j ≡ slice_index (lines_in qs) (j - length q.children)
            → slice_index (child_lines q ++ lines_in qs) k ≡ slice_index (lines_in qs) (k - length q.children)
            → Pair qs (j - length q.children) (k - length q.children) → Pair (q ∷ qs) j k
        shifted ca la lb (of_two s r cs cr ns nr ls lr apart) =
            let P : Parent → ℕ → Type 0 = λ y. Contains y.children in
            of_two s r (Contains-append_right (q ∷ []) qs s cs) (Contains-append_right (q ∷ []) qs r cr) (subst (P s) (sym ca) ns) (subst (P r) (sym ca) nr) (la ∙ ls) (lb ∙ lr) apart
        shifted ca la lb (of_one_twice s cs ns ls lr) = of_one_twice s (Contains-append_right (q ∷ []) qs s cs) ns (la ∙ ls) (lb ∙ lr)

-- the line numbers of parents
skip_middle : (x : ℕ) (xs ys : List ℕ) → Once (x ∷ (xs ++ ys)) → Once (x ∷ ys)
skip_middle x [] ys h = h
skip_middle x (y ∷ xs) ys h = skip_middle x xs ys (λ a b d o w e. by a b d o w e (either a 0))
  where
    by : (a b d : ℕ) → a < b → b < length (x ∷ (xs ++ ys)) → get_or (x ∷ (xs ++ ys)) a d ≡ get_or (x ∷ (xs ++ ys)) b d → (a ≡ 0) ⊎ (a ≢ 0) → ⊥
    by zero zero d o w e s = absurd (omega (arith, o))
    by zero (suc b) d o w e s = h 0 (suc (suc b)) d (omega arith) (omega (arith, w)) e
    by (suc a) zero d o w e s = absurd (omega (arith, o))
    by (suc a) (suc b) d o w e s = h (suc (suc a)) (suc (suc b)) d (omega (arith, o)) (omega (arith, w)) e

line_numbers_are : (ds : List Decomposition) → numbers_of (map line_parent ds) ≡ map (λ d. d.line) ds
line_numbers_are [] = refl
line_numbers_are (d ∷ ds) = ap (λ xs. d.line ∷ xs) (line_numbers_are ds)

parent_numbers : (p : Plan) → IsInTextOrder p → Once (numbers_of (parents p))
parent_numbers p order = λ a b d o w e. apart a b d o w e
  where
    split : line_numbers p ≡ p.root.line ∷ (map (λ (a : Action). a.line) p.actions ++ map (λ (d : Decomposition). d.line) p.decompositions)
    split = ap (λ xs. p.root.line ∷ xs) (lines_are p)

    are : numbers_of (parents p) ≡ p.root.line ∷ map (λ (d : Decomposition). d.line) p.decompositions
    are = ap (λ xs. p.root.line ∷ xs) (line_numbers_are p.decompositions)

    apart : Once (numbers_of (parents p))
    apart = subst Once (sym are) (skip_middle p.root.line (map (λ (a : Action). a.line) p.actions) (map (λ (d : Decomposition). d.line) p.decompositions) (subst Once split order.once))

module _ (p : Plan) (order : IsInTextOrder p) (w : World) where
  of_pair : (l : ℕ) → IsRepeat (all_children p) (lines_of_children p) (length (all_children p)) l → Qualifies w p kinds.TwoParents l
  of_pair l r = by (pair_at (parents p) (parent_numbers p order) r.one r.other r.before r.within r.same)
    where
      by : Pair (parents p) r.one r.other → Qualifies w p kinds.TwoParents l
      by (of_one_twice q c n lj lk) =
          let e : q.line ≡ l = omega (arith, lj, lk, r.later) in
          subst (Qualifies w p kinds.TwoParents) e (child_twice q c n)
      by (of_two q s cq cs nq ns lj lk apart) = sides (either_side q.line s.line)
        where
          sides : (q.line < s.line) ⊎ (s.line ≤ q.line) → Qualifies w p kinds.TwoParents l
          sides (inl lt) =
              let e : s.line ≡ l = omega (arith, lj, lk, lt, r.later) in
              subst (Qualifies w p kinds.TwoParents) e (child_before q s (slice_index (all_children p) r.one) cq cs lt nq ns)
          sides (inr ge) =
              let e : q.line ≡ l = omega (arith, lj, lk, ge, r.later) in
              subst (Qualifies w p kinds.TwoParents) e (child_before s q (slice_index (all_children p) r.one) cs cq (omega (arith, ge, apart)) ns nq)

  to_pair : {l : ℕ} → Qualifies w p kinds.TwoParents l → (IsRepeat (all_children p) (lines_of_children p) (length (all_children p)) l → ⊥) → ⊥
  to_pair (child_before q r i cq cr lt nq nr) none = by (either_side a.place b.place)
    where
      a : ChildAt (parents p) q i
      a = child_of (parents p) q i cq nq

      b : ChildAt (parents p) r i
      b = child_of (parents p) r i cr nr

      apart : a.place ≢ b.place
      apart e = let s : slice_index (lines_of_children p) a.place ≡ slice_index (lines_of_children p) b.place = ap (slice_index (lines_of_children p)) e in omega (arith, a.line, b.line, lt, s)

      by : (a.place < b.place) ⊎ (b.place ≤ a.place) → ⊥
      by (inl o) = none (record { one = a.place; other = b.place; before = o; within = b.within; same = a.is ∙ sym b.is; later = omega (arith, a.line, b.line, lt) })
      by (inr o) = none (record { one = b.place; other = a.place; before = omega (arith, o, apart); within = a.within; same = b.is ∙ sym a.is; later = omega (arith, a.line, b.line, lt) })
  to_pair (child_twice q c n) none =
      n (once_from q.children (λ a b o v e. none (twice_at (parents p) q c.0 a b (slice_get-get_or (parents p) c.0 q c.1 ∙ ap Some c.2) o v e)))

  of_unknown : (l : ℕ) → IsMissed (is_known (ids p) (all_children p)) (lines_of_children p) (length (all_children p)) l → Qualifies w p kinds.UnknownChild l
  of_unknown l m =
      let r = parent_at (parents p) m.place m.within in
      subst (Qualifies w p kinds.UnknownChild) (sym r.line ∙ m.at) (unknown_child r.parent (slice_index (all_children p) m.place) r.among r.named (unknown_is (ids p) (all_children p) m.place m.fails))

  to_unknown : {l : ℕ} → Qualifies w p kinds.UnknownChild l → IsMissed (is_known (ids p) (all_children p)) (lines_of_children p) (length (all_children p)) l
  to_unknown (unknown_child q i cq ci n) =
      let a = child_of (parents p) q i cq ci in
      let P : ℕ → Type 0 = Contains (ids p) in
      record { place = a.place; within = a.within; fails = is_unknown (ids p) (all_children p) a.place (λ h. n (subst P a.is h)); at = a.line }

pub pairs_are : (p : Plan) → IsInTextOrder p → (o : Option ℕ) → IsFirst (IsRepeat (all_children p) (lines_of_children p) (length (all_children p))) o → IsFirstFor p kinds.TwoParents o
pairs_are p order o first w =
    almost_first (IsRepeat (all_children p) (lines_of_children p) (length (all_children p))) (Qualifies w p kinds.TwoParents) o first (of_pair p order w) (λ l q n. to_pair p order w q n)

pub unknowns_are : (p : Plan) → IsInTextOrder p → (o : Option ℕ) → IsFirst (IsMissed (is_known (ids p) (all_children p)) (lines_of_children p) (length (all_children p))) o
    → IsFirstFor p kinds.UnknownChild o
unknowns_are p order o first w =
    same_first (IsMissed (is_known (ids p) (all_children p)) (lines_of_children p) (length (all_children p))) (Qualifies w p kinds.UnknownChild) o first (of_unknown p order w)
    (λ l q. to_unknown p order w q)

pub all_known : (p : Plan) → IsFirst (IsMissed (is_known (ids p) (all_children p)) (lines_of_children p) (length (all_children p))) None → (i : ℕ) → Contains (all_children p) i → Contains (ids p) i
all_known p none i h = by (is_known (ids p) (all_children p) h.0) refl
  where
    by : (b : Bool) → is_known (ids p) (all_children p) h.0 ≡ b → Contains (ids p) i
    by true e = let P : ℕ → Type 0 = Contains (ids p) in subst P (stands_at (all_children p) i h) (known_is (ids p) (all_children p) h.0 e)
    by false e = absurd (none (slice_index (lines_of_children p) h.0) (record { place = h.0; within = h.1; fails = e; at = refl }))

-- lines that were not met
pub all_marked : (marks : List Bool) (lines : List ℕ) → IsFirst (IsMissed (is_marked marks) lines (length marks)) None → (k : ℕ) → k < length marks → is_marked marks k ≡ true
all_marked marks lines none k v = by (is_marked marks k) refl
  where
    by : (b : Bool) → is_marked marks k ≡ b → is_marked marks k ≡ true
    by true e = e
    by false e = absurd (none (slice_index lines k) (record { place = k; within = v; fails = e; at = refl }))

module _ (p : Plan) (root : List ℕ) (lists : List (List ℕ)) (met : List ℕ) (marks : List Bool)
    (root_is : root ≡ map (place_of (ids p)) p.root.ids) (lists_are : lists ≡ places_of_lines (ids p) p) (once : Once (ids p))
    (known : (i : ℕ) → Contains (all_children p) i → Contains (ids p) i) (walk : IsWalk root (kids lists (length p.actions)) met marks)
    (count : length marks ≡ length (ids p)) (w : World) where
  of_unmet : (l : ℕ) → IsMissed (is_marked marks) (lines_of_heads p) (length marks) l → Qualifies w p kinds.Unreached l
  of_unmet l m =
      let v : m.place < length (ids p) = omega (arith, m.within, count) in
      let a = head_at p m.place v in
      subst (Qualifies w p kinds.Unreached) (a.line ∙ m.at) (unreached a.head a.among (λ r. refuse a v (reached_met p root lists met marks root_is lists_are once known walk r)))
    where
      refuse : (a : HeadAt p m.place) → m.place < length (ids p) → Contains met (place_of (ids p) a.head.id) → ⊥
      refuse a v h =
          let here : place_of (ids p) a.head.id ≡ m.place = place_is (ids p) m.place a.head.id once v (sym a.id) in
          true≢false (sym (walk.meeting.marks_met h.0 h.1) ∙ ap (is_marked marks) (stands_at met (place_of (ids p) a.head.id) h ∙ here) ∙ m.fails)

  to_unmet : {l : ℕ} → Qualifies w p kinds.Unreached l → IsMissed (is_marked marks) (lines_of_heads p) (length marks) l
  to_unmet (unreached a ca n) = record { place = ca.0; within = omega (arith, head_within p a ca, count); fails = by (is_marked marks ca.0) refl; at = head_line p a ca }
    where
      by : (b : Bool) → is_marked marks ca.0 ≡ b → is_marked marks ca.0 ≡ false
      by false e = e
      by true e =
          let h = walk.meeting.marked ca.0 e in
          let id : slice_index (ids p) (slice_index met h.0) ≡ a.id = ap (slice_index (ids p)) (stands_at met ca.0 h) ∙ head_id p a ca in
          absurd (n (subst (IsReached p) id (met_reached p root lists met marks root_is lists_are once known walk (h.0 + 1) h.0 (omega arith) h.1)))

  pub unmet_are : (o : Option ℕ) → IsFirst (IsMissed (is_marked marks) (lines_of_heads p) (length marks)) o → IsFirst (Qualifies w p kinds.Unreached) o
  unmet_are o first = same_first (IsMissed (is_marked marks) (lines_of_heads p) (length marks)) (Qualifies w p kinds.Unreached) o first of_unmet (λ l q. to_unmet q)
