-- The steps of the check: one child, one subtask, one node more.
use Rattle.std.proofs.Common.{◌≡◌, ℕ, ◌+◌, ◌<◌, ◌≤◌, ◌⊎◌, inl, inr, Bool, true, false, List, [], ◌∷◌, ◌++◌, Some, length, map, take, get_or, refl, sym, ap, ◌∙◌, subst, arith, Contains, length-append, below_more}
use Rattle.std.specs.Prelude.{slice_index, max}
use Rattle.std.proofs.lemmas.Option.{slice_get_past}
use Rattle.std.proofs.lemmas.List.{get_or_past}
use Rattle.hv_lists.proofs.Places.{push_front, push_last, take_one, map_end}
use Rattle.hv_lists.proofs.Contained.{contains_cases, none_in_empty, at_head}
use Rattle.hv_world.specs.Orders.{Written}
use Rattle.hv_world.specs.Worlds.{World, Method}
use Rattle.hv_plan.specs.Trees.{Item, Act, Task, Pre, IsTree}
use Rattle.hv_plan.specs.PlanTrees.{PlanTree, children_at, children_of, tree_of}
use Rattle.hv_match.specs.Candidates.{Tells, method_at}
use Rattle.hv_order.specs.Certificates.{AreFinishes}
use Rattle.hv_order.specs.inside.Checks.{finish_in, IsLatest, KeepsDirect, StartBehind, KeepsNode}
use Rattle.hv_order.proofs.Checked.{tells_no, told_no}
use Rattle.hv_order.proofs.Members.{mem_cases, mem_left, mem_right}

-- one member more of which something is true
pub one_more_is : {X : Type 0} (P : X → Type 0) (xs : List X) (x : X) → ((y : X) → Contains xs y → P y) → P x → (y : X) → Contains (xs ++ x ∷ []) y → P y
one_more_is P xs x all here y m = by (mem_cases y xs (x ∷ []) m)
  where
    last : (y ≡ x) ⊎ Contains [] y → P y
    last (inl e) = subst P (sym e) here
    last (inr none) = absurd (none_in_empty y none)

    by : Contains xs y ⊎ Contains (x ∷ []) y → P y
    by (inl k) = all y k
    by (inr k) = last (contains_cases x [] y k)

pub taken_more : {X Y : Type 0} (f : X → Y) (P : Y → Type 0) (xs : List X) (i : ℕ) (d : X) → i < length xs
    → ((y : Y) → Contains (map f (take i xs)) y → P y) → P (f (get_or xs i d)) → (y : Y) → Contains (map f (take (i + 1) xs)) y → P y
taken_more f P xs i d lt all here =
    rw (take_one xs i d lt, map_end f (take i xs) (get_or xs i d)) (one_more_is P (map f (take i xs)) (f (get_or xs i d)) all here)

-- the latest with one child more
pub latest_more : {X : Type 0} (f : X → Item) (at : ℕ) (xs : List X) (i : ℕ) (d : X) (finish : Item → ℕ) (g h : ℕ) → i < length xs
    → IsLatest at (map f (take i xs)) finish g → h ≡ max g (finish (f (get_or xs i d))) → IsLatest at (map f (take (i + 1) xs)) finish h
latest_more f at xs i d finish g h lt is e =
    rw (take_one xs i d lt, map_end f (take i xs) (get_or xs i d)) (record {
      own = let a = is.own in omega (arith, a, e);
      child = one_more_is (λ x. finish x ≤ h) (map f (take i xs)) (f (get_or xs i d)) (λ x m. let a = is.child x m in omega (arith, a, e)) (omega (arith, e));
      least = λ k low all.
          let a = is.least k low (λ x m. all x (mem_left x (map f (take i xs)) (f (get_or xs i d) ∷ []) m)) in
          let b = all (f (get_or xs i d)) (mem_right (f (get_or xs i d)) (map f (take i xs)) (f (get_or xs i d) ∷ []) (at_head (f (get_or xs i d)) [] (f (get_or xs i d)) refl)) in
          omega (arith, a, b, e);
    })

latest_alike : (at : ℕ) (xs : List Item) (finish finish' : Item → ℕ) (f : ℕ) → ((x : Item) → Contains xs x → finish' x ≡ finish x) → IsLatest at xs finish f → IsLatest at xs finish' f
latest_alike at xs finish finish' f same is = record {
  own = is.own;
  child = λ x m. let a = is.child x m in let e = same x m in omega (arith, a, e);
  least = λ g low all. is.least g low (λ x m. let a = all x m in let e = same x m in omega (arith, a, e));
}

-- the finishes of the first nodes
abbrev pub AreFirst : PlanTree → List ℕ → List ℕ → ℕ → Type 0
AreFirst t ks fs k = (length fs ≡ k) × ((v : ℕ) → v < k → IsLatest (slice_index ks v) (children_at t.nodes v) (finish_in fs) (slice_index fs v))

pub finish_more : (t : PlanTree) (ks fs : List ℕ) (k f : ℕ) → IsTree (tree_of t) → AreFirst t ks fs k
    → IsLatest (slice_index ks k) (children_at t.nodes k) (finish_in fs) f → AreFirst t ks (fs ++ f ∷ []) (k + 1)
finish_more t ks fs k f tree first is =
    (length-append fs (f ∷ []) ∙ ap (λ n. n + 1) first.0, below_more (λ v. IsLatest (slice_index ks v) (children_at t.nodes v) (finish_in (fs ++ f ∷ [])) (slice_index (fs ++ f ∷ []) v)) k earlier here)
  where
    alike : (v : ℕ) → v ≤ k → (x : Item) → Contains (children_at t.nodes v) x → finish_in (fs ++ f ∷ []) x ≡ finish_in fs x
    alike v le (Act a) m = refl
    alike v le (Task u) m = let lt = tree.lower v u m in push_front fs f u (omega (arith, lt, le, first.0))
    alike v le (Pre u) m = refl

    earlier : (v : ℕ) → v < k → IsLatest (slice_index ks v) (children_at t.nodes v) (finish_in (fs ++ f ∷ [])) (slice_index (fs ++ f ∷ []) v)
    earlier v lt =
        let P : ℕ → Type 0 = λ g. IsLatest (slice_index ks v) (children_at t.nodes v) (finish_in (fs ++ f ∷ [])) g in
        subst P (sym (push_front fs f v (omega (arith, lt, first.0))))
        (latest_alike (slice_index ks v) (children_at t.nodes v) (finish_in fs) (finish_in (fs ++ f ∷ [])) (slice_index fs v) (alike v (omega (arith, lt))) (first.1 v lt))

    here : IsLatest (slice_index ks k) (children_at t.nodes k) (finish_in (fs ++ f ∷ [])) (slice_index (fs ++ f ∷ []) k)
    here =
        let P : ℕ → Type 0 = λ g. IsLatest (slice_index ks k) (children_at t.nodes k) (finish_in (fs ++ f ∷ [])) g in
        let last : slice_index (fs ++ f ∷ []) k ≡ f = ap (slice_index (fs ++ f ∷ [])) (sym first.0) ∙ push_last fs f in
        subst P (sym last) (latest_alike (slice_index ks k) (children_at t.nodes k) (finish_in fs) (finish_in (fs ++ f ∷ [])) f (alike k (omega arith)) is)

pub finishes_are : (t : PlanTree) (ks fs : List ℕ) (k : ℕ) → length ks ≡ length t.nodes → length t.nodes ≤ k → AreFirst t ks fs k → AreFinishes (tree_of t) (slice_index ks) (finish_in fs)
finishes_are t ks fs k as_many all first = record {
  act = λ a. refl;
  own = λ v. (latest v).own;
  child = λ v. (latest v).child;
  least = λ v. (latest v).least;
}
  where
    compare : (v : ℕ) → (v < k) ⊎ (k ≤ v)
    compare v = grind arith

    none : (v : ℕ) → length t.nodes ≤ v → children_at t.nodes v ≡ []
    none v past = ap children_of (slice_get_past t.nodes v past)

    latest : (v : ℕ) → IsLatest (slice_index ks v) (children_at t.nodes v) (finish_in fs) (slice_index fs v)
    latest v = by (compare v)
      where
        by : (v < k) ⊎ (k ≤ v) → IsLatest (slice_index ks v) (children_at t.nodes v) (finish_in fs) (slice_index fs v)
        by (inl lt) = first.1 v lt
        by (inr past) =
            let no_index : slice_index ks v ≡ 0 = get_or_past ks v 0 (omega (arith, past, all, as_many)) in
            let no_finish : slice_index fs v ≡ 0 = get_or_past fs v 0 (omega (arith, past, first.0)) in
            rw (none v (omega (arith, past, all)), no_index, no_finish)
            (record { own = omega arith; child = λ x m. absurd (none_in_empty x m); least = λ g low h. low })

-- what is found of a node's children
module _ (w : World) (t : PlanTree) (ks fs : List ℕ) (v : ℕ) (M : List ℕ) (xs : List Item) (children : children_at t.nodes v ≡ xs) where
  pub not_behind : (at : ℕ) (b : Bool) → at ≡ slice_index ks v → Tells (StartBehind ks xs at) b → b ≡ false → Tells (KeepsNode w t ks fs v M) b
  not_behind at b index tells off =
      rw off (tells_no (KeepsNode w t ks fs v M)
      (λ h. told_no (StartBehind ks xs at) b tells off
      (let P : List Item → Type 0 = λ ys. StartBehind ks ys (slice_index ks v) in let Q : ℕ → Type 0 = λ k. StartBehind ks xs k in subst Q (sym index) (subst P children h.behind))))

  pub by_order : (at : ℕ) (a b : Bool) (N : List ℕ) (n : Written) (m : Method) → at ≡ slice_index ks v → Tells (StartBehind ks xs at) a → a ≡ true → N ≡ M
      → method_at w t v ≡ Some m → n ≡ m.network.order → Tells (KeepsDirect ks fs xs N n) b → Tells (KeepsNode w t ks fs v M) b
  by_order at a b N n m index behind starts places method order tells = (
    (λ on. record {
      behind =
          let P : List Item → Type 0 = λ ys. StartBehind ks ys (slice_index ks v) in
          let Q : ℕ → Type 0 = λ k. StartBehind ks xs k in
          subst P (sym children) (subst Q index (behind.0 starts));
      order = λ k g.
          let both : Some m ≡ Some k = sym method ∙ g in
          let same : m ≡ k = cc in
          let P : List Item → Type 0 = λ ys. KeepsDirect ks fs ys M k.network.order in
          let Q : List ℕ → Type 0 = λ zs. KeepsDirect ks fs xs zs k.network.order in
          let R : Written → Type 0 = λ o. KeepsDirect ks fs xs N o in
          let S : Method → Type 0 = λ k. KeepsDirect ks fs xs N k.network.order in
          subst P (sym children) (subst Q places (subst S same (subst R order (tells.0 on))));
    }),
    (λ h.
        let P : List Item → Type 0 = λ ys. KeepsDirect ks fs ys M m.network.order in
        let Q : List ℕ → Type 0 = λ zs. KeepsDirect ks fs xs zs m.network.order in
        let R : Written → Type 0 = λ o. KeepsDirect ks fs xs N o in
        tells.1 (subst R (sym order) (subst Q (sym places) (subst P children (h.order m method))))),
  )
