-- Where no precondition counts for a node, it is over at the same states when each is taken as true.
use Rattle.std.proofs.Common.{◌≡◌, ℕ, zero, suc, ◌+◌, ◌<◌, ◌≤◌, ◌⊎◌, inl, inr, Bool, true, false, List, [], ◌∷◌, ◌++◌, length, map, take, get_or, refl, sym, ap, ◌∙◌, subst, arith, Contains, Option, None, Some}
use Rattle.std.proofs.lemmas.List.Elements.{Contains-push_cases}
use Rattle.hv_lists.proofs.Contained.{none_in_empty}
use Rattle.hv_lists.proofs.Places.{take_one, map_end}
use Rattle.hv_world.specs.Values.{Formula, and, no_formulas}
use Rattle.hv_world.specs.Worlds.{World, Method}
use Rattle.hv_state.specs.Plans.{StateAt}
use Rattle.hv_state.specs.Truth.{True}
use Rattle.hv_plan.specs.Trees.{Item, Task}
use Rattle.hv_plan.specs.PlanTrees.{PlanTree, children_at}
use Rattle.hv_plan.specs.TreeViews.{child_view}
use Rattle.hv_plan.specs.declared.tree.Child.{Child}
use Rattle.hv_plan.specs.declared.tree.Child.TheVariants as children
use Rattle.hv_order.specs.Settings.{Setting, without_preconditions, last, HoldsAt}
use Rattle.hv_order.specs.inside.Arrangements.{Arrangement}
use Rattle.hv_order.specs.inside.Children.{child_at, ChildFits, IsNodeBelow}
use Rattle.hv_order.specs.inside.Facts.{IsNodeRun}
use Rattle.hv_order.specs.Tables.{IsLeastAt, IsLeast}
use Rattle.hv_order.specs.inside.Marks.{IsMarked}
use Rattle.hv_order.specs.inside.Memos.{AreKnown, KeepsOnly, KnowsFinish}
use Rattle.hv_order.specs.inside.Nodes.{AreNodes}
use Rattle.hv_order.specs.inside.Plain.{AllPlain, IsPlain, ArePlain}
use Rattle.hv_order.specs.inside.PlanFacts.{IsSetting, FitsNode, OfMethod, ComesBefore, HoldsFor, Arranges, plan_facts}
use Rattle.hv_order.specs.inside.Writings.{HasOne}
use Rattle.hv_order.specs.declared.memo.Memo.{Memo}
use Rattle.hv_order.specs.declared.trial.Run.{Run}
use Rattle.hv_order.proofs.Leasts.{least_iff}
use Rattle.hv_order.proofs.NodeFits.{placed_as, as_many, item_is, plan_nodes}
use Rattle.hv_order.proofs.MarkLemmas.{marked_front, marked_cases}
use Rattle.hv_order.proofs.NodeParts.{of_method, from_method, matching, is_candidate_at}

-- the same plan is a setting too, and its nodes have the same candidates
pub setting_without : (q : Setting) → IsSetting q → IsSetting (without_preconditions q)
setting_without q is =
    record { tree = is.tree; actions = is.actions; sound = is.sound; top = is.top; small = is.small }

arranged_without : (q : Setting) (v : ℕ) (c : Arrangement) → Arranges q v c → Arranges (without_preconditions q) v c
arranged_without q v c h = record {
  of_node = h.of_node;
  node = h.node;
  has_node = h.has_node;
  method = h.method;
  has_method = h.has_method;
  matching = h.matching;
  candidate = h.candidate;
  children = h.children;
  order = h.order;
  as_many = h.as_many;
  direct = h.direct;
}

arranged_with : (q : Setting) (v : ℕ) (c : Arrangement) → Arranges (without_preconditions q) v c → Arranges q v c
arranged_with q v c h = record {
  of_node = h.of_node;
  node = h.node;
  has_node = h.has_node;
  method = h.method;
  has_method = h.has_method;
  matching = h.matching;
  candidate = h.candidate;
  children = h.children;
  order = h.order;
  as_many = h.as_many;
  direct = h.direct;
}

-- a child fits as in another plan, where the nodes do
child_as : (q q' : Setting) (x : Child) (a b : ℕ) → ((u : ℕ) → x ≡ children.Node u → FitsNode q u a b → FitsNode q' u a b)
    → ChildFits (FitsNode q) x a b → ChildFits (FitsNode q') x a b
child_as q q' (children.Action k) a b go fits = fits
child_as q q' (children.Node u) a b go fits = go u refl fits

-- Two plans have the same candidates, and of some nodes each candidate's precondition is true in the second where it
-- is in the first, and so of the nodes below
module _ (q q' : Setting) (nodes : AreNodes (plan_facts q)) (nodes' : AreNodes (plan_facts q')) (Plain : ℕ → Type 0)
    (same : (v : ℕ) (c : Arrangement) → Arranges q v c → Arranges q' v c)
    (before : (c : Arrangement) (i j : ℕ) → ComesBefore q' c i j → ComesBefore q c i j)
    (holds : (v : ℕ) (c : Arrangement) (k : ℕ) → Plain v → Arranges q v c → HoldsFor q c k → HoldsFor q' c k)
    (below : (v : ℕ) (c : Arrangement) (j u : ℕ) → Plain v → Arranges q v c → j < length c.children → child_at c.children j ≡ children.Node u → (u < v) × Plain u) where
  fits_too : (n v s f : ℕ) → v < n → Plain v → FitsNode q v s f → FitsNode q' v s f
  fits_too zero v s f lt plain fits = absurd (omega (arith, lt))
  fits_too (suc n) v s f lt plain fits =
      let one = (nodes.by_one v s f).0 fits in
      let c = one.candidate in
      let with_it = one.fits in
      (nodes'.by_one v s f).1
      (record {
        candidate = c;
        is_candidate = same v c one.is_candidate;
        fits = record {
          at = with_it.at;
          late = with_it.late;
          early = with_it.early;
          holds = holds v c with_it.at plain one.is_candidate with_it.holds;
          together = placed_as (λ j. j < length c.children) (λ j. j < length c.children) (ComesBefore q c) (ComesBefore q' c)
              (λ j. ChildFits (FitsNode q) (child_at c.children j)) (λ j. ChildFits (FitsNode q') (child_at c.children j)) with_it.at f
              (λ j h. h) (λ i j b. before c i j b)
              (λ j a b h w. child_as q q' (child_at c.children j) a b
              (λ u e. let lower = below v c j u plain one.is_candidate h e in fits_too n u a b (let less = lower.0 in omega (arith, less, lt)) lower.1) w)
              with_it.together;
        };
      })

-- the nodes of a plan for which no precondition counts
module _ (q : Setting) (is : IsSetting q) (plain : List Bool) (are : ArePlain q.plan.world q.tree plain) where
  abbrev without : Setting
  without = without_preconditions q

  without_is : IsSetting without
  without_is = setting_without q is

  child_plain : (v : ℕ) (c : Arrangement) (j u : ℕ) → IsMarked plain v → Arranges q v c → j < length c.children → child_at c.children j ≡ children.Node u → (u < v) × IsMarked plain u
  child_plain v c j u says r lt e =
      let lower = ((plan_nodes q is).arranged v c r).1 j (children.Action 0) lt in
      let P : Child → Type 0 = λ x. IsNodeBelow v x in
      let count = as_many q is v r.node r.has_node r.method r.has_method r.matching c r.of_node r.candidate r.children in
      let within : j < length r.matching = subst (λ n. j < n) count lt in
      let child = item_is q is v r.node r.has_node r.method r.has_method r.matching c r.of_node r.candidate r.children j within in
      let Q : Item → Type 0 = λ x. Contains (children_at q.tree.nodes v) x in
      let stands = (matching q is v r.node r.has_node r.method r.has_method r.matching c.objects r.candidate).in_list j within in
      (subst P e lower, (are v says).below u (subst Q (sym child ∙ ap child_view e) stands))

  holds_without : (v : ℕ) (c : Arrangement) (k : ℕ) → IsMarked plain v → Arranges q v c → HoldsFor q c k → HoldsFor without c k
  holds_without v c k says r h =
      let Is : Method → Type 0 = λ m. HoldsAt without m c.objects k in
      let P : ℕ → Type 0 = λ u. OfMethod without u Is in
      subst P (sym r.of_node)
      (of_method without without_is v r.node r.has_node r.method r.has_method Is (λ on. absurd (let clash : false ≡ true = on in cc)))

  holds_with : (v : ℕ) (c : Arrangement) (k : ℕ) → IsMarked plain v → Arranges without v c → HoldsFor without c k → HoldsFor q c k
  holds_with v c k says r h =
      let Is : Method → Type 0 = λ m. HoldsAt q m c.objects k in
      let P : ℕ → Type 0 = λ u. OfMethod q u Is in
      let none : r.method.precondition ≡ and no_formulas =
      from_method q is v r.node r.has_node r.method r.has_method (λ m. m.precondition ≡ and no_formulas) (are v says).none in
      let T : Formula → Type 0 = λ f. True q.plan.world.typing (StateAt q.plan k) f c.objects in
      subst P (sym r.of_node) (of_method q is v r.node r.has_node r.method r.has_method Is (λ on. subst T (sym none) tt))

  fits_without : (v s f : ℕ) → IsMarked plain v → FitsNode q v s f → FitsNode without v s f
  fits_without v s f says =
      fits_too q without (plan_nodes q is) (plan_nodes without without_is) (IsMarked plain) (arranged_without q) (λ c i j b. b)
      holds_without child_plain (suc v) v s f (omega arith) says

  fits_with : (v s f : ℕ) → IsMarked plain v → FitsNode without v s f → FitsNode q v s f
  fits_with v s f says =
      fits_too without q (plan_nodes without without_is) (plan_nodes q is) (IsMarked plain) (arranged_with q) (λ c i j b. b)
      holds_with (λ u c j w on r lt e. child_plain u c j w on (arranged_with q u c r) lt e) (suc v) v s f (omega arith) says

  run_without : (v s : ℕ) (r : Run) → IsMarked plain v → IsNodeRun (plan_facts q) v s r → IsNodeRun (plan_facts without) v s r
  run_without v s r says h = record {
    begun = h.begun;
    within = h.within;
    least = λ x late early.
        least_iff (FitsNode q v x) (FitsNode without v x) (last q) r.finish (λ g. fits_without v x g says) (λ g. fits_with v x g says) (h.least x late early);
  }

  -- what is known of them is so there too
  pub known_without : (size : ℕ) (m m' : Memo) → KeepsOnly m plain m' → AreKnown (plan_facts q) size m → AreKnown (plan_facts without) size m'
  known_without size m m' keeps known = record {
    room = subst (λ n. size ≤ n) (sym keeps.room) known.room;
    right = λ v s r e. let found = keeps.only v s r e in run_without v s r found.0 (known.right v s r found.1);
    won = λ v w e. absurd (let clash : None ≡ Some w = sym (keeps.won v) ∙ e in cc);
  }

-- no child was looked at, and one more is
pub none_plain : (plain : List Bool) → AllPlain plain []
none_plain plain u m = absurd (none_in_empty (Task u) m)

pub child_more : (plain : List Bool) (xs : List Child) (i : ℕ) (d : Child) → i < length xs → AllPlain plain (map child_view (take i xs))
    → ((u : ℕ) → get_or xs i d ≡ children.Node u → IsMarked plain u) → AllPlain plain (map child_view (take (i + 1) xs))
child_more plain xs i d lt all here u m =
    by (get_or xs i d) refl (Contains-push_cases (map child_view (take i xs)) (child_view (get_or xs i d)) (Task u) (subst (λ ys. Contains ys (Task u)) more m))
  where
    more : map child_view (take (i + 1) xs) ≡ map child_view (take i xs) ++ child_view (get_or xs i d) ∷ []
    more = ap (map child_view) (take_one xs i d lt) ∙ map_end child_view (take i xs) (get_or xs i d)

    by : (x : Child) → get_or xs i d ≡ x → Contains (map child_view (take i xs)) (Task u) ⊎ (child_view x ≡ Task u) → IsMarked plain u
    by x e (inl m) = all u m
    by (children.Action k) e (inr same) = absurd (let clash = same in cc)
    by (children.Node w) e (inr same) = here u (e ∙ ap children.Node (let numbers = same in cc))

-- what is said of the nodes so far stays so
pub record ArePlainUpto (w : World) (t : PlanTree) (plain : List Bool) (n : ℕ) : Type 0 where
  pub as_many : length plain ≡ n
  pub each : ArePlain w t plain

pub none_said : (w : World) (t : PlanTree) → ArePlainUpto w t [] 0
none_said w t = record { as_many = refl; each = λ v says. absurd (none v says) }
  where
    none : (v : ℕ) → IsMarked [] v → ⊥
    none v says = let clash : false ≡ true = says in cc

pub node_more : (w : World) (t : PlanTree) (plain : List Bool) (n : ℕ) (b : Bool) → ArePlainUpto w t plain n → (b ≡ true → IsPlain w t plain n)
    → ArePlainUpto w t (plain ++ b ∷ []) (n + 1)
node_more w t plain n b are here = record {
  as_many = more plain ∙ ap (λ k. k + 1) are.as_many;
  each = λ v says. by v (marked_cases plain b v says);
}
  where
    more : (xs : List Bool) → length (xs ++ b ∷ []) ≡ length xs + 1
    more [] = refl
    more (x ∷ xs) = let rest = more xs in omega (arith, rest)

    wider : (v : ℕ) → IsPlain w t plain v → IsPlain w t (plain ++ b ∷ []) v
    wider v h = record { none = h.none; below = λ u m. marked_front plain b u (h.below u m) }

    by : (v : ℕ) → IsMarked plain v ⊎ ((v ≡ length plain) × (b ≡ true)) → IsPlain w t (plain ++ b ∷ []) v
    by v (inl says) = wider v (are.each v says)
    by v (inr (e, on)) = let P : ℕ → Type 0 = λ u. IsPlain w t (plain ++ b ∷ []) u in subst P (sym (e ∙ are.as_many)) (wider n (here on))

-- a node of which a finish is known has a candidate
pub bound_by : (q : Setting) → IsSetting q → (size : ℕ) (m : Memo) → AreKnown (plan_facts q) size m → (v : ℕ) → KnowsFinish m v → HasOne q.plan.world q.tree v
bound_by q is size m known v h =
    let run = known.right v h.start h.run h.known in
    let P : Option ℕ → Type 0 = λ o. IsLeast (FitsNode q v h.start) (last q) o in
    let least : IsLeastAt (FitsNode q v h.start) (last q) h.finish = subst P h.is (run.least h.start (omega arith) run.begun) in
    let one = ((plan_nodes q is).by_one v h.start h.finish).0 least.reached in
    let r = one.is_candidate in (
      r.matching,
      one.candidate.objects,
      is_candidate_at q v r.matching one.candidate.objects
          (record { node = r.node; has_node = r.has_node; method = r.method; has_method = r.has_method; candidate = r.candidate }),
    )
