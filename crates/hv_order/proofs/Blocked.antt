-- Where subtasks stand in one chain, and a child that is left for a later one begins too soon, nothing is in order.
use Rattle.std.proofs.Common.{◌≡◌, ℕ, zero, suc, ◌+◌, ◌-◌, ◌<◌, ◌≤◌, ◌⊎◌, inl, inr, Bool, true, false, List, [], ◌∷◌, ◌++◌, length, map, take, Result, Ok, Err, IfOk, OnErr, refl, sym, ap, ◌∙◌, subst, arith, Contains, Option, Some, None, MatchOption}
use Rattle.std.specs.Prelude.{nat_le, slice_get}
use Rattle.std.specs.List.{slice_index_or}
use Rattle.std.proofs.lemmas.Bool.{cases_lt, leb-true}
use Rattle.std.proofs.lemmas.List.{get_or-map, get_or_default, length-map}
use Rattle.std.proofs.lemmas.List.Elements.{All-contains, Contains-get_or, Contains-append_right}
use Rattle.hv_lists.proofs.Bools.{both_true, or_cases}
use Rattle.hv_lists.proofs.Contained.{in_tail, none_in_empty}
use Rattle.hv_world.specs.Worlds.{World, Method}
use Rattle.hv_plan.specs.PlanTrees.{Node, PlanTree}
use Rattle.hv_plan.specs.TreeViews.{child_view}
use Rattle.hv_plan.specs.declared.tree.Child.{Child}
use Rattle.hv_plan.specs.declared.tree.Child.TheVariants as children
use Rattle.hv_match.specs.Candidates.{IsCandidate, HasAllAt, IsCandidateAt, IsAdvance, Listing, child_task, child_tasks, node_method}
use Rattle.hv_order.specs.inside.Arrangements.{listed_before}
use Rattle.hv_order.specs.inside.Children.{child_at}
use Rattle.hv_order.specs.inside.Ends.{item_end}
use Rattle.hv_order.specs.inside.Firsts.{never, item_first}
use Rattle.hv_order.specs.inside.Spans.{is_behind, is_behind_all, are_behind, IsChain, HasActions, HaveActions, IsBlocked, IsPlacing, ArePlacings}
use Rattle.hv_order.specs.declared.spans.Spans.{Spans}
use Rattle.hv_order.proofs.Pigeons.{all_places, one_place}
use Rattle.hv_order.proofs.SpanLemmas.{agreed}

module _ (s : Spans) where
  -- the child of each subtask is behind those of the subtasks before it
  row_true :
      (cs : List Child) (j : ℕ) (lists : List (List ℕ)) (l : ℕ) → l < length lists → are_behind s cs j lists ≡ true
      → is_behind_all s cs (child_at cs (j + l)) (listed_before lists l) ≡ true
  row_true cs j [] l lt e = absurd (omega (arith, lt))
  row_true cs j (is ∷ lists) zero lt e =
      let here : j ≡ j + 0 = omega arith in
      let P : ℕ → Type 0 = λ n. is_behind_all s cs (child_at cs n) is ≡ true in
      subst P here (both_true (is_behind_all s cs (child_at cs j) is) (are_behind s cs (j + 1) lists) e).0
  row_true cs j (is ∷ lists) (suc l) lt e =
      let there : j + 1 + l ≡ j + suc l = omega arith in
      let P : ℕ → Type 0 = λ n. is_behind_all s cs (child_at cs n) (listed_before lists l) ≡ true in
      subst P there (row_true cs (j + 1) lists l (omega (arith, lt)) (both_true (is_behind_all s cs (child_at cs j) is) (are_behind s cs (j + 1) lists) e).1)

  module _ (cs : List Child) (lists : List (List ℕ)) (as_many : length lists ≡ length cs) (chain : IsChain lists) (actions : HaveActions s cs) (ordered : are_behind s cs 0 lists ≡ true) where
    abbrev first : ℕ → ℕ
    first j = item_first s.firsts.items (child_view (child_at cs j))

    abbrev end : ℕ → ℕ
    end j = item_end s.ends.items (child_view (child_at cs j))

    next_behind : (k : ℕ) → suc k < length cs → end k ≤ first (suc k)
    next_behind k lt =
        let within : suc k < length lists = omega (arith, lt, as_many) in
        let P : ℕ → Type 0 = λ n. is_behind_all s cs (child_at cs n) (listed_before lists (suc k)) ≡ true in
        let Q : List ℕ → Type 0 = λ is. is_behind_all s cs (child_at cs (suc k)) is ≡ true in
        let here : 0 + suc k ≡ suc k = omega arith in
        let row : is_behind_all s cs (child_at cs (suc k)) (k ∷ []) ≡ true = subst Q (chain k within) (subst P here (row_true cs 0 lists (suc k) within ordered)) in
        let behind = (both_true (is_behind s (child_view (child_at cs k)) (child_view (child_at cs (suc k)))) true row).0 in
        let begins = (actions (suc k) lt).begins in
        elim (or_cases (nat_le never (first (suc k))) (nat_le (end k) (first (suc k))) behind) [
          | inl no_action ↦ (let late = leb-true never (first (suc k)) no_action in absurd (omega (arith, late, begins)))
          | inr over ↦ leb-true (end k) (first (suc k)) over
        ]

    -- so it is behind all those before it
    pub all_behind : (i d : ℕ) → i + suc d < length cs → end i ≤ first (i + suc d)
    all_behind i zero lt =
        let same : suc i ≡ i + 1 = omega arith in
        subst (λ n. end i ≤ first n) same (next_behind i (omega (arith, lt)))
    all_behind i (suc d) lt =
        let same : suc (i + suc d) ≡ i + suc (suc d) = omega arith in
        let before = all_behind i d (omega (arith, lt)) in
        let ends = (actions (i + suc d) (omega (arith, lt))).ends in
        let after = next_behind (i + suc d) (omega (arith, lt)) in
        subst (λ n. end i ≤ first n) same (omega (arith, before, ends, after))

  -- with the same children up to one that is blocked nothing is in order, whichever stand for the others
  module _ (kids : List Child) (n : ℕ) (M M' : List ℕ) (placed : IsPlacing n M) (placed' : IsPlacing n M') (lists : List (List ℕ)) (at : ℕ) (blocked : IsBlocked s (map (child_at kids) M) lists at) (alike : take (at + 1) M' ≡ take (at + 1) M) where
    abbrev cs : List Child
    cs = map (child_at kids) M

    abbrev cs' : List Child
    cs' = map (child_at kids) M'

    child_is : (N : List ℕ) (j : ℕ) → j < length N → child_at (map (child_at kids) N) j ≡ child_at kids (slice_index_or N j 0)
    child_is N j lt = get_or-map (child_at kids) N j 0 (children.Action 0) lt

    -- a place of one is a place of the other
    place_of : (N : List ℕ) → IsPlacing n N → (x : ℕ) → x < n → (k : ℕ) × (k < length N) × (slice_index_or N k 0 ≡ x)
    place_of N is x lt = let m = all_places n N is.once is.within is.all x lt in (m.0, m.1, get_or_default N m.0 0 x m.1 ∙ m.2)

    below : (N : List ℕ) → IsPlacing n N → (j : ℕ) → j < length N → slice_index_or N j 0 < n
    below N is j lt = All-contains (λ x. x < n) N (slice_index_or N j 0) is.within (Contains-get_or N j 0 lt)

    actions' : HaveActions s cs'
    actions' j lt =
        let within : j < length M' = omega (arith, lt, length-map M' (child_at kids)) in
        let (k, k_in, is) = place_of M placed (slice_index_or M' j 0) (below M' placed' j within) in
        let there = blocked.actions k (omega (arith, k_in, length-map M (child_at kids))) in
        subst (λ (c : Child). HasActions s (child_view c)) (child_is M k k_in ∙ ap (child_at kids) is ∙ sym (child_is M' j within)) there

    clash : are_behind s cs' 0 lists ≡ true → ⊥
    clash ordered =
        let met = blocked.met in
        let in_M : met.later < length M = (let w = met.within in omega (arith, w, length-map M (child_at kids))) in
        let (p, p_in, is) = place_of M' placed' (slice_index_or M met.later 0) (below M placed met.later in_M) in
        let as_many : length lists ≡ length cs' = (let a = blocked.as_many in omega (arith, a, length-map M (child_at kids), length-map M' (child_at kids), placed.all, placed'.all)) in
        by p p_in is as_many (cases_lt at p)
      where
        by : (p : ℕ) → p < length M' → slice_index_or M' p 0 ≡ slice_index_or M blocked.met.later 0 → length lists ≡ length cs' → (at < p) ⊎ (p ≤ at) → ⊥
        by p p_in is as_many (inl after) =
            let met = blocked.met in
            let behind = met.behind in
            let in_M : met.later < length M = (let w = met.within in omega (arith, w, length-map M (child_at kids))) in
            let d = p - suc at in
            let same : at + suc (p - suc at) ≡ p = omega (arith, after) in
            let over = all_behind cs' lists as_many blocked.chain actions' ordered at (p - suc at) (omega (arith, same, p_in, length-map M' (child_at kids))) in
            let at_in : at < length M' = omega (arith, after, p_in) in
            let at_in_M : at < length M = omega (arith, behind, in_M) in
            let here : child_at cs' at ≡ child_at cs at = child_is M' at at_in ∙ ap (child_at kids) (agreed 0 (at + 1) M' M at alike (omega arith)) ∙ sym (child_is M at at_in_M) in
            let there : child_at cs' (at + suc (p - suc at)) ≡ child_at cs met.later = ap (child_at cs') same ∙ child_is M' p p_in ∙ ap (child_at kids) is ∙ sym (child_is M met.later in_M) in
            let over' : item_end s.ends.items (child_view (child_at cs at)) ≤ item_first s.firsts.items (child_view (child_at cs met.later)) =
            subst (λ (c : Child). item_end s.ends.items (child_view (child_at cs at)) ≤ item_first s.firsts.items (child_view c)) there
            (subst (λ (c : Child). item_end s.ends.items (child_view c) ≤ item_first s.firsts.items (child_view (child_at cs' (at + suc (p - suc at))))) here over) in
            let meets = met.meets in
            omega (arith, over', meets)
        by p p_in is as_many (inr before) =
            let met = blocked.met in
            let behind = met.behind in
            let in_M : met.later < length M = (let w = met.within in omega (arith, w, length-map M (child_at kids))) in
            let same : p ≡ met.later = one_place M placed.once p met.later 0 (omega (arith, before, behind, in_M)) in_M (sym (agreed 0 (at + 1) M' M p alike (omega (arith, before))) ∙ is) in
            omega (arith, same, before, behind)

    pub blocked_alike : are_behind s cs' 0 lists ≡ false
    blocked_alike = by (are_behind s cs' 0 lists) refl
      where
        by : (b : Bool) → are_behind s cs' 0 lists ≡ b → are_behind s cs' 0 lists ≡ false
        by true e = absurd (clash e)
        by false e = e

-- the candidates of a node are placings
pub placings_of : (w : World) (t : PlanTree) (v : ℕ) (n : Node) (ever : Option (List (List ℕ))) (l : Listing) (cs : List Child) → slice_get t.nodes v ≡ Some n → map child_view cs ≡ n.children → HasAllAt w t v ever l → ArePlacings (length cs) l.coming
placings_of w t v n ever l cs has_node are all M B m =
    let is : IsCandidateAt w t v M B = ((all M B).0 m).0 in
    let here = subst (λ (o : Option Node). MatchOption o ⊥ (λ x. MatchOption (node_method w x) ⊥ (λ y. IsCandidate w y x.objects (child_tasks t x) M B))) has_node is in
    by (node_method w n) here
  where
    count : length (child_tasks t n) ≡ length cs
    count = length-map n.children (child_task t) ∙ ap length (sym are) ∙ length-map cs child_view

    by : (o : Option Method) → MatchOption o ⊥ (λ y. IsCandidate w y n.objects (child_tasks t n) M B) → IsPlacing (length cs) M
    by None h = absurd h
    by (Some y) h = subst (λ k. IsPlacing k M) count (record { once = h.once; within = h.within; all = h.all })

-- what is still to come is so too
pub still_placings : {E : Type 0} (n : ℕ) (r : Result Bool E) (old new : Listing) → IfOk r (IsAdvance old new) → OnErr r (new ≡ old) → ArePlacings n old.coming → ArePlacings n new.coming
still_placings n (Ok true) old new ok err are M B m = are M B (subst (λ (cs : List (List ℕ × List ℕ)). Contains cs (M, B)) (sym ok) (in_tail (new.children, new.objects) new.coming (M, B) m))
still_placings n (Ok false) old new (none, none') err are M B m = absurd (none_in_empty (M, B) (subst (λ (cs : List (List ℕ × List ℕ)). Contains cs (M, B)) none' m))
still_placings n (Err e) old new ok err are M B m = are M B (subst (λ (l : Listing). Contains l.coming (M, B)) err m)

pub rest_placings : (n : ℕ) (all gone rest : List (List ℕ × List ℕ)) → all ≡ gone ++ rest → ArePlacings n all → ArePlacings n rest
rest_placings n all gone rest is are M B m = are M B (subst (λ (cs : List (List ℕ × List ℕ)). Contains cs (M, B)) (sym is) (Contains-append_right gone rest (M, B) m))
