-- A walk goes on from node to node, and in the end all that are reached stand.
use Rattle.std.proofs.Common.{◌≡◌, ◌≢◌, ℕ, zero, suc, ◌+◌, ◌-◌, ◌≤◌, ◌<◌, List, [], ◌∷◌, refl, sym, ap, ◌∙◌, subst, inl, inr, arith, ◌⊎◌, Option, Some, None, length, length-set, get_or-set_same, get_or-set_other}
use Rattle.std.specs.Prelude.{slice_index, replicate}
use Rattle.std.proofs.lemmas.List.{length-replicate}
use Rattle.std.specs.List.{slice_set}
use Rattle.std.proofs.lemmas.Bool.{cases_lt}
use Rattle.hv_lists.proofs.Options.{same_some, not_some}
use Rattle.hv_plan.specs.declared.tree.Child.{Child}
use Rattle.hv_plan.specs.declared.tree.Child.TheVariants as children
use Rattle.hv_order.specs.Tables.{IsLeastAt}
use Rattle.hv_order.specs.inside.Children.{child_at, ChildFits, IsNodeBelow}
use Rattle.hv_order.specs.inside.Arrangements.{Arrangement}
use Rattle.hv_order.specs.inside.Facts.{Facts}
use Rattle.hv_order.specs.inside.Nodes.{AreNodes}
use Rattle.hv_order.specs.inside.Walks.{said_of, root_of, winner_of, IsChildAt, HaveOneParent, start_in, finish_in, begins, over, AreBranches, AreWalked}
use Rattle.hv_order.specs.inside.Begun.{HaveFinishes, AreBegun, IsPlaced, IsVisited, IsVisit}
use Rattle.hv_order.specs.declared.walk.Stand.{Stand}
use Rattle.hv_order.proofs.Members.{SameNumber, equal_numbers, other_numbers, number_cases}

-- the nodes from number i on are visited
pub record IsWalkedFrom (q : Facts) (count : ℕ) (i : ℕ) (starts : List (Option ℕ)) (stands : List (Option Stand)) : Type 0 where
  pub starts_room : length starts ≡ count
  pub stands_room : length stands ≡ count
  pub finishes : HaveFinishes q starts
  pub root : said_of starts (root_of count) ≡ Some 0
  pub stand : (v s : ℕ) → i ≤ v → said_of starts v ≡ Some s → (t : Stand) × (said_of stands v ≡ Some t) × (t.start ≡ s)
  pub each : (v : ℕ) (t : Stand) → i ≤ v → said_of stands v ≡ Some t → IsPlaced q starts v t

-- what is said of one node more
pub said_here : {X : Type 0} (xs : List (Option X)) (v : ℕ) (o : Option X) → v < length xs → said_of (slice_set xs v o) v ≡ o
said_here xs v o lt = get_or-set_same xs v o None lt

pub said_else : {X : Type 0} (xs : List (Option X)) (v u : ℕ) (o : Option X) → u ≢ v → said_of (slice_set xs v o) u ≡ said_of xs u
said_else xs v u o other = get_or-set_other xs v u o None other

module _ (q : Facts) (count : ℕ) (are : AreNodes q) (parents : HaveOneParent q) where
  -- the nodes among a candidate's children have lower numbers
  child_lower : (n : ℕ) (c : Arrangement) → q.is_candidate n c → (j u : ℕ) → IsChildAt c.children j u → u < n
  child_lower n c is j u child = let P : Child → Type 0 = λ x. IsNodeBelow n x in subst P child.1 ((are.arranged n c is).1 j (children.Action 0) child.0)

  -- a node that is not begun is passed
  passed : (n : ℕ) (starts : List (Option ℕ)) (stands : List (Option Stand)) → n < count → IsWalkedFrom q count (n + 1) starts stands → said_of starts n ≡ None → IsWalkedFrom q count n starts (slice_set stands n None)
  passed n starts stands lt walked none = record {
    starts_room = walked.starts_room;
    stands_room = length-set stands n None ∙ walked.stands_room;
    finishes = walked.finishes;
    root = walked.root;
    stand = λ v s le e. stand_at v s e (cases_lt n v) le;
    each = λ v t le e. each_at v t e (cases_lt n v) le;
  }
    where
      within : n < length stands
      within = let r = walked.stands_room in omega arith

      stand_at : (v s : ℕ) → said_of starts v ≡ Some s → (n < v) ⊎ (v ≤ n) → n ≤ v → (t : Stand) × (said_of (slice_set stands n None) v ≡ Some t) × (t.start ≡ s)
      stand_at v s e (inl a) le = let (t, said, is) = walked.stand v s (omega (arith, a)) e in (t, said_else stands n v None (λ k. absurd (omega (arith, a, k))) ∙ said, is)
      stand_at v s e (inr a) le = let same : n ≡ v = omega (arith, a, le) in absurd (not_some s (sym none ∙ (ap (said_of starts) same ∙ e)))

      each_at : (v : ℕ) (t : Stand) → said_of (slice_set stands n None) v ≡ Some t → (n < v) ⊎ (v ≤ n) → n ≤ v → IsPlaced q starts v t
      each_at v t e (inl a) le = walked.each v t (omega (arith, a)) (sym (said_else stands n v None (λ k. absurd (omega (arith, a, k)))) ∙ e)
      each_at v t e (inr a) le = let same : n ≡ v = omega (arith, a, le) in absurd (not_some t (sym (said_here stands n None within) ∙ (ap (said_of (slice_set stands n None)) same ∙ e)))

  module _ (n s : ℕ) (starts starts' : List (Option ℕ)) (stands : List (Option Stand)) (t : Stand) (lt : n < count) (walked : IsWalkedFrom q count (n + 1) starts stands) (room : length starts' ≡ length starts) (begun : said_of starts n ≡ Some s) (visited : IsVisited q n s starts starts' t) where
    abbrev candidate : Arrangement
    candidate = winner_of t

    abbrev stands' : List (Option Stand)
    stands' = slice_set stands n (Some t)

    within : n < length stands
    within = let r = walked.stands_room in omega arith

    lower : (j u : ℕ) → IsChildAt candidate.children j u → u < n
    lower = child_lower n candidate visited.placed.is.is_candidate

    kept_above : (u : ℕ) → n ≤ u → said_of starts' u ≡ said_of starts u
    kept_above u le = by_place (visited.kept u)
      where
        by_place : ((j : ℕ) × IsChildAt candidate.children j u) ⊎ (said_of starts' u ≡ said_of starts u) → said_of starts' u ≡ said_of starts u
        by_place (inl (j, child)) = let a = lower j u child in absurd (omega (arith, a))
        by_place (inr same) = same

    still_finishes : HaveFinishes q starts'
    still_finishes v x e = by_place (visited.kept v)
      where
        by_place : ((j : ℕ) × IsChildAt candidate.children j v) ⊎ (said_of starts' v ≡ said_of starts v) → (f : ℕ) × IsLeastAt (q.fits v x) q.last f
        by_place (inl (j, child)) =
            let is = visited.placed.begun in
            let same : slice_index is.begins j ≡ x = same_some (slice_index is.begins j) x (sym (is.begun j v child) ∙ e) in
            let P : Child → Type 0 = λ y. IsLeastAt (ChildFits q.fits y (slice_index is.begins j)) q.last (slice_index is.ends j) in
            let Q : ℕ → Type 0 = λ y. IsLeastAt (q.fits v y) q.last (slice_index is.ends j) in
            (slice_index is.ends j, subst Q same (subst P child.1 (is.laid.fits j child.0)))
        by_place (inr same) = walked.finishes v x (sym same ∙ e)

    stand_at : (v x : ℕ) → said_of starts' v ≡ Some x → (n < v) ⊎ (v ≤ n) → n ≤ v → (r : Stand) × (said_of stands' v ≡ Some r) × (r.start ≡ x)
    stand_at v x e (inl a) le = let (r, said, is) = walked.stand v x (omega (arith, a)) (sym (kept_above v le) ∙ e) in (r, said_else stands n v (Some t) (λ k. absurd (omega (arith, a, k))) ∙ said, is)
    stand_at v x e (inr a) le =
        let same : n ≡ v = omega (arith, a, le) in
        let here : s ≡ x = same_some s x (sym begun ∙ (ap (said_of starts) same ∙ (sym (kept_above v le) ∙ e))) in
        (t, ap (said_of stands') (sym same) ∙ said_here stands n (Some t) within, visited.start ∙ here)

    -- the children of another node are as they were
    still_placed : (v : ℕ) (r : Stand) → n < v → IsPlaced q starts v r → IsPlaced q starts' v r
    still_placed v r a is = record {
      is = is.is;
      begun = record { begins = is.begun.begins; ends = is.begun.ends; laid = is.begun.laid; begun = λ j u child. kept j u child (visited.kept u) ∙ is.begun.begun j u child };
    }
      where
        kept : (j u : ℕ) → IsChildAt r.winner.children.items j u → ((i : ℕ) × IsChildAt candidate.children i u) ⊎ (said_of starts' u ≡ said_of starts u) → said_of starts' u ≡ said_of starts u
        kept j u child (inl (i, other)) =
            let same = parents.parent v n (winner_of r) candidate j i u is.is.is_candidate visited.placed.is.is_candidate child other in
            absurd (omega (arith, a, same))
        kept j u child (inr same) = same

    each_at : (v : ℕ) (r : Stand) → said_of stands' v ≡ Some r → (n < v) ⊎ (v ≤ n) → n ≤ v → IsPlaced q starts' v r
    each_at v r e (inl a) le = still_placed v r a (walked.each v r (omega (arith, a)) (sym (said_else stands n v (Some t) (λ k. absurd (omega (arith, a, k)))) ∙ e))
    each_at v r e (inr a) le =
        let same : n ≡ v = omega (arith, a, le) in
        let here : t ≡ r = same_some t r (sym (said_here stands n (Some t) within) ∙ (ap (said_of stands') same ∙ e)) in
        let P : ℕ → Type 0 = λ w. IsPlaced q starts' w t in
        let Q : Stand → Type 0 = λ w. IsPlaced q starts' v w in
        subst Q here (subst P same visited.placed)

    stood : IsWalkedFrom q count n starts' stands'
    stood = record {
      starts_room = room ∙ walked.starts_room;
      stands_room = length-set stands n (Some t) ∙ walked.stands_room;
      finishes = still_finishes;
      root = kept_above (root_of count) (omega arith) ∙ walked.root;
      stand = λ v x le e. stand_at v x e (cases_lt n v) le;
      each = λ v r le e. each_at v r e (cases_lt n v) le;
    }

  -- one node more is visited
  visited : (n : ℕ) (starts starts' : List (Option ℕ)) (stands : List (Option Stand)) (x : Option ℕ) (o : Option Stand) → n < count → IsWalkedFrom q count (n + 1) starts stands → length starts' ≡ length starts → said_of starts n ≡ x → IsVisit q n starts starts' x o → IsWalkedFrom q count n starts' (slice_set stands n o)
  visited n starts starts' stands None o lt walked room said is = rw (is.0, is.1) (passed n starts stands lt walked said)
  visited n starts starts' stands (Some s) None lt walked room said is = absurd is
  visited n starts starts' stands (Some s) (Some t) lt walked room said is = stood n s starts starts' stands t lt walked room said is

  -- so it is from number i on down
  pub visited_next : (i : ℕ) (starts starts' : List (Option ℕ)) (stands : List (Option Stand)) (o : Option Stand) → 0 < i → i ≤ count → IsWalkedFrom q count i starts stands → length starts' ≡ length starts → IsVisit q (i - 1) starts starts' (said_of starts (i - 1)) o → IsWalkedFrom q count (i - 1) starts' (slice_set stands (i - 1) o)
  visited_next i starts starts' stands o some most walked room is =
      let next : i ≡ (i - 1) + 1 = omega arith in
      let P : ℕ → Type 0 = λ k. IsWalkedFrom q count k starts stands in
      visited (i - 1) starts starts' stands (said_of starts (i - 1)) o (omega arith) (subst P next walked) room refl is

  -- a node that stands begins where it was begun, and is over when it was found to be
  meets_stand : (o : Option Stand) (t : Stand) (u s f : ℕ) → o ≡ Some t → t.start ≡ s → IsLeastAt (q.fits u s) q.last f → IsLeastAt (q.fits u t.start) q.last t.finish → (s ≤ start_in o) × (finish_in o ≤ f)
  meets_stand o t u s f e is least own =
      let a = ap start_in e in
      let b = ap finish_in e in
      let P : ℕ → Type 0 = λ k. q.fits u k f in
      let d = own.least f (subst P (sym is) least.reached) in
      (omega arith, omega arith)

  -- a child begins no earlier than its subtask, and is over no later
  meets : (stands : List (Option Stand)) (x : Child) (s f : ℕ) → IsLeastAt (ChildFits q.fits x s) q.last f → ((u : ℕ) → x ≡ children.Node u → (t : Stand) × (said_of stands u ≡ Some t) × (t.start ≡ s) × IsLeastAt (q.fits u t.start) q.last t.finish) → (s ≤ begins stands x) × (over stands x ≤ f)
  meets stands (children.Action k) s f least h = let (late, early) = least.reached in (late, omega (arith, early))
  meets stands (children.Node u) s f least h = let (t, said, is, own) = h u refl in meets_stand (said_of stands u) t u s f said is least own

  module _ (starts : List (Option ℕ)) (stands : List (Option Stand)) (walked : IsWalkedFrom q count 0 starts stands) where
    branches : (t : Stand) (c : Arrangement) → AreBegun q starts t c → AreBranches q stands t c
    branches t c begun = record {
      stand = λ j u child. let (r, said, is) = child_stand j u child in (r, said);
      from = λ j lt. let a = begun.laid.from j lt in let (late, early) = child_meets j lt in omega arith;
      until = λ j lt. let a = begun.laid.until j lt in let (late, early) = child_meets j lt in omega arith;
      order = λ i j is_i is_j h.
          let a = begun.laid.order i j is_i is_j h in
          let (late, early) = child_meets i is_i in
          let (begin, end) = child_meets j is_j in
          omega arith;
    }
      where
        child_stand : (j u : ℕ) → IsChildAt c.children j u → (r : Stand) × (said_of stands u ≡ Some r) × (r.start ≡ slice_index begun.begins j)
        child_stand j u child = walked.stand u (slice_index begun.begins j) (omega arith) (begun.begun j u child)

        child_meets : (j : ℕ) → j < length c.children → (slice_index begun.begins j ≤ begins stands (child_at c.children j)) × (over stands (child_at c.children j) ≤ slice_index begun.ends j)
        child_meets j lt =
            meets stands (child_at c.children j) (slice_index begun.begins j) (slice_index begun.ends j) (begun.laid.fits j lt)
            (λ u e. let (r, said, is) = child_stand j u (lt, e) in (r, said, is, (walked.each u r (omega arith) said).is.least))

    pub all_walked : AreWalked q count stands
    all_walked = record {
      as_many = walked.stands_room;
      root = walked.stand (root_of count) 0 (omega arith) walked.root;
      each = λ v t e.
          let is = walked.each v t (omega arith) e in
          record { is = is.is; branches = branches t (winner_of t) is.begun };
    }

-- nothing is said past the end of a list
said_past : {X : Type 0} (xs : List (Option X)) (v : ℕ) → length xs ≤ v → said_of xs v ≡ None
said_past [] v le = refl
said_past (x ∷ xs) zero le = absurd (omega arith)
said_past (x ∷ xs) (suc v) le = said_past xs v (omega arith)

-- at first no node is visited
pub none_visited : (q : Facts) (count : ℕ) (starts : List (Option ℕ)) (stands : List (Option Stand)) → length starts ≡ count → length stands ≡ count → HaveFinishes q starts → said_of starts (root_of count) ≡ Some 0 → IsWalkedFrom q count count starts stands
none_visited q count starts stands a b finishes root = record {
  starts_room = a;
  stands_room = b;
  finishes = finishes;
  root = root;
  stand = λ v s le e. absurd (not_some s (sym (said_past starts v (omega arith)) ∙ e));
  each = λ v t le e. absurd (not_some t (sym (said_past stands v (omega arith)) ∙ e));
}

-- at first only the root is begun
unsaid : (n v : ℕ) → said_of (replicate n (let none : Option ℕ = None in none)) v ≡ None
unsaid zero v = refl
unsaid (suc n) zero = refl
unsaid (suc n) (suc v) = unsaid n v

pub root_begun : (n root : ℕ) → root < n → said_of (slice_set (replicate n (let none : Option ℕ = None in none)) root (Some 0)) root ≡ Some 0
root_begun n root lt = said_here (replicate n None) root (Some 0) (let e = length-replicate n (let none : Option ℕ = None in none) in omega arith)

pub root_finishes : (q : Facts) (n root f : ℕ) → root < n → IsLeastAt (q.fits root 0) q.last f → HaveFinishes q (slice_set (replicate n None) root (Some 0))
root_finishes q n root f lt least v s e = by_number (number_cases v root)
  where
    by_number : SameNumber v root → (g : ℕ) × IsLeastAt (q.fits v s) q.last g
    by_number (equal_numbers same t) =
        let here : 0 ≡ s = same_some 0 s (sym (root_begun n root lt) ∙ (ap (said_of (slice_set (replicate n None) root (Some 0))) (sym same) ∙ e)) in
        let P : ℕ → Type 0 = λ k. IsLeastAt (q.fits v k) q.last f in
        let Q : ℕ → Type 0 = λ k. IsLeastAt (q.fits k 0) q.last f in
        (f, subst P here (subst Q (sym same) least))
    by_number (other_numbers other t) = absurd (not_some s (sym (unsaid n v) ∙ (sym (said_else (replicate n None) root v (Some 0) other) ∙ e)))
