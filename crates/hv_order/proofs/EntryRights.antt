-- What is said of a node is right exactly where its places and objects are a candidate, and the
-- precondition is true.
use Rattle.std.proofs.Common.{◌≡◌, ℕ, zero, suc, ◌+◌, ◌<◌, Bool, true, false, List, [], ◌∷◌, ◌++◌, Some, length, map, slice_get, refl, sym, ap, ◌∙◌, subst, arith, All, length-append, below_more}
use Rattle.std.specs.Prelude.{slice_index}
use Rattle.std.specs.List.{AllZip}
use Rattle.std.proofs.Math.ListN.{get_or-append}
use Rattle.std.proofs.Math.Seq.{get_or-append_seam}
use Rattle.std.proofs.lemmas.Option.{slice_get_within}
use Rattle.std.proofs.lemmas.List.Elements.{All-head, All-tail, All-nil, All-cons}
use Rattle.std.proofs.lemmas.List.{length-map}
use Rattle.hv_lists.proofs.Pairs.{same_length}
use Rattle.hv_lists.proofs.Places.{push_front, push_last}
use Rattle.hv_world.specs.Bindings.{object_number}
use Rattle.hv_world.specs.Bounds.{IsSound}
use Rattle.hv_world.specs.Worlds.{World}
use Rattle.hv_world.specs.declared.id.ObjectId.{ObjectId}
use Rattle.hv_state.specs.Plans as states
use Rattle.hv_plan.specs.Trees.{Item}
use Rattle.hv_plan.specs.PlanTrees.{Node, PlanTree, IsTreeIn}
use Rattle.hv_match.specs.Candidates.{Tells, IsCandidateAt, child_task}
use Rattle.hv_order.specs.Settings.{Setting, setting, HoldsAt}
use Rattle.hv_order.specs.Certified.{IsChildId, IsNameOf, line_numbers}
use Rattle.hv_order.specs.inside.PlanFacts.{OfMethod}
use Rattle.hv_order.specs.inside.Writings.{HasId}
use Rattle.hv_order.specs.inside.Checks.{AreObjectsOf, IsPlaceOf, ArePlacesOf, AreNamed, HasIdOf, HasLines, ArePlaces, IsRight, IsEntryFor, IsEntryOf, AreEntries, IsWrong, matching_in}
use Rattle.hv_order.specs.Misfits.{IsPart}
use Rattle.hv_certificate.specs.declared.certificate.Choice.{Choice}
use Rattle.hv_certificate.specs.declared.certificate.Certificate.{Certificate}
use Rattle.hv_order.proofs.Checked.{told_no}
use Rattle.hv_order.proofs.EntryLemmas.{count_lines}
use Rattle.hv_order.proofs.Members.{not_true}
use Rattle.hv_order.proofs.NodeParts.{candidate_here}
use Rattle.hv_order.proofs.ToldApart.{one_object, same_firsts}
use Rattle.hv_order.proofs.TreeLines.{child_has_id}

same_two : {A B : Type 0} (R S : A → B → Type 0) (xs ys : List A) (zs : List B) → ((x y : A) (z : B) → R x z → S y z → x ≡ y)
    → AllZip R xs zs → AllZip S ys zs → xs ≡ ys
same_two R S [] [] zs one r s = refl
same_two R S [] (y ∷ ys) [] one r s = absurd s
same_two R S [] (y ∷ ys) (z ∷ zs) one r s = absurd r
same_two R S (x ∷ xs) [] [] one r s = absurd r
same_two R S (x ∷ xs) [] (z ∷ zs) one r s = absurd s
same_two R S (x ∷ xs) (y ∷ ys) [] one r s = absurd r
same_two R S (x ∷ xs) (y ∷ ys) (z ∷ zs) one r s =
    let first : x ≡ y = one x y z r.0 s.0 in
    let rest : xs ≡ ys = same_two R S xs ys zs one r.1 s.1 in
    cc

zip_within : {B : Type 0} (P : ℕ → Type 0) (R S : ℕ → B → Type 0) (xs : List ℕ) (zs : List B) → ((x : ℕ) (z : B) → P x → R x z → S x z) → All P xs → AllZip R xs zs → AllZip S xs zs
zip_within P R S [] [] by all zip = tt
zip_within P R S [] (z ∷ zs) by all zip = absurd zip
zip_within P R S (x ∷ xs) [] by all zip = absurd zip
zip_within P R S (x ∷ xs) (z ∷ zs) by all zip = (by x z (All-head P x xs all) zip.0, zip_within P R S xs zs by (All-tail P x xs all) zip.1)

-- each of a node's children has an id
pub all_have_ids : (w : World) (t : PlanTree) (is : IsTreeIn w t) (v : ℕ) (n : Node) (xs : List Item) → slice_get t.nodes v ≡ Some n → xs ≡ n.children → All (HasId t) xs
all_have_ids w t is v n xs e f =
    let P : List Item → Type 0 = λ ys. All (HasId t) ys in
    subst P (sym f) (from n.children (λ x y at. child_has_id w t is v n x y e at))
  where
    from : (ys : List Item) → ((x : ℕ) (y : Item) → slice_get ys x ≡ Some y → HasId t y) → All (HasId t) ys
    from [] each = All-nil (HasId t)
    from (y ∷ ys) each = All-cons (HasId t) y ys (each 0 y refl) (from ys (λ x z at. each (suc x) z at))

module _ (w : World) (t : PlanTree) (v k : ℕ) (s : Choice) where
  abbrev q : Setting
  q = setting t (states.plan w t.actions) true

  pub unknown : (p : states.Plan) → p ≡ states.plan w t.actions → (os : List ObjectId) (b : Bool) → AreObjectsOf w s.objects.items os b → b ≡ false
      → (M : List ℕ) → IsEntryFor (setting t p true) v k s M false
  unknown p e os true named f N = absurd (not_true (sym f))
  unknown p e os false none f N = subst (λ x. IsEntryFor (setting t x true) v k s N false) (sym e) (λ M B r. none B r.says.objects)

  pub known : (os : List ObjectId) (b : Bool) → AreObjectsOf w s.objects.items os b → b ≡ true → AreNamed w s.objects.items os
  known os true named f = named
  known os false none f = absurd (not_true f)

  module _ (sound : IsSound w) (n : Node) (has : slice_get t.nodes v ≡ Some n) (xs : List Item) (children : xs ≡ n.children)
      (os : List ObjectId) (named : AreNamed w s.objects.items os) (ps : List ℕ) (places : ArePlacesOf t xs s.children.items ps) where
    same_places : (M : List ℕ) → AllZip (IsChildId q v) M s.children.items → M ≡ ps
    same_places M zip = same_two (IsChildId q v) (IsPlaceOf t xs) M ps s.children.items one zip places
      where
        one : (x y i : ℕ) → IsChildId q v x i → IsPlaceOf t xs y i → x ≡ y
        one x y i c place =
            let both : Some c.node ≡ Some n = sym c.has_node ∙ has in
            let node : c.node ≡ n = cc in
            let P : Node → Type 0 = λ m. slice_get m.children x ≡ Some c.child in
            let Q : List Item → Type 0 = λ ys. slice_get ys x ≡ Some c.child in
            place.only x (c.child, subst Q (sym children) (subst P node c.has_child), c.stands)

    same_objects : (B : List ℕ) → AllZip (IsNameOf q) B s.objects.items → B ≡ map object_number os
    same_objects B zip = same_firsts (IsNameOf q) B (map object_number os) s.objects.items (λ x y m a b. one_object w sound x y m a b) zip named

    not_right : (IsCandidateAt w t v ps (map object_number os) → OfMethod q v (λ m. HoldsAt q m (map object_number os) k) → ⊥) → (M B : List ℕ) → IsRight q v k s M B → ⊥
    not_right none M B r =
        let first = same_places M r.says.children in
        let second = same_objects B r.says.objects in
        let P : List ℕ → Type 0 = λ M. IsCandidateAt w t v M B in
        let Q : List ℕ → Type 0 = λ B. IsCandidateAt w t v ps B in
        let R : List ℕ → Type 0 = λ B. OfMethod q v (λ m. HoldsAt q m B k) in
        none (subst Q second (subst P first r.candidate)) (subst R second r.holds)

    pub no_candidate : (p : states.Plan) → p ≡ states.plan w t.actions → (b : Bool) → Tells (IsCandidateAt w t v ps (map object_number os)) b → b ≡ false → (M : List ℕ) → IsEntryFor (setting t p true) v k s M false
    no_candidate p e b tells off N =
        subst (λ x. IsEntryFor (setting t x true) v k s N false) (sym e)
        (not_right (λ c h. told_no (IsCandidateAt w t v ps (map object_number os)) b tells off c))

    not_there : (p : states.Plan) → p ≡ states.plan w t.actions → (b : Bool) → Tells (OfMethod (setting t p true) v (λ m. HoldsAt (setting t p true) m (map object_number os) k)) b → b ≡ false → (M : List ℕ) → IsEntryFor (setting t p true) v k s M false
    not_there p e b tells off N =
        let P : states.Plan → Type 0 = λ x. Tells (OfMethod (setting t x true) v (λ m. HoldsAt (setting t x true) m (map object_number os) k)) b in
        subst (λ x. IsEntryFor (setting t x true) v k s N false) (sym e)
        (not_right (λ c h. told_no (OfMethod q v (λ m. HoldsAt q m (map object_number os) k)) b (subst P e tells) off h))

    is_right : (p : states.Plan) → p ≡ states.plan w t.actions → (a b : Bool) → Tells (IsCandidateAt w t v ps (map object_number os)) a → a ≡ true
        → Tells (OfMethod (setting t p true) v (λ m. HoldsAt (setting t p true) m (map object_number os) k)) b → b ≡ true → IsRight (setting t p true) v k s ps (map object_number os)
    is_right p e a b candidate on holds there =
        let P : states.Plan → Type 0 = λ x. Tells (OfMethod (setting t x true) v (λ m. HoldsAt (setting t x true) m (map object_number os) k)) b in
        let is_candidate = candidate.0 on in
        let h = candidate_here q v ps (map object_number os) is_candidate in
        let both : Some h.node ≡ Some n = sym h.has_node ∙ has in
        let node : h.node ≡ n = cc in
        let count : length (map (child_task t) h.node.children) ≡ length xs = length-map h.node.children (child_task t) ∙ ap (λ (m : Node). length m.children) node ∙ ap length (sym children) in
        let Q : ℕ → Type 0 = λ c. All (λ x. x < c) ps in
        subst (λ x. IsRight (setting t x true) v k s ps (map object_number os)) (sym e)
        (record {
          says = record {
            children = zip_within (λ x. x < length xs) (IsPlaceOf t xs) (IsChildId q v) ps s.children.items child (subst Q count h.candidate.within) places;
            objects = named;
          };
          candidate = is_candidate;
          holds = (subst P e holds).0 there;
        })
      where
        child : (x i : ℕ) → x < length xs → IsPlaceOf t xs x i → IsChildId q v x i
        child x i lt place =
            let (y, at, stands) = place.there lt in
            let P : List Item → Type 0 = λ ys. slice_get ys x ≡ Some y in
            record { node = n; has_node = has; child = y; has_child = subst P children at; stands = stands }

    -- a candidate is right exactly where the precondition is true
    pub by_truth : (p : states.Plan) → p ≡ states.plan w t.actions → (a b : Bool) → Tells (IsCandidateAt w t v ps (map object_number os)) a → a ≡ true
        → Tells (OfMethod (setting t p true) v (λ m. HoldsAt (setting t p true) m (map object_number os) k)) b → IsEntryFor (setting t p true) v k s ps b
    by_truth p e a true candidate on holds = (map object_number os, is_right p e a true candidate on holds refl)
    by_truth p e a false candidate on holds = not_there p e false holds refl ps

-- what is said at a place is one thing
pub one_part : (c : Certificate) (place : ℕ) (s u : Choice) (k m : ℕ) → IsPart c place s k → IsPart c place u m → (s ≡ u) × (k ≡ m)
one_part c zero s u k m (a, b) (d, e) = (a ∙ sym d, b ∙ sym e)
one_part c (suc i) s u k m (x, a) (y, b) =
    let both : Some (x, s, k) ≡ Some (y, u, m) = sym a ∙ b in
    let same : (x, s, k) ≡ (y, u, m) = cc in
    (ap (λ (z : ℕ × Choice × ℕ). z.1) same, ap (λ (z : ℕ × Choice × ℕ). z.2) same)

module _ (q : Setting) (c : Certificate) (ps : List ℕ) where
  pub wrong_entry : (v k place : ℕ) (s : Choice) (M : List ℕ) (b : Bool) → v < length q.tree.nodes → slice_index ps v ≡ place → IsPart c place s k → IsEntryFor q v k s M b → b ≡ false
      → IsWrong q c ps place
  wrong_entry v k place s M true lt is part right e = absurd (not_true (sym e))
  wrong_entry v k place s M false lt is part none e = record { node = v; is_node = lt; is_place = is; choice = s; index = k; part = part; none = none }

  entry_is : (v k : ℕ) (s : Choice) (M : List ℕ) (b : Bool) → IsPart c (slice_index ps v) s k → IsEntryFor q v k s M b → b ≡ true → IsEntryOf q c (slice_index ps v) v M k
  entry_is v k s M true part (B, right) e = record { choice = s; binding = B; part = part; right = right }
  entry_is v k s M false part none e = absurd (not_true e)

  -- what the certificate says of the first nodes
  pub record AreFirstEntries (Ms : List (List ℕ)) (ks : List ℕ) (n : ℕ) : Type 0 where
    pub matchings : length Ms ≡ n
    pub as_many : length ks ≡ n
    pub each : (v : ℕ) → v < n → IsEntryOf q c (slice_index ps v) v (matching_in Ms v) (slice_index ks v)

  pub no_entries : AreFirstEntries [] [] 0
  no_entries = record { matchings = refl; as_many = refl; each = λ v lt. absurd (omega (arith, lt)) }

  pub entry_more : (Ms : List (List ℕ)) (ks : List ℕ) (v k : ℕ) (s : Choice) (M : List ℕ) (b : Bool) → IsPart c (slice_index ps v) s k → IsEntryFor q v k s M b → b ≡ true
      → AreFirstEntries Ms ks v → AreFirstEntries (Ms ++ M ∷ []) (ks ++ k ∷ []) (v + 1)
  entry_more Ms ks v k s M b part for on first = record {
    matchings = length-append Ms (M ∷ []) ∙ ap (λ n. n + 1) first.matchings;
    as_many = length-append ks (k ∷ []) ∙ ap (λ n. n + 1) first.as_many;
    each = below_more (λ u. IsEntryOf q c (slice_index ps u) u (matching_in (Ms ++ M ∷ []) u) (slice_index (ks ++ k ∷ []) u)) v earlier here;
  }
    where
      earlier : (u : ℕ) → u < v → IsEntryOf q c (slice_index ps u) u (matching_in (Ms ++ M ∷ []) u) (slice_index (ks ++ k ∷ []) u)
      earlier u lt =
          let matching : matching_in (Ms ++ M ∷ []) u ≡ matching_in Ms u = get_or-append Ms (M ∷ []) [] u (omega (arith, lt, first.matchings)) in
          let index : slice_index (ks ++ k ∷ []) u ≡ slice_index ks u = push_front ks k u (omega (arith, lt, first.as_many)) in
          let P : List ℕ → Type 0 = λ N. IsEntryOf q c (slice_index ps u) u N (slice_index (ks ++ k ∷ []) u) in
          let Q : ℕ → Type 0 = λ i. IsEntryOf q c (slice_index ps u) u (matching_in Ms u) i in
          subst P (sym matching) (subst Q (sym index) (first.each u lt))

      here : IsEntryOf q c (slice_index ps v) v (matching_in (Ms ++ M ∷ []) v) (slice_index (ks ++ k ∷ []) v)
      here =
          let matching : matching_in (Ms ++ M ∷ []) v ≡ M = ap (matching_in (Ms ++ M ∷ [])) (sym first.matchings) ∙ get_or-append_seam Ms M [] [] in
          let index : slice_index (ks ++ k ∷ []) v ≡ k = ap (slice_index (ks ++ k ∷ [])) (sym first.as_many) ∙ push_last ks k in
          let P : List ℕ → Type 0 = λ N. IsEntryOf q c (slice_index ps v) v N (slice_index (ks ++ k ∷ []) v) in
          let Q : ℕ → Type 0 = λ i. IsEntryOf q c (slice_index ps v) v M i in
          subst P (sym matching) (subst Q (sym index) (entry_is v k s M b part for on))

  pub all_entries : (Ms : List (List ℕ)) (ks : List ℕ) (n : ℕ) → n ≡ length q.tree.nodes → AreFirstEntries Ms ks n → AreEntries q c ps Ms ks
  all_entries Ms ks n e first = record { as_many = first.as_many ∙ e; each = λ v lt. first.each v (omega (arith, lt, e)) }

-- there is a line for each place behind the first
pub place_there : (w : World) (t : PlanTree) (is : IsTreeIn w t) (c : Certificate) (ps : List ℕ) (v : ℕ) → HasLines t c → ArePlaces t ps → v < length t.nodes → slice_index ps v < length c.lines.items + 1
place_there w t is c ps v lines places lt =
    let within = slice_get_within t.order (slice_index ps v) v (places.each v lt) in
    let count = same_length (HasIdOf t) (line_numbers t) c.lines.items lines in
    let whole = count_lines t in
    omega (arith, within, count, whole)
