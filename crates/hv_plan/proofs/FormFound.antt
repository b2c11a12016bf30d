-- Lines form a tree, or have a cause for which they form none.
use Rattle.std.proofs.Common.{◌≡◌, ◌+◌, ◌<◌, ◌≤◌, ◌⊎◌, inl, inr, ℕ, zero, suc, Bool, true, false, List, [], ◌∷◌, ◌++◌, Option, Some, None, nat_eq, map, set, refl, ap, ◌∙◌, subst, arith, length, Contains, slice_index}
use Rattle.std.specs.Map.{update}
use Rattle.std.proofs.lemmas.List.{length-set}
use Rattle.std.proofs.lemmas.List.Elements.{Contains-append_right}
use Rattle.hv_lists.specs.Lists.{Once}
use Rattle.hv_lists.proofs.Numbers.{either_side}
use Rattle.hv_plan.specs.Values.{Plan}
use Rattle.hv_plan.specs.Shapes.{ids, all_children, IsInTextOrder, FormTree}
use Rattle.hv_plan.specs.Ids.{place_of}
use Rattle.hv_plan.specs.inside.Shaping.{first_of, again_of, earlier, line_unless, IsFirst, IsRepeat, IsMissed, is_known, is_marked, lines_of_heads, lines_of_children, places_of_lines, kids, IsMeeting, Grows, IsWalking, IsWalk}
use Rattle.hv_plan.specs.inside.ShapeCauses.{NoneBelow, IsFormFault}
use Rattle.hv_plan.specs.declared.cause.CauseKind.TheVariants as kinds
use Rattle.hv_plan.specs.declared.cause.Cause.{Cause}
use Rattle.hv_plan.specs.declared.cause.TreeFault.TheVariants as faults
use Rattle.hv_plan.proofs.FirstLines.{none_missed, missed_next, IsTable, no_lines, table_next, none_repeated, repeat_next}
use Rattle.hv_plan.proofs.ShapeWalks.{grows_none, grows_more, grows_by_one, grows_by_none, meets, met_fits, no_marks, walk_starts, walk_goes, walk_ends}
use Rattle.hv_plan.proofs.ShapeTrees.{form_tree, root_within, kids_within}
use Rattle.hv_plan.proofs.PlaceTables.{no_repeat}
use Rattle.hv_plan.proofs.ShapeFaults.{none_below, none_so_far, the_cause, repeats_are, pairs_are, unknowns_are, all_known, all_marked, unmet_are}

next_place : (P : ℕ → Type 0) (k : ℕ) → P (k + 1) → P (suc k)
next_place P k h = let e : k + 1 ≡ suc k = omega arith in subst P e h

-- the first line of the places that have not passed
abbrev Missed : (ℕ → Bool) → List ℕ → ℕ → Type 0
Missed passes lines count = (o : Option ℕ) × IsFirst (IsMissed passes lines count) o

first_missed : (passes : ℕ → Bool) (lines : List ℕ) (count : ℕ) → Missed passes lines count
first_missed passes lines zero = (None, none_missed passes lines)
first_missed passes lines (suc k) = next (first_missed passes lines k)
  where
    next : Missed passes lines k → Missed passes lines (suc k)
    next (o, first) = next_place (Missed passes lines) k (earlier o (line_unless (passes k) (slice_index lines k)), missed_next passes lines k o first)

-- the first line of the ids that stand again
record Repeats (xs lines : List ℕ) (count : ℕ) : Type 0 where
  pub found : Option ℕ
  pub first_lines : ℕ → Option ℕ
  pub table : IsTable xs lines count first_lines
  pub first : IsFirst (IsRepeat xs lines count) found

first_repeat : (xs lines : List ℕ) (count : ℕ) → Repeats xs lines count
first_repeat xs lines zero =
    record { found = None; first_lines = λ i. None; table = no_lines xs lines (λ i. None) (λ i. refl); first = none_repeated xs lines }
first_repeat xs lines (suc k) = next (first_repeat xs lines k)
  where
    next : Repeats xs lines k → Repeats xs lines (suc k)
    next r =
        let line : Option ℕ = r.first_lines (slice_index xs k) in
        let more : ℕ → Option ℕ = update nat_eq r.first_lines (slice_index xs k) (Some (first_of (slice_index lines k) line)) in
        next_place (Repeats xs lines) k (record {
          found = earlier r.found (again_of (slice_index lines k) line);
          first_lines = more;
          table = table_next xs lines k r.first_lines more r.table (λ q. refl);
          first = repeat_next xs lines k r.first_lines r.found r.table r.first;
        })

-- places are met, each once
record Met (count : ℕ) (places old : List ℕ) : Type 0 where
  pub met : List ℕ
  pub marks : List Bool
  pub meeting : IsMeeting met marks
  pub many : length marks ≡ count
  pub grows : Grows old places met

module _ (count : ℕ) where
  meet : (k : ℕ) → k < count → (met : List ℕ) (marks : List Bool) → IsMeeting met marks → length marks ≡ count → Met count (k ∷ []) met
  meet k w met marks so_far many = by (is_marked marks k) refl
    where
      by : (b : Bool) → is_marked marks k ≡ b → Met count (k ∷ []) met
      by true e = record { met = met; marks = marks; meeting = so_far; many = many; grows = grows_by_none met k (so_far.marked k e) }
      by false e =
          record {
            met = met ++ k ∷ [];
            marks = set marks k true;
            meeting = meets met marks k (omega (arith, w, many)) e so_far;
            many = length-set marks k true ∙ many;
            grows = grows_by_one met k;
          }

  meet_all : (ks : List ℕ) → ((c : ℕ) → Contains ks c → c < count) → (met : List ℕ) (marks : List Bool) → IsMeeting met marks → length marks ≡ count → Met count ks met
  meet_all [] within met marks so_far many = record { met = met; marks = marks; meeting = so_far; many = many; grows = grows_none met }
  meet_all (k ∷ ks) within met marks so_far many =
      let one = meet k (within k (0, omega arith, refl)) met marks so_far many in
      let rest = meet_all ks (λ c h. within c (Contains-append_right (k ∷ []) ks c h)) one.met one.marks one.meeting one.many in
      record { met = rest.met; marks = rest.marks; meeting = rest.meeting; many = rest.many; grows = grows_more met (k ∷ []) one.met ks rest.met one.grows rest.grows }

  -- as many marks, none of them made
  abbrev unmarked : ℕ → List Bool
  unmarked zero = []
  unmarked (suc n) = false ∷ unmarked n

  unmarked_long : (n : ℕ) → length (unmarked n) ≡ n
  unmarked_long zero = refl
  unmarked_long (suc n) = ap suc (unmarked_long n)

  unmarked_at : (n k : ℕ) → is_marked (unmarked n) k ≡ false
  unmarked_at zero zero = refl
  unmarked_at zero (suc k) = refl
  unmarked_at (suc n) zero = refl
  unmarked_at (suc n) (suc k) = unmarked_at n k

  -- a walk from the children of the root to all below
  module _ (root : List ℕ) (below : ℕ → List ℕ) (roots : (c : ℕ) → Contains root c → c < count) (lists : (v c : ℕ) → Contains (below v) c → c < count) where
    record Walked : Type 0 where
      pub met : List ℕ
      pub marks : List Bool
      pub walk : IsWalk root below met marks
      pub many : length marks ≡ count

    walk_on : (steps at : ℕ) (met : List ℕ) (marks : List Bool) → IsWalking root below at met marks → length marks ≡ count → at ≤ length met → count ≤ at + steps → Walked
    walk_on zero at met marks so_far many le far =
        let fits : length met ≤ length marks = met_fits met marks so_far.meeting in
        record { met = met; marks = marks; walk = walk_ends root below at met marks (omega (arith, fits, many, le, far)) so_far; many = many }
    walk_on (suc steps) at met marks so_far many le far = by (either_side at (length met)) (λ m n s i j k. walk_on steps (at + 1) m n s i j k)
      where
        by : (at < length met) ⊎ (length met ≤ at)
            → ((m : List ℕ) (n : List Bool) → IsWalking root below (at + 1) m n → length n ≡ count → at + 1 ≤ length m → count ≤ at + 1 + steps → Walked) → Walked
        by (inl lt) on =
            let step = meet_all (below (slice_index met at)) (lists (slice_index met at)) met marks so_far.meeting many in
            let longer : length met ≤ length step.met = step.grows.longer in
            on step.met step.marks (walk_goes root below at met step.met marks step.marks lt so_far step.grows step.meeting) step.many (omega (arith, lt, longer)) (omega (arith, far))
        by (inr ge) on = record { met = met; marks = marks; walk = walk_ends root below at met marks (omega (arith, le, ge)) so_far; many = many }

    walk_from : Walked
    walk_from =
        let start = meet_all root roots [] (unmarked count) (no_marks (unmarked count) (unmarked_at count)) (unmarked_long count) in
        walk_on count 0 start.met start.marks (walk_starts root below start.met start.marks start.grows start.meeting) start.many (omega arith) (omega arith)

-- a cause for which the lines of a plan form no tree
abbrev pub FormCause : Plan → Type 0
FormCause p = (c : Cause) × IsFormFault p (faults.Cause c)

module _ (p : Plan) (order : IsInTextOrder p) where
  module _ (once : Once (ids p)) (known : (i : ℕ) → Contains (all_children p) i → Contains (ids p) i) (single : Once (all_children p)) (below : NoneBelow p 53) where
    abbrev root : List ℕ
    root = map (place_of (ids p)) p.root.ids

    abbrev lists : List (List ℕ)
    lists = places_of_lines (ids p) p

    by_unmet : (met : List ℕ) (marks : List Bool) → IsWalk root (kids lists (length p.actions)) met marks → length marks ≡ length (ids p)
        → Missed (is_marked marks) (lines_of_heads p) (length marks) → FormTree p ⊎ FormCause p
    by_unmet met marks walk many (Some l, first) =
        inr (
          record { kind = kinds.Unreached; line = l },
          the_cause p kinds.Unreached l below (λ w. unmet_are p root lists met marks refl refl once known walk many w (Some l) first),
        )
    by_unmet met marks walk many (None, first) =
        inl (form_tree p root lists met marks refl refl once known walk single (λ k lt. all_marked marks (lines_of_heads p) first k (omega (arith, lt, many))))

    by_walk : FormTree p ⊎ FormCause p
    by_walk =
        let walked = walk_from (length (ids p)) root (kids lists (length p.actions)) (root_within p root refl known) (kids_within p lists refl known) in
        by_unmet walked.met walked.marks walked.walk walked.many (first_missed (is_marked walked.marks) (lines_of_heads p) (length walked.marks))

  by_parents : Once (ids p) → ((i : ℕ) → Contains (all_children p) i → Contains (ids p) i) → NoneBelow p 52
      → (o : Option ℕ) → IsFirst (IsRepeat (all_children p) (lines_of_children p) (length (all_children p))) o → FormTree p ⊎ FormCause p
  by_parents once known below (Some l) first = inr (record { kind = kinds.TwoParents; line = l }, the_cause p kinds.TwoParents l below (pairs_are p order (Some l) first))
  by_parents once known below None first =
      by_walk once known (no_repeat (all_children p) (lines_of_children p) first) (none_so_far p kinds.TwoParents below (pairs_are p order None first))

  by_children : Once (ids p) → NoneBelow p 51 → Missed (is_known (ids p) (all_children p)) (lines_of_children p) (length (all_children p)) → FormTree p ⊎ FormCause p
  by_children once below (Some l, first) = inr (record { kind = kinds.UnknownChild; line = l }, the_cause p kinds.UnknownChild l below (unknowns_are p order (Some l) first))
  by_children once below (None, first) =
      let r = first_repeat (all_children p) (lines_of_children p) (length (all_children p)) in
      by_parents once (all_known p first) (none_so_far p kinds.UnknownChild below (unknowns_are p order None first)) r.found r.first

  by_ids : (o : Option ℕ) → IsFirst (IsRepeat (ids p) (lines_of_heads p) (length (ids p))) o → FormTree p ⊎ FormCause p
  by_ids (Some l) first = inr (record { kind = kinds.RepeatedId; line = l }, the_cause p kinds.RepeatedId l (none_below p) (repeats_are p order (Some l) first))
  by_ids None first =
      by_children (no_repeat (ids p) (lines_of_heads p) first) (none_so_far p kinds.RepeatedId (none_below p) (repeats_are p order None first))
      (first_missed (is_known (ids p) (all_children p)) (lines_of_children p) (length (all_children p)))

  -- the lines form a tree, or there is a cause for which they form none
  pub form_or_cause : FormTree p ⊎ FormCause p
  form_or_cause = let r = first_repeat (ids p) (lines_of_heads p) (length (ids p)) in by_ids r.found r.first
