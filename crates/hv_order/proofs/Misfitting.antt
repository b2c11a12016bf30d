-- Which line of a certificate does not fit, and what all of them say where each fits.
use Rattle.std.proofs.Common.{◌≡◌, ℕ, ◌<◌, ◌⊎◌, inl, inr, List, Some, true, length, slice_get, sym, ap, subst, arith}
use Rattle.std.specs.Prelude.{slice_index}
use Rattle.hv_lists.proofs.Places.{member_at}
use Rattle.hv_lists.proofs.Pairs.{same_length, paired_at}
use Rattle.hv_world.specs.Worlds.{World, Method}
use Rattle.hv_state.specs.Plans as states
use Rattle.hv_plan.specs.PlanTrees.{PlanTree, children_at, tree_of}
use Rattle.hv_order.specs.Meanings.{Meaning}
use Rattle.hv_order.specs.Certificates.{AreFinishes}
use Rattle.hv_order.specs.Settings.{Setting, last, AmountsTo}
use Rattle.hv_order.specs.Certified.{Says, Certifies, line_numbers}
use Rattle.hv_order.specs.Misfits.{IsPart, AreTimes, StartInOrder, IsMisfit, other_line, no_candidate, out_of_order, too_late}
use Rattle.hv_order.specs.inside.PlanFacts.{IsSetting}
use Rattle.hv_order.specs.inside.Checks.{HasIdOf, HasLines, IsOtherAt, ArePlaces, IsRight, AreEntries, IsWrong, KeepsDirect, KeepsNode, KeepAll, IsLate, late_child, late_root, IfLine, IsRefused, matching_in, finish_in}
use Rattle.hv_certificate.specs.declared.certificate.Choice.{Choice}
use Rattle.hv_certificate.specs.declared.certificate.Certificate.{Certificate}
use Rattle.hv_order.specs.declared.unfit.Unfit.{Unfit}
use Rattle.hv_order.specs.declared.unfit.Unfit.TheVariants as unfit
use Rattle.hv_order.proofs.Checking.{certified, keep_all, lines_of, all_right, place_is, meant, here, holds_of, direct_kept, method_one, spans}
use Rattle.hv_order.proofs.EntryRights.{one_part}
use Rattle.hv_order.proofs.NodeParts.{candidate_here, is_candidate_at, method_is}
use Rattle.hv_order.proofs.TreeLines.{within_order}

module _ (q : Setting) (is : IsSetting q) (c : Certificate) where
  -- a certificate with another line
  pub other_refused : (place : ℕ) → IsOtherAt q.tree c place → (Certifies q c → ⊥) × IsMisfit q c place
  other_refused place (i, is_place, other) = (not_certified, subst (IsMisfit q c) (sym is_place) (other_line i other))
    where
      less : (a b : ℕ) → a ≡ b → (i < a) ⊎ (i < b) → i < a
      less a b e (inl lt) = lt
      less a b e (inr lt) = omega (arith, lt, e)

      not_certified : Certifies q c → ⊥
      not_certified cert =
          let zip = lines_of q is c cert in
          let count = same_length (HasIdOf q.tree) (line_numbers q.tree) c.lines.items zip in
          let (v, at_v) = member_at (line_numbers q.tree) i (less (length (line_numbers q.tree)) (length c.lines.items) count other.there) in
          let (l, at_l, id) = paired_at (HasIdOf q.tree) (line_numbers q.tree) c.lines.items i v zip at_v in
          other.differ v l at_v at_l id

  module _ (ps : List ℕ) (places : ArePlaces q.tree ps) where
    -- one that says of a node what is not right
    pub wrong_refused : (place : ℕ) → IsWrong q c ps place → (Certifies q c → ⊥) × IsMisfit q c place
    wrong_refused place h = (not_certified, no_candidate place h.node h.index h.choice stands h.part none)
      where
        stands : slice_get q.tree.order place ≡ Some h.node
        stands = subst (λ k. slice_get q.tree.order k ≡ Some h.node) h.is_place (places.each h.node h.is_node)

        not_certified : Certifies q c → ⊥
        not_certified cert =
            let r = all_right q is c ps places cert h.node h.is_node in
            let P : ℕ → Type 0 = λ k. IsPart c k r.choice r.index in
            let (choice, index) = one_part c place r.choice h.choice r.index h.index (subst P h.is_place r.part) h.part in
            let Q : ℕ → Type 0 = λ k. IsRight q h.node k r.choice r.matching r.binding in
            h.none r.matching r.binding (subst (λ s. IsRight q h.node h.index s r.matching r.binding) choice (subst Q index r.right))

        none : (M B : List ℕ) (m : Meaning) → Says q h.node M B h.choice → AmountsTo q h.node M B m → m.true_at h.index ≡ true → ⊥
        none M B m says a on = h.none M B (record {
          says = says;
          candidate = is_candidate_at q h.node M B (here q is h.node M B m a);
          holds = holds_of q is h.node M B m a h.index on;
        })

    pub wrong_refused_as : (u : Unfit) → IfLine (IsWrong q c ps) u → IsRefused q c u
    wrong_refused_as (unfit.Line place) h = wrong_refused place h
    wrong_refused_as unfit.Memory h = tt

    module _ (Ms : List (List ℕ)) (ks fs : List ℕ) (are : AreEntries q c ps Ms ks) (fin : AreFinishes (tree_of q.tree) (slice_index ks) (finish_in fs)) where
      times : AreTimes q c (slice_index ks) (finish_in fs)
      times = record { starts = starts; finishes = fin }
        where
          starts : (place v : ℕ) → slice_get q.tree.order place ≡ Some v → (s : Choice) × IsPart c place s (slice_index ks v)
          starts place v stands =
              let lt = within_order q.plan.world q.tree is.tree place v stands in
              let h = are.each v lt in
              let P : ℕ → Type 0 = λ k. IsPart c k h.choice (slice_index ks v) in
              (h.choice, subst P (place_is q is ps places place v lt stands) h.part)

      -- one by which a node starts too early, or the root is over too late
      pub late_refused : (place : ℕ) → IsLate q.plan.world q.tree Ms ks fs ps (last q) place → (Certifies q c → ⊥) × IsMisfit q c place
      late_refused place late = (not_certified late, misfit late)
        where
          not_certified : {k : ℕ} → IsLate q.plan.world q.tree Ms ks fs ps (last q) k → Certifies q c → ⊥
          not_certified (late_child v o) cert = o.not ((keep_all q is c ps Ms ks fs places are fin cert).nodes v o.is_node)
          not_certified (late_root lt) cert = let until = (keep_all q is c ps Ms ks fs places are fin cert).until in omega (arith, lt, until)

          kept : (v : ℕ) (M B : List ℕ) (m : Meaning) → AmountsTo q v M B m → StartInOrder q (slice_index ks) (finish_in fs) v m → KeepsNode q.plan.world q.tree ks fs v M
          kept v M B m a s = record {
            behind = s.from;
            order = λ n g.
                let method : a.method ≡ n = method_one q is v a.method n (method_is q is v a.node a.has_node a.method a.has_method) g in
                let P : Method → Type 0 = λ n. KeepsDirect ks fs (children_at q.tree.nodes v) M n.network.order in
                subst P method (direct_kept q is v M B m a (slice_index ks) (finish_in fs) (spans q is c ps Ms ks fs places are fin) s.order);
          }

          misfit : {k : ℕ} → IsLate q.plan.world q.tree Ms ks fs ps (last q) k → IsMisfit q c k
          misfit (late_root lt) = too_late (slice_index ks) (finish_in fs) times lt
          misfit (late_child v o) =
              let h = are.each v o.is_node in
              let M = matching_in Ms v in
              let (m, a) = meant q is v M h.binding (candidate_here q v M h.binding h.right.candidate) in
              out_of_order (slice_index ps v) v h.choice M h.binding m (slice_index ks) (finish_in fs) (places.each v o.is_node) h.part h.right.says a times
              (λ s. o.not (kept v M h.binding m a s))

      pub certified_by : HasLines q.tree c → KeepAll q.plan.world q.tree Ms ks fs (last q) → Certifies q c
      certified_by lines keep = certified q is c ps Ms ks fs places are fin lines keep

-- the same of a world and the states of its plan
module _ (w : World) (t : PlanTree) (p : states.Plan) (of_plan : p ≡ states.plan w t.actions) (Ms : List (List ℕ)) (ks fs : List ℕ) where
  world_is : w ≡ p.world
  world_is = sym (ap (λ (x : states.Plan). x.world) of_plan)

  last_is : length t.actions ≡ length p.actions
  last_is = sym (ap (λ (x : states.Plan). length x.actions) of_plan)

  pub late_in : (ps : List ℕ) (place : ℕ) → IsLate w t Ms ks fs ps (length t.actions) place → IsLate p.world t Ms ks fs ps (length p.actions) place
  late_in ps place late =
      let P : World → Type 0 = λ x. IsLate x t Ms ks fs ps (length t.actions) place in
      let Q : ℕ → Type 0 = λ n. IsLate p.world t Ms ks fs ps n place in
      subst Q last_is (subst P world_is late)

  pub keep_in : KeepAll w t Ms ks fs (length t.actions) → KeepAll p.world t Ms ks fs (length p.actions)
  keep_in keep =
      let P : World → Type 0 = λ x. KeepAll x t Ms ks fs (length t.actions) in
      let Q : ℕ → Type 0 = λ n. KeepAll p.world t Ms ks fs n in
      subst Q last_is (subst P world_is keep)
