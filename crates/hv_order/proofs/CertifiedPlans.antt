-- A plan for which there is a certificate is solved: by the choice of the certificate. Each of its
-- nodes has a candidate.
use Rattle.std.proofs.Common.{◌≡◌, ℕ, ◌<◌, ◌⊎◌, inl, inr, List, sym, subst, arith}
use Rattle.hv_lists.proofs.Numbers.{below_next}
use Rattle.hv_plan.specs.PlanTrees.{IsTreeIn, root_number}
use Rattle.hv_order.specs.Meanings.{Meaning}
use Rattle.hv_order.specs.Settings.{Setting, AmountsTo, IsMeaning, IsSolved, HasCandidate, HaveCandidates}
use Rattle.hv_order.specs.Certified.{Certifies, CertifiedPlans}
use Rattle.hv_order.proofs.NodeParts.{is_candidate_at}
use Rattle.hv_order.proofs.TreeLines.{below_root}
use Rattle.hv_certificate.specs.declared.certificate.Certificate.{Certificate}

pub certified_plans : CertifiedPlans
certified_plans q c is certified =
    record {
      choice = certified.choice;
      is_choice = record {
        of_root = record {
          matching = certified.matching (root_number q.tree);
          binding = certified.binding (root_number q.tree);
          amounts = certified.root;
        };
        of_lines = λ v reached. record {
          matching = certified.matching v;
          binding = certified.binding v;
          amounts = certified.nodes v (below_root q.plan.world q.tree is v reached);
        };
      };
      has_sequence = certified.sequence.found;
    }

-- what amounts to something is a candidate
has_one : (q : Setting) (v : ℕ) (M B : List ℕ) (c : Meaning) → AmountsTo q v M B c → HasCandidate q v
has_one q v M B c a = record {
  matching = M;
  binding = B;
  candidate =
      is_candidate_at q v M B
      (record { node = a.node; has_node = a.has_node; method = a.method; has_method = a.has_method; candidate = a.candidate });
}

-- each node of a plan that is solved has a candidate
pub solved_have : (q : Setting) → IsTreeIn q.plan.world q.tree → IsSolved q → HaveCandidates q
solved_have q is solved v lt = by_side (below_next v (root_number q.tree) (omega (arith, lt, is.is_tree.last)))
  where
    has : (u : ℕ) (c : Meaning) → IsMeaning q u c → HasCandidate q u
    has u c m = has_one q u m.matching m.binding c m.amounts

    by_side : (v < root_number q.tree) ⊎ (v ≡ root_number q.tree) → HasCandidate q v
    by_side (inl below) =
        has v (solved.choice.line v)
        (solved.is_choice.of_lines v (is.is_tree.shape.reached_lines v (omega (arith, below, is.is_tree.last))))
    by_side (inr root) = subst (HasCandidate q) (sym root) (has (root_number q.tree) solved.choice.root solved.is_choice.of_root)

pub have_candidates : (q : Setting) (c : Certificate) → IsTreeIn q.plan.world q.tree → Certifies q c → HaveCandidates q
have_candidates q c is certified = solved_have q is (certified_plans q c is certified)
