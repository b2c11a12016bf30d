-- Atoms of which nothing is asked are possible.
use Rattle.std.proofs.Common.{◌≡◌, ℕ, List, [], ◌∷◌, true, Option, Some, None, refl, slice_get, MatchOption}
use Rattle.std.specs.Prelude.{option_and_then}
use Rattle.hv_world.specs.Worlds.{World, Method}
use Rattle.hv_state.specs.Needed.{needed}
use Rattle.hv_plan.specs.PlanTrees.{Node, PlanTree}
use Rattle.hv_match.specs.Candidates.{IsCandidate, IsCandidateAt, IsPossibleAt, child_tasks, node_method}
use Rattle.hv_world.specs.Values.{Atom}
use Rattle.hv_match.specs.Possible.{are_possible}

pub unasked : (B : List ℕ) (as' : List Atom) → are_possible None B as' ≡ true
unasked B [] = refl
unasked B (a ∷ as') = unasked B as'

-- so is each candidate of a node
pub unasked_at : (w : World) (t : PlanTree) (v : ℕ) (M B : List ℕ) → IsCandidateAt w t v M B → IsPossibleAt w t v None B
unasked_at w t v M B is = by (slice_get t.nodes v) is
  where
    by_method : (n : Node) (o : Option Method) → MatchOption o ⊥ (λ m. IsCandidate w m n.objects (child_tasks t n) M B) → MatchOption o ⊥ (λ m. are_possible None B (needed m.precondition) ≡ true)
    by_method n None h = absurd h
    by_method n (Some m) h = unasked B (needed m.precondition)

    by : (o : Option Node) → MatchOption o ⊥ (λ n. MatchOption (node_method w n) ⊥ (λ m. IsCandidate w m n.objects (child_tasks t n) M B))
        → MatchOption (option_and_then (node_method w) o) ⊥ (λ m. are_possible None B (needed m.precondition) ≡ true)
    by None h = absurd h
    by (Some n) h = by_method n (node_method w n) h
