-- The first node without a candidate, in the order of nodes.
use Rattle.std.proofs.Common.{◌≡◌, ◌≢◌, ◌↔◌, ℕ, ◌<◌, ◌≤◌, List, [], ◌∷◌, Bool, true, false, Option, Some, None, length, slice_get, refl, sym, ap, ◌∙◌, subst, arith, Contains, MatchOption, IsTrue}
use Rattle.std.specs.Prelude.{MatchBool}
use Rattle.hv_lists.proofs.Contained.{contains_first}
use Rattle.hv_world.specs.Worlds.{World}
use Rattle.hv_plan.specs.PlanTrees.{Node, PlanTree, NodeIs, IsTreeIn}
use Rattle.hv_match.specs.Candidates.{Listing, HasAllAt, IsCandidateAt, IsPossibleAt}
use Rattle.hv_match.proofs.Cited.{unasked_at}
use Rattle.hv_order.specs.Settings.{Setting, HasCandidate, HaveCandidates, IsFirstWithout}
use Rattle.hv_order.specs.inside.Writings.{HasOne, IsSettingOver}
use Rattle.std.proofs.lemmas.Option.{slice_get_within}
use Rattle.hv_order.proofs.TreeLines.{place_of, as_many_in_order}

-- whether a candidate is to come says whether there is one
some_of : (w : World) (t : PlanTree) (v : ℕ) (coming : List (List ℕ × List ℕ))
    → ((M B : List ℕ) → Contains coming (M, B) ↔ (IsCandidateAt w t v M B × IsPossibleAt w t v None B)) → coming ≢ [] → HasOne w t v
some_of w t v [] exact some = absurd (some refl)
some_of w t v (p ∷ ps) exact some = (p.0, p.1, ((exact p.0 p.1).0 (contains_first p ps)).0)

none_of : (w : World) (t : PlanTree) (v : ℕ) (coming : List (List ℕ × List ℕ))
    → ((M B : List ℕ) → Contains coming (M, B) ↔ (IsCandidateAt w t v M B × IsPossibleAt w t v None B)) → coming ≡ [] → HasOne w t v → ⊥
none_of w t v coming exact none has =
    let c : Contains coming (has.0, has.1) = (exact has.0 has.1).1 (has.2, unasked_at w t v has.0 has.1 has.2) in
    let l : length coming ≡ 0 = ap length none in
    let lt : c.0 < length coming = c.1 in
    omega (arith, l, lt)

pub tells : (w : World) (t : PlanTree) (v : ℕ) (l l' : Listing) (b : Bool) → HasAllAt w t v None l → l' ≡ l
    → MatchBool b (l'.coming ≢ []) (l'.coming ≡ []) → IsTrue b ↔ HasOne w t v
tells w t v l l' true exact same some =
    let there : l.coming ≢ [] = λ e. some (ap (λ x. x.coming) same ∙ e) in
    (λ yes. some_of w t v l.coming exact there, λ has. refl)
tells w t v l l' false exact same none =
    let there : l.coming ≡ [] = sym (ap (λ x. x.coming) same) ∙ none in
    (λ yes. absurd (let f : false ≡ true = yes in cc), λ has. absurd (none_of w t v l.coming exact there has))

has_in : (w : World) (t : PlanTree) (q : Setting) (v : ℕ) → IsSettingOver w t q → HasOne w t v → HasCandidate q v
has_in w t q v over has =
    let is : IsCandidateAt q.plan.world q.tree v has.0 has.1 = rw (over.0, over.1) has.2 in
    record { matching = has.0; binding = has.1; candidate = is }

has_out : (w : World) (t : PlanTree) (q : Setting) (v : ℕ) → IsSettingOver w t q → HasCandidate q v → HasOne w t v
has_out w t q v over has =
    let is : IsCandidateAt w t v has.matching has.binding = rw (← over.0, ← over.1) has.candidate in
    (has.matching, has.binding, is)

-- where all nodes before it have candidates and this one has none, it is the first without
pub first_is : (w : World) (t : PlanTree) (k v line : ℕ) → slice_get t.order k ≡ Some v
    → ((i u : ℕ) → i < k → slice_get t.order i ≡ Some u → HasOne w t u) → (HasOne w t v → ⊥) → NodeIs t (λ n. n.line ≡ line) v
    → (q : Setting) → IsSettingOver w t q → IsFirstWithout q line
first_is w t k v line at earlier none on_line q over = by (slice_get t.nodes v) refl on_line
  where
    by : (n : Option Node) → slice_get t.nodes v ≡ n → MatchOption n ⊥ (λ n. n.line ≡ line) → IsFirstWithout q line
    by None e is = absurd is
    by (Some n) e is =
        let tree = over.1 in
        let order : slice_get q.tree.order k ≡ Some v = rw tree at in
        let node : slice_get q.tree.nodes v ≡ Some n = rw tree e in
        record {
          place = k;
          number = v;
          stands = order;
          node = n;
          has_node = node;
          none = λ has. none (has_out w t q v over has);
          earlier = λ i u lt f. has_in w t q u over (earlier i u lt (let P : PlanTree → Type 0 = λ x. slice_get x.order i ≡ Some u in subst P tree f));
          on_line = is;
        }

-- where all nodes in their order have candidates, all nodes have
pub all_have : (w : World) (t : PlanTree) → IsTreeIn w t → (n : ℕ) → length t.nodes ≤ n
    → ((i u : ℕ) → i < n → slice_get t.order i ≡ Some u → HasOne w t u) → (q : Setting) → IsSettingOver w t q → HaveCandidates q
all_have w t is n le each q over v lt =
    let here : v < length t.nodes = let P : PlanTree → Type 0 = λ x. v < length x.nodes in subst P over.1 lt in
    let (k, at) = place_of w t is v here in
    has_in w t q v over (each k v (within k at) at)
  where
    within : (k : ℕ) → slice_get t.order k ≡ Some v → k < n
    within k at = let a = slice_get_within t.order k v at in let b = as_many_in_order w t is in omega (arith, a, b, le)
