-- The steps by which a plan is judged in a world: for a cause it fails, or it passes and the next
-- step is asked.
use Rattle.std.proofs.Common.{◌≡◌, ◌<◌, inl, inr, ℕ, Bool, true, false, Option, Some, None, MatchOption, refl, sym, ◌∙◌, ap, subst, arith}
use Rattle.std.specs.List.{slice_get}
use Rattle.std.proofs.lemmas.Option.{slice_get_within}
use Rattle.hv_lists.proofs.Numbers.{Compared, less, equal, more, compare}
use Rattle.hv_world.specs.Worlds.{World, Method}
use Rattle.hv_state.specs.Plans.{CanRun, StopsAt, GoalHolds}
use Rattle.hv_plan.specs.Values.{Action, Plan}
use Rattle.hv_plan.specs.Shapes.{FormTree}
use Rattle.hv_plan.specs.Fits.{FitWorld}
use Rattle.hv_plan.specs.Causes.{Qualifies, IsCause}
use Rattle.hv_plan.specs.PlanTrees.{Node, PlanTree, IsTreeOf, root_number}
use Rattle.hv_plan.specs.declared.cause.Cause as trees
use Rattle.hv_plan.specs.declared.cause.CauseKind as tree_kinds
use Rattle.hv_match.specs.Candidates.{IsCandidate, IsCandidateAt, child_tasks, node_method, method_at}
use Rattle.hv_match.specs.Counts.{IsCount}
use Rattle.hv_order.specs.Meanings.{Meaning}
use Rattle.hv_order.specs.Settings.{setting, IsMeaning, IsSolved, HasCandidate, HaveCandidates, IsFirstWithout}
use Rattle.hv_order.specs.Certified.{Certifies, CertifiedPlans}
use Rattle.hv_certificate.specs.declared.certificate.Certificate.{Certificate}
use Rattle.hv_answer.specs.declared.answer.Verdict.{Verdict}
use Rattle.hv_answer.specs.declared.answer.Verdict.TheVariants.{Solves, Fails, Undecided, Rejected}
use Rattle.hv_answer.specs.declared.answer.Cause.{Cause}
use Rattle.hv_answer.specs.declared.answer.CauseKind.{CauseKind}
use Rattle.hv_answer.specs.declared.answer.CauseKind.TheVariants as causes
use Rattle.hv_judge.specs.Solutions.{HasTree, run_of, ReachesGoal, judged_in, judged_without, IsSolution, SolvesBy}
use Rattle.hv_answer.specs.Places.{cause_at, cause_nowhere}
use Rattle.hv_judge.specs.Causes.{tree_cause, IsCountWithin, IsCountAbove, IsWithinLimit, IsFirstAbove, IsCauseOf, by_tree, by_action, by_goal, by_binding, by_order, by_precondition}
use Rattle.hv_judge.specs.Verdicts.{IsVerdict}
use Rattle.hv_judge.proofs.LawSteps.{Turn, one_turn, Step, one_step, one_there, at_there}
use Rattle.hv_judge.proofs.LawPreconditions.{solved_without}

-- what is known of plans in a world: one tree or one cause, one count of a method, and that what
-- is certified is solved
pub record LawsOfPlans : Type 0 where
  pub one_tree : (w : World) (p : Plan) (t u : PlanTree) → FormTree p → IsTreeOf w p t
      → IsTreeOf w p u → t ≡ u
  pub no_cause : (w : World) (p : Plan) (k : tree_kinds.CauseKind) (l : ℕ) → FormTree p
      → FitWorld w p → Qualifies w p k l → ⊥
  pub one_cause : (w : World) (p : Plan) (c d : trees.Cause) → IsCause w p c → IsCause w p d → c ≡ d
  pub one_count : (w : World) (m : Method) (j k : ℕ) → IsCount w m j → IsCount w m k → j ≡ k
  pub certified : CertifiedPlans

-- in the order of nodes, the first that is bad is on this line, and those before it are good
record IsFirstNode (t : PlanTree) (Bad Good : ℕ → Type 0) (line : ℕ) : Type 0 where
  pub place : ℕ
  pub number : ℕ
  pub stands : slice_get t.order place ≡ Some number
  pub node : Node
  pub has_node : slice_get t.nodes number ≡ Some node
  pub bad : Bad number
  pub earlier : (i v : ℕ) → i < place → slice_get t.order i ≡ Some v → Good v
  pub on_line : node.line ≡ line

one_first : (t : PlanTree) (Bad Good : ℕ → Type 0) → ((v : ℕ) → Bad v → Good v → ⊥)
    → (line other : ℕ)
    → IsFirstNode t Bad Good line → IsFirstNode t Bad Good other → line ≡ other
one_first t Bad Good apart line other h g = at (compare h.place g.place) where
  at : Compared h.place g.place → line ≡ other
  at (less before) = absurd (apart h.number h.bad (g.earlier h.place h.number before h.stands))
  at (equal e) =
      let stands : slice_get t.order g.place ≡ Some h.number =
      subst (λ (i : ℕ). slice_get t.order i ≡ Some h.number) e h.stands in
      let number : h.number ≡ g.number =
      one_there (slice_get t.order g.place) h.number g.number stands g.stands in
      let has : slice_get t.nodes g.number ≡ Some h.node =
      subst (λ (i : ℕ). slice_get t.nodes i ≡ Some h.node) number h.has_node in
      let node : h.node ≡ g.node =
      one_there (slice_get t.nodes g.number) h.node g.node has g.has_node in
      sym h.on_line ∙ (ap (λ (n : Node). n.line) node ∙ g.on_line)
  at (more before) = absurd (apart g.number g.bad (h.earlier g.place g.number before g.stands))

-- lines that form no tree

abbrev pub IsUnformed : World → Plan → Verdict → Type 0
IsUnformed w p a = (c : trees.Cause) × IsCause w p c × (a ≡ Fails (tree_cause c))

module _ (laws : LawsOfPlans) (w : World) (p : Plan) where
  pub same_tree : (t u : PlanTree) → HasTree w p t → HasTree w p u → t ≡ u
  same_tree t u h g = laws.one_tree w p t u h.forms h.is_tree g.is_tree

  formed_or_unformed : (a : Verdict) (t : PlanTree) → IsUnformed w p a → HasTree w p t → ⊥
  formed_or_unformed a t (c, cause, is) h =
      laws.no_cause w p c.kind c.line h.forms h.fits cause.qualifies

  one_unformed : (a b : Verdict) → IsUnformed w p a → IsUnformed w p b → a ≡ b
  one_unformed a b (c, cause, is) (e, other, is') =
      is ∙ (ap (λ (x : trees.Cause). Fails (tree_cause x)) (laws.one_cause w p c e cause other)
      ∙ sym is')

-- an action that is not applicable

abbrev pub IsStopped : World → Plan → PlanTree → Verdict → Type 0
IsStopped w p t a =
    (k : ℕ) × (l : Action) × StopsAt (run_of w t) k × (slice_get p.actions k ≡ Some l)
    × (a ≡ Fails (cause_at causes.Inapplicable l.line))

module _ (w : World) (p : Plan) (t : PlanTree) where
  stopped_or_run : (a : Verdict) → IsStopped w p t a → CanRun (run_of w t) → ⊥
  stopped_or_run a (k, l, (within, stops, before), at, is) can = stops (can k within)

  one_stop : (j k : ℕ) → StopsAt (run_of w t) j → StopsAt (run_of w t) k → j ≡ k
  one_stop j k (within, stops, before) (within', stops', before') = at (compare j k) where
    at : Compared j k → j ≡ k
    at (less h) = absurd (stops (before' j h))
    at (equal e) = e
    at (more h) = absurd (stops' (before k h))

  one_stopped : (a b : Verdict) → IsStopped w p t a → IsStopped w p t b → a ≡ b
  one_stopped a b (k, l, stop, at, is) (k', l', stop', at', is') =
      let place : k ≡ k' = one_stop k k' stop stop' in
      let here : slice_get p.actions k' ≡ Some l =
      subst (λ (i : ℕ). slice_get p.actions i ≡ Some l) place at in
      let action : l ≡ l' = one_there (slice_get p.actions k') l l' here at' in
      is ∙ (ap (λ (x : Action). Fails (cause_at causes.Inapplicable x.line)) action ∙ sym is')

-- a node with too many candidates

abbrev pub IsTooMany : World → PlanTree → ℕ → Verdict → Type 0
IsTooMany w t limit a = (line : ℕ) × IsFirstAbove w t limit line × (a ≡ Undecided line)

module _ (laws : LawsOfPlans) (w : World) (t : PlanTree) (limit : ℕ) where
  one_count_of : (o : Option Method) (j k : ℕ) → MatchOption o ⊥ (λ m. IsCount w m j)
      → MatchOption o ⊥ (λ m. IsCount w m k) → j ≡ k
  one_count_of None j k h g = absurd h
  one_count_of (Some m) j k h g = laws.one_count w m j k h g

  above_or_within : (v : ℕ) → IsCountAbove w t limit v → IsCountWithin w t limit v → ⊥
  above_or_within v (j, is, above) (k, is', within) =
      let count : j ≡ k = one_count_of (method_at w t v) j k is is' in omega
      (arith, above, within, count)

  many_or_within : (a : Verdict) → IsTooMany w t limit a → IsWithinLimit w t limit → ⊥
  many_or_within a (line, first, is) within =
      above_or_within first.number first.above
      (within first.number (slice_get_within t.nodes first.number first.node first.has_node))

  first_above : (line : ℕ) → IsFirstAbove w t limit line
      → IsFirstNode t (IsCountAbove w t limit) (IsCountWithin w t limit) line
  first_above line h =
      record {
        place = h.place;
        number = h.number;
        stands = h.stands;
        node = h.node;
        has_node = h.has_node;
        bad = h.above;
        earlier = h.earlier;
        on_line = h.on_line;
      }

  one_too_many : (a b : Verdict) → IsTooMany w t limit a → IsTooMany w t limit b → a ≡ b
  one_too_many a b (line, first, is) (line', first', is') =
      let same_line : line ≡ line' =
      one_first t (IsCountAbove w t limit) (IsCountWithin w t limit) above_or_within line
      line'
      (first_above line first) (first_above line' first') in
      is ∙ (ap (λ (x : ℕ). Undecided x) same_line ∙ sym is')

-- a node without a candidate

abbrev pub IsUnbound : World → PlanTree → Verdict → Type 0
IsUnbound w t a =
    (line : ℕ) × IsFirstWithout (judged_in w t) line × (a ≡ Fails (cause_at causes.NoBinding line))

module _ (w : World) (t : PlanTree) where
  unbound_or_bound : (a : Verdict) → IsUnbound w t a → HaveCandidates (judged_in w t) → ⊥
  unbound_or_bound a (line, first, is) have =
      first.none (have first.number
      (slice_get_within t.nodes first.number first.node first.has_node))

  first_without : (line : ℕ) → IsFirstWithout (judged_in w t) line
      → IsFirstNode t (λ v. HasCandidate (judged_in w t) v → ⊥) (HasCandidate (judged_in w t)) line
  first_without line h =
      record {
        place = h.place;
        number = h.number;
        stands = h.stands;
        node = h.node;
        has_node = h.has_node;
        bad = h.none;
        earlier = h.earlier;
        on_line = h.on_line;
      }

  one_unbound : (a b : Verdict) → IsUnbound w t a → IsUnbound w t b → a ≡ b
  one_unbound a b (line, first, is) (line', first', is') =
      let same_line : line ≡ line' =
      one_first t (λ v. HasCandidate (judged_in w t) v → ⊥) (HasCandidate (judged_in w t))
      (λ v none some. none some) line line'
      (first_without line first) (first_without line' first') in
      is ∙ (ap (λ (x : ℕ). Fails (cause_at causes.NoBinding x)) same_line ∙ sym is')

  -- where a plan is solved, with preconditions or without, each node has a candidate
  meaning_has : (b : Bool) (v : ℕ) (c : Meaning) → IsMeaning (setting t (run_of w t) b) v c
      → HasCandidate (judged_in w t) v
  meaning_has b v c m =
      let a = m.amounts in
      let candidate : IsCandidateAt w t v m.matching m.binding =
      at_there (λ (n : Node). MatchOption (node_method w n) ⊥
      (λ x. IsCandidate w x n.objects (child_tasks t n) m.matching m.binding))
      (slice_get t.nodes v) a.node a.has_node
      (at_there (λ (x : Method). IsCandidate w x a.node.objects (child_tasks t a.node)
      m.matching m.binding)
      (node_method w a.node) a.method a.has_method a.candidate) in
      record { matching = m.matching; binding = m.binding; candidate = candidate }

  pub solved_have : (p : Plan) (b : Bool) → IsTreeOf w p t → IsSolved (setting t (run_of w t) b)
      → HaveCandidates (judged_in w t)
  solved_have p b tree solved v within = at (compare v tree.root) where
    at : Compared v tree.root → HasCandidate (judged_in w t) v
    at (less h) =
        meaning_has b v (solved.choice.line v)
        (solved.is_choice.of_lines v (tree.shape.reached_lines v h))
    at (equal e) =
        let root : root_number t ≡ v = let all = tree.last in omega (arith, all, e) in
        subst (λ (u : ℕ). HasCandidate (judged_in w t) u) root
        (meaning_has b (root_number t) solved.choice.root solved.is_choice.of_root)
    at (more h) = let all = tree.last in absurd (omega (arith, all, h, within))

-- what does not hold, for a cause without a line

abbrev pub IsFailure : Type 0 → CauseKind → Verdict → Type 0
IsFailure Holds kind a = (Holds → ⊥) × (a ≡ Fails (cause_nowhere kind))

abbrev pub Asks : Type 0 → CauseKind → (Verdict → Type 0) → Verdict → Type 0
Asks Holds kind Rest = Turn Holds (IsFailure Holds kind) Rest

one_asked : (Holds : Type 0) (kind : CauseKind) (Rest : Verdict → Type 0)
    → ((a b : Verdict) → Rest a → Rest b → a ≡ b)
    → (a b : Verdict) → Asks Holds kind Rest a → Asks Holds kind Rest b → a ≡ b
one_asked Holds kind Rest one =
    one_turn Holds (IsFailure Holds kind) Rest (λ a h holds. h.0 holds) (λ a b h g. h.1 ∙ sym g.1)
    one

-- all of these, one after another

abbrev pub IsSolving : Verdict → Type 0
IsSolving a = a ≡ Solves

abbrev pub AtPreconditions : World → PlanTree → Verdict → Type 0
AtPreconditions w t = Asks (IsSolved (judged_in w t)) causes.PreconditionUnplaced IsSolving

abbrev pub AtOrder : World → PlanTree → Verdict → Type 0
AtOrder w t = Asks (IsSolved (judged_without w t)) causes.OrderBroken (AtPreconditions w t)

abbrev pub AtCandidates : World → PlanTree → Verdict → Type 0
AtCandidates w t = Turn (HaveCandidates (judged_in w t)) (IsUnbound w t) (AtOrder w t)

abbrev pub AtLimit : World → ℕ → PlanTree → Verdict → Type 0
AtLimit w limit t = Turn (IsWithinLimit w t limit) (IsTooMany w t limit) (AtCandidates w t)

abbrev pub AtGoal : World → ℕ → PlanTree → Verdict → Type 0
AtGoal w limit t = Asks (GoalHolds (run_of w t)) causes.GoalFalse (AtLimit w limit t)

abbrev pub AtActions : World → Plan → ℕ → PlanTree → Verdict → Type 0
AtActions w p limit t = Turn (CanRun (run_of w t)) (IsStopped w p t) (AtGoal w limit t)

abbrev pub AtTree : World → Plan → ℕ → Verdict → Type 0
AtTree w p limit = Step PlanTree (HasTree w p) (IsUnformed w p) (AtActions w p limit)

module _ (laws : LawsOfPlans) (w : World) (p : Plan) (limit : ℕ) where
  solving_one : (a b : Verdict) → IsSolving a → IsSolving b → a ≡ b
  solving_one a b is is' = is ∙ sym is'

  order_one : (t : PlanTree) (a b : Verdict) → AtOrder w t a → AtOrder w t b → a ≡ b
  order_one t =
      one_asked (IsSolved (judged_without w t)) causes.OrderBroken (AtPreconditions w t)
      (one_asked (IsSolved (judged_in w t)) causes.PreconditionUnplaced IsSolving solving_one)

  candidates_one : (t : PlanTree) (a b : Verdict) → AtCandidates w t a → AtCandidates w t b
      → a ≡ b
  candidates_one t =
      one_turn (HaveCandidates (judged_in w t)) (IsUnbound w t) (AtOrder w t)
      (unbound_or_bound w t) (one_unbound w t) (order_one t)

  limit_one : (t : PlanTree) (a b : Verdict) → AtLimit w limit t a → AtLimit w limit t b
      → a ≡ b
  limit_one t =
      one_turn (IsWithinLimit w t limit) (IsTooMany w t limit) (AtCandidates w t)
      (many_or_within laws w t limit)
      (one_too_many laws w t limit) (candidates_one t)

  actions_one : (t : PlanTree) (a b : Verdict) → AtActions w p limit t a → AtActions w p limit t b
      → a ≡ b
  actions_one t =
      one_turn (CanRun (run_of w t)) (IsStopped w p t) (AtGoal w limit t) (stopped_or_run w p t)
      (one_stopped w p t)
      (one_asked (GoalHolds (run_of w t)) causes.GoalFalse (AtLimit w limit t) (limit_one t))

  pub tree_one : (a b : Verdict) → AtTree w p limit a → AtTree w p limit b → a ≡ b
  tree_one =
      one_step PlanTree (HasTree w p) (IsUnformed w p) (AtActions w p limit) (same_tree laws w p)
      (formed_or_unformed laws w p)
      (one_unformed laws w p) (λ t a b has. actions_one t a b)

  -- each verdict is that of one of these steps

  at_limit : (t : PlanTree) (a : Verdict) → ReachesGoal w p t → AtLimit w limit t a
      → AtTree w p limit a
  at_limit t a h rest = inr (t, h.run.tree, inr (h.run.can_run, inr (h.goal, rest)))

  is_certified : (t : PlanTree) (c : Certificate) → HasTree w p t → Certifies (judged_in w t) c
      → IsSolved (judged_in w t)
  is_certified t c h =
      laws.certified (judged_in w t) c (record {
        plan = p;
        forms = h.forms;
        fits = h.fits;
        is_tree = h.is_tree;
      })

  pub is_solution : (c : Certificate) → SolvesBy w p c → IsSolution w p
  is_solution c s =
      record {
        tree = s.tree;
        reaches = s.reaches;
        solved = is_certified s.tree c s.reaches.run.tree s.certified;
      }

  pub cause_step : (c : Cause) → IsCauseOf w p limit c → AtTree w p limit (Fails c)
  cause_step _ (by_tree c is) = inl (c, is, refl)
  cause_step _ (by_action t k l tree stops at) = inr (t, tree, inl (k, l, stops, at, refl))
  cause_step _ (by_goal t run none) = inr (t, run.tree, inr (run.can_run, inl (none, refl)))
  cause_step _ (by_binding t line reaches within first) =
      at_limit t (Fails (cause_at causes.NoBinding line)) reaches
      (inr (within, inl (line, first, refl)))
  cause_step _ (by_order t reaches within have none) =
      at_limit t (Fails (cause_nowhere causes.OrderBroken)) reaches
      (inr (within, inr (have, inl (none, refl))))
  cause_step _ (by_precondition t reaches within solved none) =
      let have : HaveCandidates (judged_in w t) =
      solved_have w t p false reaches.run.tree.is_tree solved in
      at_limit t (Fails (cause_nowhere causes.PreconditionUnplaced)) reaches
      (inr (within, inr (have, inr (solved, inl (none, refl)))))

  pub verdict_step : (a : Verdict) → IsVerdict limit a w p → AtTree w p limit a
  verdict_step Solves (s, within) =
      let without : IsSolved (judged_without w s.tree) =
      solved_without s.tree (run_of w s.tree) s.solved in
      let have : HaveCandidates (judged_in w s.tree) =
      solved_have w s.tree p true s.reaches.run.tree.is_tree s.solved in
      at_limit s.tree Solves s.reaches
      (inr (within, inr (have, inr (without, inr (s.solved, refl)))))
  verdict_step (Fails c) is = cause_step c is
  verdict_step (Undecided line) (t, reaches, first) =
      at_limit t (Undecided line) reaches (inl (line, first, refl))
  verdict_step (Rejected which fault) h = absurd h

  -- a solution solves the plan's one tree
  solved_in : (t : PlanTree) → ReachesGoal w p t → IsSolution w p → IsSolved (judged_in w t)
  solved_in t reaches s =
      subst (λ (x : PlanTree). IsSolved (judged_in w x))
      (same_tree laws w p s.tree t s.reaches.run.tree reaches.run.tree) s.solved

  -- a plan that fails is no solution

  pub no_solution : (c : Cause) → IsCauseOf w p limit c → IsSolution w p → ⊥
  no_solution _ (by_tree c is) s =
      let tree = s.reaches.run.tree in laws.no_cause w p c.kind c.line tree.forms tree.fits
      is.qualifies
  no_solution _ (by_action t k l tree (within, stops, before) at) s =
      let same_as : s.tree ≡ t = same_tree laws w p s.tree t s.reaches.run.tree tree in
      let can : CanRun (run_of w t) =
      subst (λ (x : PlanTree). CanRun (run_of w x)) same_as s.reaches.run.can_run in
      stops (can k within)
  no_solution _ (by_goal t run none) s =
      let same_as : s.tree ≡ t = same_tree laws w p s.tree t s.reaches.run.tree run.tree in
      none (subst (λ (x : PlanTree). GoalHolds (run_of w x)) same_as s.reaches.goal)
  no_solution _ (by_binding t line reaches within first) s =
      let solved : IsSolved (judged_in w t) = solved_in t reaches s in
      unbound_or_bound w t (Fails (cause_at causes.NoBinding line)) (line, first, refl)
      (solved_have w t p true reaches.run.tree.is_tree solved)
  no_solution _ (by_order t reaches within have none) s =
      none (solved_without t (run_of w t) (solved_in t reaches s))
  no_solution _ (by_precondition t reaches within solved none) s = none (solved_in t reaches s)
