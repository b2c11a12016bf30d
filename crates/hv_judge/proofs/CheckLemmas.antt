-- What the check of a certificate answers of a plan in a world, and of three texts.
use Rattle.std.proofs.Common.{◌≡◌, ◌<◌, ◌≤◌, ◌+◌, ℕ, Bool, true, false, List, Option, Some, None, length, refl, sym, ◌∙◌, ap, subst, arith}
use Rattle.std.specs.Prelude.{drop, is_none, is_some, not, option_map, IfSome}
use Rattle.hv_lists.proofs.Pairs.{same_length}
use Rattle.hv_world.specs.Bindings.{GroundAction}
use Rattle.hv_world.specs.Worlds.{World}
use Rattle.hv_state.specs.Plans as states
use Rattle.hv_state.specs.Plans.{CanRun, GoalHolds, IsStop, StopsAt}
use Rattle.hv_state.specs.declared.trace.Stop.{Stop}
use Rattle.hv_state.specs.declared.trace.Stop.TheVariants as stops
use Rattle.hv_plan.specs.Values.{Plan}
use Rattle.hv_plan.specs.PlanTrees.{PlanTree, NodeIs, IsActionOf, IsNodeOf}
use Rattle.hv_plan.specs.Causes.{IsCause}
use Rattle.hv_plan.specs.declared.cause.Cause as trees
use Rattle.hv_match.specs.Candidates.{Tells}
use Rattle.hv_order.specs.Certified.{Certifies, CountsTo, line_numbers}
use Rattle.hv_order.specs.Misfits.{IsMisfit}
use Rattle.hv_order.specs.Settings.{setting}
use Rattle.hv_certificate.specs.declared.certificate.Certificate.{Certificate}
use Rattle.hv_answer.specs.declared.answer.Cause.{Cause}
use Rattle.hv_judge.specs.declared.not_solved.NotSolved.{NotSolved}
use Rattle.hv_judge.specs.declared.not_solved.NotSolved.TheVariants.{Rejected, Fails, Undecided, Memory}
use Rattle.hv_judge.specs.Causes.{IsCauseOf}
use Rattle.hv_judge.specs.Checked.{IsCheckFault, CountsFormulas, TellsLine, certified, no_plan, no_line, count_of}
use Rattle.hv_judge.specs.declared.checking.Recheck.{Recheck}
use Rattle.hv_judge.specs.Solutions.{HasTree, ReachesGoal, SolvesBy, run_of, judged_in}
use Rattle.hv_judge.specs.Verdicts.{HasVerdict}
use Rattle.hv_judge.specs.inside.Ends.{Ends}
use Rattle.hv_judge.specs.inside.CheckEnds.{check_end}
use Rattle.hv_judge.proofs.LawPlans.{LawsOfPlans, same_tree, is_solution, no_solution}

not_true : {P : Type 0} → false ≡ true → P
not_true e = absurd (let clash : false ≡ true = e in cc)

-- whether there is none, told by whether there is some
pub told_none : {A : Type 0} (o : Option A) (b : Bool) → is_some o ≡ not b → b ≡ is_none o
told_none None true e = refl
told_none None false e = cc
told_none (Some x) true e = cc
told_none (Some x) false e = refl

module _ (laws : LawsOfPlans) (w : World) (p : Plan) (c : Certificate) where
  -- no certificate solves a plan that fails
  pub fails : (k : Cause) → IsCauseOf w p 0 k → (b : Bool) → b ≡ false → Tells (SolvesBy w p c) b
  fails k cause b off = (
    (λ on. not_true (sym off ∙ on)),
    (λ s. absurd (no_solution laws w p 0 k cause (is_solution laws w p 0 c s))),
  )

  -- a plan has one tree, and so the answer is that of the order of its steps
  pub tells_solves : (t : PlanTree) (r : states.Plan) (b : Bool) → ReachesGoal w p t
      → r ≡ run_of w t → Tells (Certifies (setting t r true) c) b → Tells (SolvesBy w p c) b
  tells_solves t r b reaches ran tells = (
    (λ on.
        record {
          tree = t;
          reaches = reaches;
          certified = subst (λ x. Certifies (setting t x true) c) ran (tells.0 on);
        }),
    (λ s.
        let same : s.tree ≡ t = same_tree laws w p s.tree t s.reaches.run.tree reaches.run.tree in
        tells.1
        (subst (λ x. Certifies (setting t x true) c) (sym ran)
        (subst (λ u. Certifies (judged_in w u) c) same s.certified))),
  )

  -- a plan whose lines form no tree reaches no goal
  pub no_tree_reaches : (k : trees.Cause) → IsCause w p k → (t : PlanTree) → ReachesGoal w p t → ⊥
  no_tree_reaches k cause t r =
      laws.no_cause w p k.kind k.line r.run.tree.forms r.run.tree.fits cause.qualifies

  -- nor does one with an action that is not applicable
  pub stopped_reaches : (u : PlanTree) → HasTree w p u → (k : ℕ) → StopsAt (run_of w u) k
      → (t : PlanTree) → ReachesGoal w p t → ⊥
  stopped_reaches u tree k (inside, stops, before) t r =
      let same : t ≡ u = same_tree laws w p t u r.run.tree tree in
      stops (subst (λ x. CanRun (run_of w x)) same r.run.can_run k inside)

  -- nor one behind which the goal is false
  pub false_reaches : (u : PlanTree) → HasTree w p u → (GoalHolds (run_of w u) → ⊥)
      → (t : PlanTree) → ReachesGoal w p t → ⊥
  false_reaches u tree off t r =
      let same : t ≡ u = same_tree laws w p t u r.run.tree tree in
      off (subst (λ x. GoalHolds (run_of w x)) same r.goal)

  -- no line is told of such a plan
  pub no_line_told : (b : Bool) (o : Option ℕ) → b ≡ false → o ≡ None
      → ((t : PlanTree) → ReachesGoal w p t → ⊥) → TellsLine w p c b o
  no_line_told b o off none reaches =
      subst (λ x. TellsLine w p c x o) (sym off)
      (subst (λ x. TellsLine w p c false x) (sym none) (no_plan reaches))

  -- the line that does not fit is told, by its place in the order of nodes
  pub line_told : (t : PlanTree) (r : states.Plan) (o : Option ℕ) → ReachesGoal w p t → r ≡ run_of w t
      → IfSome o (IsMisfit (setting t r true) c) → (b : Bool) (line : Option ℕ) → b ≡ is_none o
      → line ≡ option_map (λ k. k + 2) o → TellsLine w p c b line
  line_told t r None reaches ran misfit b line off is =
      subst (λ x. TellsLine w p c x line) (sym off)
      (subst (λ x. TellsLine w p c true x) (sym is) certified)
  line_told t r (Some k) reaches ran misfit b line off is =
      subst (λ x. TellsLine w p c x line) (sym off)
      (subst (λ x. TellsLine w p c false x) (sym is)
      (no_line (k + 2) (record {
        tree = t;
        reaches = reaches;
        place = k;
        is_line = refl;
        misfit = subst (λ x. IsMisfit (setting t x true) c k) ran misfit;
      })))

-- a rejection is that of the judge
pub check_ends : (domain problem plan : List ℕ) (e : NotSolved)
    → Ends (HasVerdict domain problem plan 0) e → IsCheckFault domain problem plan (check_end e)
check_ends domain problem plan (Rejected w f) h = h
check_ends domain problem plan (Fails c) h = tt
check_ends domain problem plan (Undecided l) h = tt
check_ends domain problem plan Memory h = tt

-- the tree of a plan has its actions, and a node for each decomposition line
pub as_many_actions : (w : World) (p : Plan) (t : PlanTree) → HasTree w p t
    → length p.actions ≡ length t.actions
as_many_actions w p t tree = same_length (IsActionOf w) p.actions t.actions tree.is_tree.actions

pub as_many_lines : (w : World) (p : Plan) (t : PlanTree) → HasTree w p t
    → length p.decompositions ≡ length (line_numbers t)
as_many_lines w p t tree =
    same_length (λ d v. NodeIs t (IsNodeOf w t d) v) p.decompositions tree.is_tree.lines
    tree.is_tree.line_nodes
    ∙ sym (ap (λ xs. length (drop 1 xs)) tree.is_tree.order)

pub one_at_most : {A : Type 0} (o : Option A) → count_of o ≤ 1
one_at_most None = omega arith
one_at_most (Some x) = omega arith

-- where a run stops, by the actions of the tree
pub stops_at : (w : World) (gs hs : List GroundAction) (f : Stop) (k : ℕ) → gs ≡ hs
    → f ≡ stops.Inapplicable k → IsStop (states.plan w gs) f → StopsAt (states.plan w hs) k
stops_at w gs hs f k same is h =
    subst (λ xs. IsStop (states.plan w xs) (stops.Inapplicable k)) same
    (subst (IsStop (states.plan w gs)) is h)

-- on a no, what was counted has a bound
pub counts_no : (w : World) (p : Plan) (r : Recheck) → r.certified ≡ false
    → r.evaluated ≤ length p.actions + length p.decompositions + 1 → CountsFormulas w p r
counts_no w p r off h = record { within = h; whole = λ on. not_true (sym off ∙ on) }

-- the preconditions of actions up to the first that is not applicable
pub counts_run : (w : World) (p : Plan) (t : PlanTree) → HasTree w p t → (k : ℕ) (r : Recheck)
    → k < length t.actions → r.certified ≡ false → r.evaluated ≡ k + 1 → CountsFormulas w p r
counts_run w p t tree k r less off e =
    let same = as_many_actions w p t tree in
    counts_no w p r off (omega (arith, less, e, same))

-- those of all actions, and the goal
pub counts_goal : (w : World) (p : Plan) (t : PlanTree) → HasTree w p t → (r : Recheck)
    → r.certified ≡ false → r.evaluated ≡ length t.actions + count_of w.goal → CountsFormulas w p r
counts_goal w p t tree r off e =
    let same = as_many_actions w p t tree in
    let one = one_at_most w.goal in
    counts_no w p r off (omega (arith, e, same, one))

-- and those of the methods
pub counts_all : (w : World) (p : Plan) (t : PlanTree) → HasTree w p t → (b : Bool) (k n : ℕ)
    → CountsTo (length (line_numbers t)) b k → n ≡ length t.actions + count_of w.goal + k
    → CountsFormulas w p (record { certified = b; evaluated = n })
counts_all w p t tree b k n counts e =
    let actions = as_many_actions w p t tree in
    let lines = as_many_lines w p t tree in
    let one = one_at_most w.goal in
    let most = counts.within in
    record {
      within = omega (arith, e, actions, lines, one, most);
      whole = λ on.
          let all = counts.whole on in
          omega (arith, e, actions, lines, all);
    }

-- the sum of both counts is small
pub small_sum : (w : World) (p : Plan) (t : PlanTree) → HasTree w p t → (b : Bool) (k : ℕ)
    → CountsTo (length (line_numbers t)) b k
    → length p.actions + length p.decompositions < 4294967295
    → length t.actions + count_of w.goal + k < 4294967297
small_sum w p t tree b k counts small =
    let actions = as_many_actions w p t tree in
    let lines = as_many_lines w p t tree in
    let one = one_at_most w.goal in
    let most = counts.within in
    omega (arith, small, actions, lines, one, most)
