-- What the judge answers of a plan in a world, from what its parts find.
use Rattle.std.proofs.Common.{◌≡◌, ◌<◌, ◌↔◌, ℕ, Bool, List, true, false, IsTrue, IfOk, IfErr, Result, Ok, Err, Option, None, Some, length, slice_get, sym, subst, ap, ◌∙◌}
use Rattle.hv_lists.proofs.Places.{map_some, member_at}
use Rattle.hv_lists.proofs.Pairs.{same_length}
use Rattle.hv_world.specs.Worlds.{World}
use Rattle.hv_world.specs.Bindings.{GroundAction}
use Rattle.hv_state.specs.Plans as states
use Rattle.hv_state.specs.Plans.{GoalHolds, IsStop, CanRun}
use Rattle.hv_state.specs.declared.trace.Stop.{Stop}
use Rattle.hv_state.specs.declared.trace.Stop.TheVariants as stops
use Rattle.hv_plan.specs.Values.{Action, Plan}
use Rattle.hv_plan.specs.Causes.{IsTreeFault}
use Rattle.hv_plan.specs.Shapes.{FormTree}
use Rattle.hv_plan.specs.Fits.{FitWorld}
use Rattle.hv_plan.specs.PlanTrees.{PlanTree, IsTreeOf, IsTreeIn, IsActionOf}
use Rattle.hv_plan.specs.BuiltTrees.{tree_view}
use Rattle.hv_plan.specs.declared.tree.Tree.{Tree}
use Rattle.hv_plan.specs.declared.cause.TreeFault.{TreeFault}
use Rattle.hv_plan.specs.declared.cause.TreeFault.TheVariants as trees
use Rattle.hv_order.specs.Certified.{Certifies, IsUnsolvedBy}
use Rattle.hv_order.specs.Settings.{IsSolved}
use Rattle.hv_certificate.specs.declared.certificate.Certificate.{Certificate}
use Rattle.hv_order.specs.declared.solution.Unsolved.{Unsolved}
use Rattle.hv_order.specs.declared.solution.Unsolved.TheVariants as unsolved
use Rattle.hv_answer.specs.declared.answer.Verdict.TheVariants as verdicts
use Rattle.hv_answer.specs.declared.answer.CauseKind.TheVariants as causes
use Rattle.hv_judge.specs.declared.not_solved.NotSolved.{NotSolved}
use Rattle.hv_judge.specs.Solutions.{HasTree, IsRun, ReachesGoal, SolvesBy, run_of, judged_in}
use Rattle.hv_answer.specs.Places.{cause_nowhere}
use Rattle.hv_judge.specs.Causes.{IsCauseOf, by_tree, by_action, by_goal, by_binding, by_order, by_precondition, IsWithinLimit}
use Rattle.hv_judge.specs.Verdicts.{IsVerdict}
use Rattle.hv_judge.specs.inside.Ends.{Ends, Explains, tree_end, run_end, unsolved_end, IsEndInOrder}

-- the tree that was built is the plan's
has_tree : (w : World) (p : Plan) (t : PlanTree)
    → FormTree p × FitWorld w p × IsTreeOf w p t → HasTree w p t
has_tree w p t (forms, fits, is_tree) = record { forms = forms; fits = fits; is_tree = is_tree }

pub has_trees : {E : Type 0} (w : World) (p : Plan) (r : Result Tree E)
    → IfOk r (λ t. FormTree p × FitWorld w p × IsTreeOf w p (tree_view t))
    → IfOk r (λ t. HasTree w p (tree_view t))
has_trees w p (Ok t) h = has_tree w p (tree_view t) h
has_trees w p (Err e) h = tt

-- it is a tree of the world
pub tree_in : (w : World) (p : Plan) (t : PlanTree) → HasTree w p t → IsTreeIn w t
tree_in w p t h = record { plan = p; forms = h.forms; fits = h.fits; is_tree = h.is_tree }

-- a plan whose lines form no tree fails for that cause
pub no_tree : (w : World) (p : Plan) (limit : ℕ) (f : TreeFault)
    → IsTreeFault w p f → Ends (λ v. IsVerdict limit v w p) (tree_end f)
no_tree w p limit (trees.Cause c) h = by_tree c h
no_tree w p limit trees.Memory h = tt

-- each action of the tree has its line
pub action_line : (w : World) (p : Plan) (t : PlanTree) (k : ℕ) → HasTree w p t
    → k < length t.actions → (a : Action) × (slice_get p.actions k ≡ Some a)
action_line w p t k tree within =
    member_at p.actions k
    (subst (λ n. k < n) (sym (same_length (IsActionOf w) p.actions t.actions tree.is_tree.actions)) within)

-- a plan with an action that is not applicable fails at the line of the first
pub no_run : (w : World) (p : Plan) (t : PlanTree) (limit : ℕ) (f : Stop) → HasTree w p t
    → IsStop (run_of w t) f → Ends (λ v. IsVerdict limit v w p) (run_end t.action_lines f)
no_run w p t limit (stops.Inapplicable k) tree h =
    let line = action_line w p t k tree h.0 in
    subst (λ o. IsCauseOf w p limit (record { kind = causes.Inapplicable; line = o }))
    (sym (ap (λ ls. slice_get ls k) tree.is_tree.action_lines ∙ map_some (λ a. a.line) p.actions k line.0 line.1))
    (by_action t k line.0 tree h line.1)
no_run w p t limit stops.Memory tree h = tt

-- a plan without a solution fails for the reason that is told
pub no_solution : (w : World) (t : PlanTree) (u : Unsolved)
    → IsUnsolvedBy (judged_in w t) u → IsEndInOrder w t (unsolved_end u)
no_solution w t (unsolved.NoBinding line) h =
    λ p limit reaches within. by_binding t line reaches within h
no_solution w t unsolved.OrderBroken (all, none) =
    λ p limit reaches within. by_order t reaches within all none
no_solution w t unsolved.PreconditionUnplaced (all, without, none) =
    λ p limit reaches within. by_precondition t reaches within without none
no_solution w t unsolved.Memory h = λ p limit reaches within. tt

not_both : (b : Bool) → b ≡ true → b ≡ false → ⊥
not_both b e f = cc

-- the plan that was run is that of the tree
module _ (w : World) (p : Plan) (t : PlanTree) (limit : ℕ) (r : states.Plan) (gs : List GroundAction)
    (tree : HasTree w p t) (same : gs ≡ t.actions) (ran : r ≡ states.plan w gs)
    (can_run : CanRun (states.plan w gs)) (b : Bool) (tells : IsTrue b ↔ GoalHolds r) where
  is_run : IsRun w p t
  is_run = record { tree = tree; can_run = subst (λ xs. CanRun (states.plan w xs)) same can_run }

  pub run_is : r ≡ run_of w t
  run_is = ran ∙ ap (states.plan w) same

  -- the goal is false
  pub goal_false : b ≡ false → GoalHolds (run_of w t) → ⊥
  goal_false f g = not_both b (tells.1 (subst GoalHolds (sym run_is) g)) f

  pub no_goal : b ≡ false → IsCauseOf w p limit (cause_nowhere causes.GoalFalse)
  no_goal f = by_goal t is_run (goal_false f)

  -- it is true
  pub reaches_goal : b ≡ true → ReachesGoal w p t
  reaches_goal e = record { run = is_run; goal = subst GoalHolds run_is (tells.0 e) }

-- what is found of the order, where the goal is reached and no count is above the limit
module _ (w : World) (p : Plan) (t : PlanTree) (limit : ℕ) (reaches : ReachesGoal w p t)
    (within : IsWithinLimit w t limit) where
  pub solves : (r : Result (Option Certificate) NotSolved) → IfOk r (λ o. IsSolved (judged_in w t))
      → IfOk r (λ o. IsVerdict limit verdicts.Solves w p)
  solves (Ok o) h = (record { tree = t; reaches = reaches; solved = h }, within)
  solves (Err e) h = tt

  solved_by : (b : Bool) (o : Option Certificate) → Explains b (Certifies (judged_in w t)) o
      → Explains b (SolvesBy w p) o
  solved_by true None h = h
  solved_by true (Some c) h = record { tree = t; reaches = reaches; certified = h }
  solved_by false o h = tt

  pub explains : (b : Bool) (r : Result (Option Certificate) NotSolved)
      → IfOk r (Explains b (Certifies (judged_in w t))) → IfOk r (Explains b (SolvesBy w p))
  explains b (Ok o) h = solved_by b o h
  explains b (Err e) h = tt

  pub not_solved : (r : Result (Option Certificate) NotSolved) → IfErr r (IsEndInOrder w t)
      → IfErr r (Ends (λ v. IsVerdict limit v w p))
  not_solved (Ok o) h = tt
  not_solved (Err e) h = h p limit reaches within
