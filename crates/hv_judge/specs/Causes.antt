-- Why a plan fails: each cause is read where none before it applies.
use Rattle.std.specs.Prelude.{◌≡◌, ◌<◌, ◌≤◌, ℕ, Some, length, slice_get}
use Rattle.hv_world.specs.Worlds.{World}
use Rattle.hv_state.specs.Plans.{GoalHolds, StopsAt}
use Rattle.hv_plan.specs.Values.{Action, Plan}
use Rattle.hv_plan.specs.Causes.{IsCause}
use Rattle.hv_plan.specs.PlanTrees.{Node, PlanTree}
use Rattle.hv_plan.specs.declared.cause.Cause as trees
use Rattle.hv_match.specs.Counts.{CountIsAt}
use Rattle.hv_order.specs.Settings.{HaveCandidates, IsFirstWithout, IsSolved}
use Rattle.hv_answer.specs.declared.answer.Cause.{Cause}
use Rattle.hv_answer.specs.declared.answer.CauseKind.TheVariants as causes
use Rattle.hv_answer.specs.Places.{cause_at, cause_nowhere}
use Rattle.hv_judge.specs.Solutions.{HasTree, run_of, IsRun, ReachesGoal, judged_in, judged_without}

-- the cause for which the lines of a plan form no tree that fits the world, as one of the judge's
abbrev pub tree_cause : trees.Cause → Cause
tree_cause c = cause_at (causes.Tree c.kind) c.line

-- the count of a node is at most the limit, and is above it
abbrev pub IsCountWithin : World → PlanTree → ℕ → ℕ → Type 0
IsCountWithin w t limit v = CountIsAt w t v (λ k. k ≤ limit)

abbrev pub IsCountAbove : World → PlanTree → ℕ → ℕ → Type 0
IsCountAbove w t limit v = CountIsAt w t v (λ k. limit < k)

-- no node has a count above the limit
abbrev pub IsWithinLimit : World → PlanTree → ℕ → Type 0
IsWithinLimit w t limit = (v : ℕ) → v < length t.nodes → IsCountWithin w t limit v

-- in the order of nodes, which begins with the root line and goes on by the text, the first node
-- whose count is above the limit is the one of this line
pub record IsFirstAbove (w : World) (t : PlanTree) (limit line : ℕ) : Type 0 where
  pub place : ℕ
  pub number : ℕ
  pub stands : slice_get t.order place ≡ Some number
  pub node : Node
  pub has_node : slice_get t.nodes number ≡ Some node
  pub above : IsCountAbove w t limit number
  pub earlier : (i v : ℕ) → i < place → slice_get t.order i ≡ Some v → IsCountWithin w t limit v
  pub on_line : node.line ≡ line

-- Why a plan fails:
--     by_tree      its lines form no tree that fits the world
--     by_action      an action is not applicable: the first one, at its line
--     by_goal      the goal is false behind the last action
--     by_binding      a node has no candidate: the first one, at its line
--     by_order      there is no sequence, not even with each method's precondition taken as true
--     by_precondition      there is one so, but none with the methods' preconditions
-- The last three are read only where no count is above the limit
pub data IsCauseOf (w : World) (p : Plan) (limit : ℕ) : Cause → Type 0 where
  by_tree : (c : trees.Cause) → IsCause w p c → IsCauseOf w p limit (tree_cause c)
  by_action : (t : PlanTree) (k : ℕ) (a : Action) → HasTree w p t → StopsAt (run_of w t) k
      → slice_get p.actions k ≡ Some a → IsCauseOf w p limit (cause_at causes.Inapplicable a.line)
  by_goal : (t : PlanTree) → IsRun w p t → (GoalHolds (run_of w t) → ⊥)
      → IsCauseOf w p limit (cause_nowhere causes.GoalFalse)
  by_binding : (t : PlanTree) (line : ℕ) → ReachesGoal w p t → IsWithinLimit w t limit
      → IsFirstWithout (judged_in w t) line → IsCauseOf w p limit (cause_at causes.NoBinding line)
  by_order : (t : PlanTree) → ReachesGoal w p t → IsWithinLimit w t limit
      → HaveCandidates (judged_in w t) → (IsSolved (judged_without w t) → ⊥)
      → IsCauseOf w p limit (cause_nowhere causes.OrderBroken)
  by_precondition : (t : PlanTree) → ReachesGoal w p t → IsWithinLimit w t limit
      → IsSolved (judged_without w t) → (IsSolved (judged_in w t) → ⊥)
      → IsCauseOf w p limit (cause_nowhere causes.PreconditionUnplaced)
