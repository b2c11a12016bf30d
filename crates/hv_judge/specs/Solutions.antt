-- Solutions: the tree of a plan, the states that its actions pass, and the order of its steps.
use Rattle.std.specs.Prelude.{true, false}
use Rattle.hv_world.specs.Worlds.{World}
use Rattle.hv_state.specs.Plans as states
use Rattle.hv_state.specs.Plans.{CanRun, GoalHolds}
use Rattle.hv_plan.specs.Values.{Plan}
use Rattle.hv_plan.specs.Shapes.{FormTree}
use Rattle.hv_plan.specs.Fits.{FitWorld}
use Rattle.hv_plan.specs.PlanTrees.{PlanTree, IsTreeOf}
use Rattle.hv_order.specs.Settings.{Setting, setting, IsSolved}
use Rattle.hv_order.specs.Certified.{Certifies}
use Rattle.hv_certificate.specs.declared.certificate.Certificate.{Certificate}

-- the lines of a plan form a tree that fits the world, and this is the tree; a plan has no other
pub record HasTree (w : World) (p : Plan) (t : PlanTree) : Type 0 where
  pub forms : FormTree p
  pub fits : FitWorld w p
  pub is_tree : IsTreeOf w p t

-- the world, and the actions of a tree in plan order
abbrev pub run_of : World → PlanTree → states.Plan
run_of w t = states.plan w t.actions

-- the lines form this tree, and each action is applicable where it stands
pub record IsRun (w : World) (p : Plan) (t : PlanTree) : Type 0 where
  pub tree : HasTree w p t
  pub can_run : CanRun (run_of w t)

-- so it is, and the goal is true behind the last action
pub record ReachesGoal (w : World) (p : Plan) (t : PlanTree) : Type 0 where
  pub run : IsRun w p t
  pub goal : GoalHolds (run_of w t)

-- what the order of the steps is judged by: the tree, and the states that its actions pass
abbrev pub judged_in : World → PlanTree → Setting
judged_in w t = setting t (run_of w t) true

-- the same, with each precondition of a method taken as true
abbrev pub judged_without : World → PlanTree → Setting
judged_without w t = setting t (run_of w t) false

-- A solution: the plan reaches the goal, and under some candidates of its nodes the initial
-- network derives one whose steps can be put in a sequence that is executable, with the
-- actions in plan order
pub record IsSolution (w : World) (p : Plan) : Type 0 where
  pub tree : PlanTree
  pub reaches : ReachesGoal w p tree
  pub solved : IsSolved (judged_in w tree)

-- the plan reaches the goal, and the certificate says such candidates, and where each precondition
-- of a method stands in such a sequence
pub record SolvesBy (w : World) (p : Plan) (c : Certificate) : Type 0 where
  pub tree : PlanTree
  pub reaches : ReachesGoal w p tree
  pub certified : Certifies (judged_in w tree) c
