-- What the code's lines of a plan, and the plan, stand for.
pub use Rattle.hv_plan.specs.PlanLines.{action_view, headed_action, actions_view, AreTidyActions}
pub use Rattle.hv_plan.specs.PlanLines.{decomposition_view, headed, lines_of, decompositions_view, AreTidy, plan_of}
use Rattle.hv_plan.specs.Values.{Plan}
use Rattle.hv_plan.specs.declared.plan.PlanText.{PlanText}

abbrev pub plan_view : PlanText → Plan
plan_view p = plan_of p.actions p.root.items p.root_line p.decompositions
