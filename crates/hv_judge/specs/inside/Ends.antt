-- What the code answers where it finds no solution, and with one.
use Rattle.std.specs.Prelude.{◌≡◌, ℕ, Bool, true, false, List, Option, None, Some, MatchOption, option_map, slice_get}
use Rattle.hv_text.specs.declared.span.Span.{Span}
use Rattle.hv_world.specs.Worlds.{World, world_of}
use Rattle.hv_state.specs.declared.trace.Stop.{Stop}
use Rattle.hv_state.specs.declared.trace.Stop.TheVariants as stops
use Rattle.hv_plan.specs.Values.{Plan}
use Rattle.hv_plan.specs.PlanTrees.{Node, PlanTree}
use Rattle.hv_plan.specs.declared.fault.PlanFault.{PlanFault}
use Rattle.hv_plan.specs.declared.cause.TreeFault.{TreeFault}
use Rattle.hv_plan.specs.declared.cause.TreeFault.TheVariants as trees
use Rattle.hv_certificate.specs.declared.certificate.Certificate.{Certificate}
use Rattle.hv_order.specs.declared.solution.Unsolved.{Unsolved}
use Rattle.hv_order.specs.declared.solution.Unsolved.TheVariants as unsolved
use Rattle.hv_answer.specs.declared.answer.Answer.{Answer}
use Rattle.hv_answer.specs.declared.answer.Answer.TheVariants as answers
use Rattle.hv_answer.specs.declared.answer.Verdict.{Verdict}
use Rattle.hv_answer.specs.declared.answer.Verdict.TheVariants as verdicts
use Rattle.hv_answer.specs.declared.answer.CauseKind.TheVariants as causes
use Rattle.hv_answer.specs.declared.answer.Fault.{Fault}
use Rattle.hv_answer.specs.declared.answer.FaultKind.{FaultKind}
use Rattle.hv_answer.specs.declared.answer.Which.{Which}
use Rattle.hv_answer.specs.declared.answer.Which.TheVariants as which
use Rattle.hv_judge.specs.declared.not_solved.NotSolved.{NotSolved}
use Rattle.hv_judge.specs.declared.not_solved.NotSolved.TheVariants.{Rejected, Fails, Undecided, Memory}
use Rattle.hv_syntax.specs.Values.{Domain, Problem}
use Rattle.hv_judge.specs.Solutions.{ReachesGoal}
use Rattle.hv_answer.specs.Places.{cause_at, cause_nowhere}
use Rattle.hv_judge.specs.Causes.{tree_cause, IsWithinLimit, IsCountWithin, IsCountAbove}
use Rattle.hv_judge.specs.Rejections.{reported_plan, fault_in, AreRead, IsRejectedPair}
use Rattle.hv_judge.specs.Verdicts.{IsVerdict}

-- the verdict, which P allows, unless memory was refused
abbrev pub Ends : (Verdict → Type 0) → NotSolved → Type 0
Ends P (Rejected w f) = P (verdicts.Rejected w f)
Ends P (Fails c) = P (verdicts.Fails c)
Ends P (Undecided line) = P (verdicts.Undecided line)
Ends P Memory = Unit {0}

-- this is the verdict
abbrev pub IsVerdictOf : NotSolved → Verdict → Type 0
IsVerdictOf (Rejected w f) v = v ≡ verdicts.Rejected w f
IsVerdictOf (Fails c) v = v ≡ verdicts.Fails c
IsVerdictOf (Undecided line) v = v ≡ verdicts.Undecided line
IsVerdictOf Memory v = ⊥

-- this is the answer
abbrev pub IsAnswerOf : NotSolved → Answer → Type 0
IsAnswerOf (Rejected w f) a = a ≡ answers.Rejected w f
IsAnswerOf (Fails c) a = a ≡ answers.Fails c
IsAnswerOf (Undecided line) a = a ≡ answers.Undecided line
IsAnswerOf Memory a = ⊥

-- where it is asked for, there is a certificate, of which P holds
abbrev pub Explains : Bool → (Certificate → Type 0) → Option Certificate → Type 0
Explains true P o = MatchOption o ⊥ P
Explains false P o = Unit {0}

-- a text is rejected for a fault, where one is reported; else memory was refused
abbrev pub rejected_for : Which → Option Fault → NotSolved
rejected_for w None = Memory
rejected_for w (Some f) = Rejected w f

-- for a fault of this kind at a place
abbrev pub rejected_at : Which → List ℕ → Span → Option FaultKind → NotSolved
rejected_at w text s k = rejected_for w (option_map (λ kind. fault_in kind text s) k)

-- for a fault of the plan's text
abbrev pub plan_end : PlanFault → NotSolved
plan_end f = rejected_for which.Plan (reported_plan f)

-- where the lines form no tree, the plan fails for that cause
abbrev pub tree_end : TreeFault → NotSolved
tree_end (trees.Cause c) = Fails (tree_cause c)
tree_end trees.Memory = Memory

-- where an action is not applicable, it fails at the line of that action
abbrev pub run_end : List ℕ → Stop → NotSolved
run_end lines (stops.Inapplicable k) =
    Fails (record { kind = causes.Inapplicable; line = slice_get lines k })
run_end lines stops.Memory = Memory

-- where it has no solution, it fails: at the line of a node without a candidate, or at none
abbrev pub unsolved_end : Unsolved → NotSolved
unsolved_end (unsolved.NoBinding line) = Fails (cause_at causes.NoBinding line)
unsolved_end unsolved.OrderBroken = Fails (cause_nowhere causes.OrderBroken)
unsolved_end unsolved.PreconditionUnplaced = Fails (cause_nowhere causes.PreconditionUnplaced)
unsolved_end unsolved.Memory = Memory

-- a domain and a problem are read, and this is their world
pub record IsWorldOf (domain problem : List ℕ) (w : World) : Type 0 where
  pub d : Domain
  pub p : Problem
  pub are_read : AreRead domain problem d p
  pub is : w ≡ world_of d p

-- the verdict of each plan that has this tree and reaches the goal, where no count is
-- above the limit
abbrev pub IsEndInOrder : World → PlanTree → NotSolved → Type 0
IsEndInOrder w t e =
    (p : Plan) (limit : ℕ) → ReachesGoal w p t → IsWithinLimit w t limit
    → Ends (λ v. IsVerdict limit v w p) e

-- the node at a place in the order of nodes, where there is one, has a count within the limit
abbrev pub IsWithinAt : World → PlanTree → ℕ → ℕ → Type 0
IsWithinAt w t limit place = (v : ℕ) → slice_get t.order place ≡ Some v → IsCountWithin w t limit v

-- it has a count above the limit, and is the node of this line
pub record IsAboveAt (w : World) (t : PlanTree) (limit place line : ℕ) : Type 0 where
  pub number : ℕ
  pub stands : slice_get t.order place ≡ Some number
  pub node : Node
  pub has_node : slice_get t.nodes number ≡ Some node
  pub above : IsCountAbove w t limit number
  pub on_line : node.line ≡ line

-- a domain or a problem is rejected
abbrev pub IsPairEnd : List ℕ → List ℕ → NotSolved → Type 0
IsPairEnd domain problem (Rejected w f) = IsRejectedPair domain problem w f
IsPairEnd domain problem (Fails c) = ⊥
IsPairEnd domain problem (Undecided line) = ⊥
IsPairEnd domain problem Memory = Unit {0}
