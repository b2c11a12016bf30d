-- The numbers and names under which faults and causes are reported, the verdict of an answer and
-- the kind of a verdict.
use Rattle.std.specs.Prelude.{ℕ, List, codes}
use Rattle.hv_plan.specs.Causes as trees
use Rattle.hv_answer.specs.declared.answer.Which.{Which}
use Rattle.hv_answer.specs.declared.answer.Which.TheVariants as texts
use Rattle.hv_answer.specs.declared.answer.FaultKind.{FaultKind}
use Rattle.hv_answer.specs.declared.answer.FaultKind.TheVariants as faults
use Rattle.hv_answer.specs.declared.answer.CauseKind.{CauseKind}
use Rattle.hv_answer.specs.declared.answer.CauseKind.TheVariants as causes
use Rattle.hv_answer.specs.declared.answer.Answer.{Answer}
use Rattle.hv_answer.specs.declared.answer.Answer.TheVariants as answers
use Rattle.hv_answer.specs.declared.answer.Verdict.{Verdict}
use Rattle.hv_answer.specs.declared.answer.Verdict.TheVariants as verdicts
use Rattle.hv_answer.specs.declared.answer.Kind.{Kind}
use Rattle.hv_answer.specs.declared.answer.Kind.TheVariants as kinds

-- the name of a text
abbrev pub which_name : Which → List ℕ
which_name texts.Domain = codes "domain"
which_name texts.Problem = codes "problem"
which_name texts.Plan = codes "plan"
which_name texts.Certificate = codes "certificate"

-- the number and the name of a fault of a text
abbrev pub fault_number : FaultKind → ℕ
fault_number faults.BadByte = 1
fault_number faults.Unclosed = 2
fault_number faults.Unopened = 3
fault_number faults.TooDeep = 4
fault_number faults.TooLong = 5
fault_number faults.NotDefine = 10
fault_number faults.UnknownSection = 11
fault_number faults.RepeatedSection = 12
fault_number faults.MissingSection = 13
fault_number faults.BadShape = 14
fault_number faults.Unsupported = 15
fault_number faults.UnknownType = 20
fault_number faults.UnknownObject = 21
fault_number faults.UnknownPredicate = 22
fault_number faults.UnknownTask = 23
fault_number faults.UnboundVariable = 24
fault_number faults.Arity = 25
fault_number faults.DuplicateName = 26
fault_number faults.DuplicateVariable = 27
fault_number faults.DuplicateLabel = 28
fault_number faults.UnknownLabel = 29
fault_number faults.CyclicOrdering = 30
fault_number faults.NoStart = 40
fault_number faults.NoEnd = 41
fault_number faults.BadLine = 42
fault_number faults.IdTooLarge = 43
fault_number faults.NoRoot = 44
fault_number faults.RepeatedRoot = 45
fault_number faults.BadCertificate = 70

abbrev pub fault_name : FaultKind → List ℕ
fault_name faults.BadByte = codes "BadByte"
fault_name faults.Unclosed = codes "Unclosed"
fault_name faults.Unopened = codes "Unopened"
fault_name faults.TooDeep = codes "TooDeep"
fault_name faults.TooLong = codes "TooLong"
fault_name faults.NotDefine = codes "NotDefine"
fault_name faults.UnknownSection = codes "UnknownSection"
fault_name faults.RepeatedSection = codes "RepeatedSection"
fault_name faults.MissingSection = codes "MissingSection"
fault_name faults.BadShape = codes "BadShape"
fault_name faults.Unsupported = codes "Unsupported"
fault_name faults.UnknownType = codes "UnknownType"
fault_name faults.UnknownObject = codes "UnknownObject"
fault_name faults.UnknownPredicate = codes "UnknownPredicate"
fault_name faults.UnknownTask = codes "UnknownTask"
fault_name faults.UnboundVariable = codes "UnboundVariable"
fault_name faults.Arity = codes "Arity"
fault_name faults.DuplicateName = codes "DuplicateName"
fault_name faults.DuplicateVariable = codes "DuplicateVariable"
fault_name faults.DuplicateLabel = codes "DuplicateLabel"
fault_name faults.UnknownLabel = codes "UnknownLabel"
fault_name faults.CyclicOrdering = codes "CyclicOrdering"
fault_name faults.NoStart = codes "NoStart"
fault_name faults.NoEnd = codes "NoEnd"
fault_name faults.BadLine = codes "BadLine"
fault_name faults.IdTooLarge = codes "IdTooLarge"
fault_name faults.NoRoot = codes "NoRoot"
fault_name faults.RepeatedRoot = codes "RepeatedRoot"
fault_name faults.BadCertificate = codes "BadCertificate"

-- the number and the name of a cause; those of the causes from 50 to 63 are said where the tree is
abbrev pub cause_number : CauseKind → ℕ
cause_number (causes.Tree kind) = trees.number kind
cause_number causes.Inapplicable = 64
cause_number causes.GoalFalse = 65
cause_number causes.NoBinding = 66
cause_number causes.OrderBroken = 67
cause_number causes.PreconditionUnplaced = 68

abbrev pub cause_name : CauseKind → List ℕ
cause_name (causes.Tree kind) = trees.name kind
cause_name causes.Inapplicable = codes "Inapplicable"
cause_name causes.GoalFalse = codes "GoalFalse"
cause_name causes.NoBinding = codes "NoBinding"
cause_name causes.OrderBroken = codes "OrderBroken"
cause_name causes.PreconditionUnplaced = codes "PreconditionUnplaced"

-- the verdict of an answer: the answer without its certificate
abbrev pub verdict_of : Answer → Verdict
verdict_of (answers.Solves c) = verdicts.Solves
verdict_of (answers.Fails c) = verdicts.Fails c
verdict_of (answers.Undecided line) = verdicts.Undecided line
verdict_of (answers.Rejected w f) = verdicts.Rejected w f

-- the kind of a verdict
abbrev pub kind_of : Verdict → Kind
kind_of verdicts.Solves = kinds.Solves
kind_of (verdicts.Fails c) = kinds.Fails
kind_of (verdicts.Undecided line) = kinds.Undecided
kind_of (verdicts.Rejected w f) = kinds.Rejected
