-- Faults and causes with their place, or with none.
use Rattle.std.specs.Prelude.{ℕ, None, Some}
use Rattle.hv_answer.specs.declared.answer.Cause.{Cause}
use Rattle.hv_answer.specs.declared.answer.CauseKind.{CauseKind}
use Rattle.hv_answer.specs.declared.answer.Fault.{Fault}
use Rattle.hv_answer.specs.declared.answer.FaultKind.{FaultKind}
use Rattle.hv_answer.specs.declared.answer.Place.TheVariants.{Nowhere, Line}

-- a fault without a place, and a fault at a line
abbrev pub fault_nowhere : FaultKind → Fault
fault_nowhere kind = record { kind = kind; place = Nowhere }

abbrev pub fault_on : FaultKind → ℕ → Fault
fault_on kind line = record { kind = kind; place = Line line }

-- a cause at a line, and one that has none
abbrev pub cause_at : CauseKind → ℕ → Cause
cause_at kind line = record { kind = kind; line = Some line }

abbrev pub cause_nowhere : CauseKind → Cause
cause_nowhere kind = record { kind = kind; line = None }
