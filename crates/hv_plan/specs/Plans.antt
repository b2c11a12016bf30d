-- What lines say together, and their first fault, by functions that go along them.
use Rattle.hv_text.specs.declared.fault.TheConstants.{MOST_BYTES}
use Rattle.std.specs.Prelude.{◌≡◌, ◌<◌, ◌≤◌, ◌||◌, ℕ, Bool, true, false, List, [], ◌∷◌, Option, None, Some, Result, Ok, Err, length, if◌then◌else◌}
use Rattle.std.specs.List.{flat_map}
use Rattle.hv_plan.specs.Values.{Action, Decomposition, Root, Plan}
use Rattle.hv_plan.specs.Lines.{NumberedLine, has_start, has_end, between}
use Rattle.hv_plan.specs.Forms.{Form, blank, action, decomposition, root, said}
use Rattle.hv_plan.specs.declared.fault.PlanFault.{PlanFault}
use Rattle.hv_plan.specs.declared.fault.PlanFault.TheVariants as faults

-- the action, the decomposition or the root that a line says
abbrev pub actions_in : Result Form PlanFault → List Action
actions_in (Ok (action a)) = a ∷ []
actions_in (Ok blank) = []
actions_in (Ok (decomposition d)) = []
actions_in (Ok (root r)) = []
actions_in (Err f) = []

abbrev pub decompositions_in : Result Form PlanFault → List Decomposition
decompositions_in (Ok (decomposition d)) = d ∷ []
decompositions_in (Ok blank) = []
decompositions_in (Ok (action a)) = []
decompositions_in (Ok (root r)) = []
decompositions_in (Err f) = []

abbrev pub roots_in : Result Form PlanFault → List Root
roots_in (Ok (root r)) = r ∷ []
roots_in (Ok blank) = []
roots_in (Ok (action a)) = []
roots_in (Ok (decomposition d)) = []
roots_in (Err f) = []

abbrev pub actions_of : List NumberedLine → List Action
actions_of ls = flat_map (λ l. actions_in (said l)) ls

abbrev pub decompositions_of : List NumberedLine → List Decomposition
decompositions_of ls = flat_map (λ l. decompositions_in (said l)) ls

abbrev pub roots_of : List NumberedLine → List Root
roots_of ls = flat_map (λ l. roots_in (said l)) ls

abbrev pub is_root : Result Form PlanFault → Bool
is_root (Ok (root r)) = true
is_root (Ok blank) = false
is_root (Ok (action a)) = false
is_root (Ok (decomposition d)) = false
is_root (Err f) = false

-- the fault of line n that says this, where `rooted` says that a root line stands before it
abbrev pub fault_of : Bool → ℕ → Result Form PlanFault → Option PlanFault
fault_of rooted n (Err f) = Some f
fault_of rooted n (Ok blank) = None
fault_of rooted n (Ok (action a)) = None
fault_of rooted n (Ok (decomposition d)) = None
fault_of rooted n (Ok (root r)) = if rooted then Some (faults.RepeatedRoot n) else None

abbrev pub first_of : Option PlanFault → Option PlanFault → Option PlanFault
first_of (Some f) later = Some f
first_of None later = later

-- the first fault of lines
abbrev pub fault_from : Bool → List NumberedLine → Option PlanFault
fault_from rooted [] = None
fault_from rooted (l ∷ ls) =
    first_of (fault_of rooted l.number (said l)) (fault_from (rooted || is_root (said l)) ls)

-- the plan of these lines: none has a fault, and it has their action lines, their decomposition
-- lines and their one root line
pub record IsBody (ls : List NumberedLine) (p : Plan) : Type 0 where
  pub sound : fault_from false ls ≡ None
  pub actions : p.actions ≡ actions_of ls
  pub decompositions : p.decompositions ≡ decompositions_of ls
  pub root : roots_of ls ≡ p.root ∷ []

-- the fault of lines between markers
abbrev pub IsBodyFault : List NumberedLine → PlanFault → Type 0
IsBodyFault ls (faults.BadByte n) = fault_from false ls ≡ Some (faults.BadByte n)
IsBodyFault ls (faults.BadLine n) = fault_from false ls ≡ Some (faults.BadLine n)
IsBodyFault ls (faults.IdTooLarge n) = fault_from false ls ≡ Some (faults.IdTooLarge n)
IsBodyFault ls (faults.RepeatedRoot n) = fault_from false ls ≡ Some (faults.RepeatedRoot n)
IsBodyFault ls faults.NoRoot = (fault_from false ls ≡ None) × (roots_of ls ≡ [])
IsBodyFault ls faults.TooLong = ⊥
IsBodyFault ls faults.NoStart = ⊥
IsBodyFault ls faults.NoEnd = ⊥
IsBodyFault ls faults.Memory = Unit {0}

-- a text from which a plan is read
pub record IsPlanRead (text : List ℕ) (p : Plan) : Type 0 where
  pub size : length text ≤ MOST_BYTES
  pub starts : has_start text ≡ true
  pub ends : has_end text ≡ true
  pub body : IsBody (between text) p

-- the fault of a text within the limit that has both markers
abbrev pub IsFaultWithin : List ℕ → PlanFault → Type 0
IsFaultWithin text f = (length text ≤ MOST_BYTES) × (has_start text ≡ true) × (has_end text ≡ true)
    × IsBodyFault (between text) f

-- the fault of a text from which no plan is read
abbrev pub IsFaultRead : List ℕ → PlanFault → Type 0
IsFaultRead text faults.TooLong = MOST_BYTES < length text
IsFaultRead text faults.NoStart = (length text ≤ MOST_BYTES) × (has_start text ≡ false)
IsFaultRead text faults.NoEnd = (length text ≤ MOST_BYTES) × (has_start text ≡ true)
    × (has_end text ≡ false)
IsFaultRead text faults.Memory = Unit {0}
IsFaultRead text (faults.BadByte n) = IsFaultWithin text (faults.BadByte n)
IsFaultRead text (faults.BadLine n) = IsFaultWithin text (faults.BadLine n)
IsFaultRead text (faults.IdTooLarge n) = IsFaultWithin text (faults.IdTooLarge n)
IsFaultRead text (faults.RepeatedRoot n) = IsFaultWithin text (faults.RepeatedRoot n)
IsFaultRead text faults.NoRoot = IsFaultWithin text faults.NoRoot
