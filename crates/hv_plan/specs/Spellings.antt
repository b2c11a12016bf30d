-- The forms of a plan's lines, row by row, as a relation between the words of a line and what it
-- says; the plan that a text holds, and the fault of a text that holds none.
use Rattle.hv_text.specs.declared.fault.TheConstants.{MOST_BYTES}
use Rattle.std.specs.Prelude.{◌≡◌, ◌<◌, ◌≤◌, ℕ, true, false, List, [], ◌∷◌, ◌++◌, codes, None, Some, length}
use Rattle.std.specs.List.{flat_map}
use Rattle.std.specs.Str.{bytes_eq}
use Rattle.hv_text.specs.Words.{Piece, word, left, right, pieces, first_bad}
use Rattle.hv_text.specs.declared.span.Span.{Span}
use Rattle.hv_plan.specs.Values.{Action, Decomposition, Root, Plan}
use Rattle.hv_plan.specs.Lines.{NumberedLine, has_start, has_end, between}
use Rattle.hv_plan.specs.Forms.{Form, blank, action, decomposition, root, is_digits, value_from, fits}
use Rattle.hv_plan.specs.declared.fault.PlanFault.{PlanFault}
use Rattle.hv_plan.specs.declared.fault.PlanFault.TheVariants as faults

-- an id: one or more digits, which stand for a number
pub data SpellsId : Piece → ℕ → Type 0 where
  an_id : (w : List ℕ) (s : Span) → is_digits w ≡ true → SpellsId (word w s) (value_from 0 w)

-- a name: any word but `->`
pub data SpellsName : Piece → List ℕ → Type 0 where
  a_name : (w : List ℕ) (s : Span) → bytes_eq w (codes "->") ≡ false → SpellsName (word w s) w

-- the arrow: the word `->`
pub data SpellsArrow : Piece → Type 0 where
  an_arrow : (w : List ℕ) (s : Span) → bytes_eq w (codes "->") ≡ true → SpellsArrow (word w s)

-- the members of one list, one after another, for those of the other
pub data Each {A B : Type 0} (Spells : A → B → Type 0) : List A → List B → Type 0 where
  no_more : Each Spells [] []
  one_more : (x : A) (xs : List A) (y : B) (ys : List B) → Spells x y → Each Spells xs ys
      → Each Spells (x ∷ xs) (y ∷ ys)

-- the names of a task: `NAME ARG*`, or `( NAME ARG* )`
pub data SpellsTask : List Piece → List (List ℕ) → Type 0 where
  bare : (ps : List Piece) (ws : List (List ℕ)) → Each SpellsName ps ws → SpellsTask ps ws
  in_parentheses : (s r : Span) (ps : List Piece) (ws : List (List ℕ)) → Each SpellsName ps ws
      → SpellsTask (left s ∷ ps ++ right r ∷ []) ws

-- line n: nothing, `ID NAME ARG*`, `ID NAME ARG* -> METHOD ID*`, or `root ID*`
pub data SpellsForm (n : ℕ) : List Piece → Form → Type 0 where
  no_words : SpellsForm n [] blank
  an_action : (p : Piece) (ps : List Piece) (i : ℕ) (w : List ℕ) (ws : List (List ℕ)) → SpellsId p i
      → SpellsTask ps (w ∷ ws)
      → SpellsForm n (p ∷ ps) (action (record { id = i; name = w; arguments = ws; line = n }))
  a_decomposition : (p a m : Piece) (ps qs : List Piece) (i : ℕ) (w : List ℕ) (ws : List (List ℕ))
      (v : List ℕ) (is : List ℕ)
      → SpellsId p i → SpellsTask ps (w ∷ ws) → SpellsArrow a → SpellsName m v → Each SpellsId qs is
      → SpellsForm n (p ∷ ps ++ a ∷ m ∷ qs)
      (decomposition
      (record { id = i; name = w; arguments = ws; method = v; children = is; line = n }))
  a_root : (w : List ℕ) (s : Span) (ps : List Piece) (is : List ℕ)
      → bytes_eq w (codes "root") ≡ true → Each SpellsId ps is
      → SpellsForm n (word w s ∷ ps) (root (record { ids = is; line = n }))

-- a line says a form: no byte of it is bad, and no id is past the greatest
pub record Says (l : NumberedLine) (f : Form) : Type 0 where
  pub clean : first_bad (pieces l.bytes) ≡ None
  pub spelled : SpellsForm l.number (pieces l.bytes) f
  pub small : fits f ≡ true

abbrev pub action_in : Form → List Action
action_in blank = []
action_in (action a) = a ∷ []
action_in (decomposition d) = []
action_in (root r) = []

abbrev pub decomposition_in : Form → List Decomposition
decomposition_in blank = []
decomposition_in (action a) = []
decomposition_in (decomposition d) = d ∷ []
decomposition_in (root r) = []

abbrev pub root_in : Form → List Root
root_in blank = []
root_in (action a) = []
root_in (decomposition d) = []
root_in (root r) = r ∷ []

-- the actions, the decompositions and the roots among forms
abbrev pub actions_among : List Form → List Action
actions_among fs = flat_map action_in fs

abbrev pub decompositions_among : List Form → List Decomposition
decompositions_among fs = flat_map decomposition_in fs

abbrev pub roots_among : List Form → List Root
roots_among fs = flat_map root_in fs

-- lines say a plan: each says a form, one of them the root
pub record SayPlan (ls : List NumberedLine) (p : Plan) : Type 0 where
  pub forms : List Form
  pub each : Each Says ls forms
  pub actions : p.actions ≡ actions_among forms
  pub decompositions : p.decompositions ≡ decompositions_among forms
  pub root : roots_among forms ≡ p.root ∷ []

-- lines say all but the root of a plan: each says a form, none of them a root
pub record SayNoRoot (ls : List NumberedLine) : Type 0 where
  pub forms : List Form
  pub each : Each Says ls forms
  pub rootless : roots_among forms ≡ []

-- a text holds a plan: it is within the limit, has both markers, and the lines between
-- them say the plan
pub record IsPlan (text : List ℕ) (p : Plan) : Type 0 where
  pub size : length text ≤ MOST_BYTES
  pub starts : has_start text ≡ true
  pub ends : has_end text ≡ true
  pub body : SayPlan (between text) p

-- why a line says no form
pub data IsFaulty (l : NumberedLine) : PlanFault → Type 0 where
  bad_byte : (s : Span) → first_bad (pieces l.bytes) ≡ Some s → IsFaulty l (faults.BadByte l.number)
  bad_line : first_bad (pieces l.bytes) ≡ None
      → ((f : Form) → SpellsForm l.number (pieces l.bytes) f → ⊥)
      → IsFaulty l (faults.BadLine l.number)
  id_too_large : (f : Form) → first_bad (pieces l.bytes) ≡ None
      → SpellsForm l.number (pieces l.bytes) f → fits f ≡ false
      → IsFaulty l (faults.IdTooLarge l.number)

-- the first line that says no form, or is a second root
pub data IsFirstFault (ls : List NumberedLine) : PlanFault → Type 0 where
  no_form : (before after : List NumberedLine) (l : NumberedLine) (forms : List Form)
      (f : PlanFault) → ls ≡ before ++ l ∷ after
      → Each Says before forms → length (roots_among forms) ≤ 1 → IsFaulty l f → IsFirstFault ls f
  second_root : (before after : List NumberedLine) (l : NumberedLine) (forms : List Form)
      (first second : Root) → ls ≡ before ++ l ∷ after
      → Each Says before forms → roots_among forms ≡ first ∷ [] → Says l (root second)
      → IsFirstFault ls (faults.RepeatedRoot l.number)

-- the fault of the lines between the markers: that of the first faulty line, else that
-- there is no root
abbrev pub IsFaultOfLines : List NumberedLine → PlanFault → Type 0
IsFaultOfLines ls (faults.BadByte n) = IsFirstFault ls (faults.BadByte n)
IsFaultOfLines ls (faults.BadLine n) = IsFirstFault ls (faults.BadLine n)
IsFaultOfLines ls (faults.IdTooLarge n) = IsFirstFault ls (faults.IdTooLarge n)
IsFaultOfLines ls (faults.RepeatedRoot n) = IsFirstFault ls (faults.RepeatedRoot n)
IsFaultOfLines ls faults.NoRoot = SayNoRoot ls
IsFaultOfLines ls faults.TooLong = ⊥
IsFaultOfLines ls faults.NoStart = ⊥
IsFaultOfLines ls faults.NoEnd = ⊥
IsFaultOfLines ls faults.Memory = ⊥

-- a text within the limit that has both markers, with this fault between them
pub record IsFaultBetween (text : List ℕ) (f : PlanFault) : Type 0 where
  pub size : length text ≤ MOST_BYTES
  pub starts : has_start text ≡ true
  pub ends : has_end text ≡ true
  pub body : IsFaultOfLines (between text) f

-- the fault of a text that holds no plan; that memory ran out says nothing of the text
abbrev pub IsPlanFault : List ℕ → PlanFault → Type 0
IsPlanFault text faults.TooLong = MOST_BYTES < length text
IsPlanFault text faults.NoStart = (length text ≤ MOST_BYTES) × (has_start text ≡ false)
IsPlanFault text faults.NoEnd = (length text ≤ MOST_BYTES) × (has_start text ≡ true)
    × (has_end text ≡ false)
IsPlanFault text faults.Memory = Unit {0}
IsPlanFault text (faults.BadByte n) = IsFaultBetween text (faults.BadByte n)
IsPlanFault text (faults.BadLine n) = IsFaultBetween text (faults.BadLine n)
IsPlanFault text (faults.IdTooLarge n) = IsFaultBetween text (faults.IdTooLarge n)
IsPlanFault text (faults.RepeatedRoot n) = IsFaultBetween text (faults.RepeatedRoot n)
IsPlanFault text faults.NoRoot = IsFaultBetween text faults.NoRoot
