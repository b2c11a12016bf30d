-- What a line of a plan says.
use Rattle.std.specs.Prelude.{◌+◌, ◌-◌, ◌*◌, ◌&&◌, ℕ, Bool, true, false, List, [], ◌∷◌, ◌++◌, nat_le, codes, Option, None, Some, Result, Ok, Err, if◌then◌else◌}
use Rattle.std.specs.Option.{option_map, option_and_then}
use Rattle.std.specs.List.{list_all}
use Rattle.std.specs.Char.{is_ascii_digit}
use Rattle.std.specs.Str.{bytes_eq}
use Rattle.hv_text.specs.Words.{Piece, word, left, right, bad, pieces, first_bad}
use Rattle.hv_text.specs.declared.span.Span.{Span}
use Rattle.hv_plan.specs.Values.{Action, Decomposition, Root}
use Rattle.hv_plan.specs.Lines.{NumberedLine}
use Rattle.hv_plan.specs.declared.fault.PlanFault.{PlanFault}
use Rattle.hv_plan.specs.declared.fault.PlanFault.TheVariants as faults

-- what a line says: nothing, an action, a decomposition, or the root
pub data Form : Type 0 where
  blank : Form
  action : Action → Form
  decomposition : Decomposition → Form
  root : Root → Form

-- the greatest id
abbrev pub greatest : ℕ
greatest = 18446744073709551615

-- both values, where both are there
abbrev pub both : {A B C : Type 0} → (A → B → C) → Option A → Option B → Option C
both f None y = None
both f (Some a) None = None
both f (Some a) (Some b) = Some (f a b)

-- what f gives of each, where it gives something of all
abbrev pub every : {A B : Type 0} → (A → Option B) → List A → Option (List B)
every f [] = Some []
every f (x ∷ xs) = both ◌∷◌ (f x) (every f xs)

-- a list with these before it
abbrev pub behind : {A : Type 0} → List A → Option (List A) → Option (List A)
behind front None = None
behind front (Some xs) = Some (front ++ xs)

-- the number that decimal digits stand for, behind digits that stand for v
abbrev pub value_from : ℕ → List ℕ → ℕ
value_from v [] = v
value_from v (d ∷ ds) = value_from (v * 10 + (d - 48)) ds

-- one or more digits
abbrev pub is_digits : List ℕ → Bool
is_digits [] = false
is_digits (d ∷ ds) = is_ascii_digit d && list_all is_ascii_digit ds

-- the number that a word stands for, where it is one
abbrev pub id_of : List ℕ → Option ℕ
id_of w = if is_digits w then Some (value_from 0 w) else None

-- a word as an id
abbrev pub id_at : Piece → Option ℕ
id_at (word w s) = id_of w
id_at (left s) = None
id_at (right s) = None
id_at (bad s) = None

-- whether a word is the arrow
abbrev pub is_arrow : Piece → Bool
is_arrow (word w s) = bytes_eq w (codes "->")
is_arrow (left s) = false
is_arrow (right s) = false
is_arrow (bad s) = false

-- a word other than the arrow
abbrev pub name_at : Piece → Option (List ℕ)
name_at (word w s) = if bytes_eq w (codes "->") then None else Some w
name_at (left s) = None
name_at (right s) = None
name_at (bad s) = None

-- what stands before a parenthesis that comes last
abbrev pub inside : List Piece → Option (List Piece)
inside [] = None
inside (right s ∷ []) = Some []
inside (right s ∷ p ∷ ps) = option_map (λ qs. right s ∷ qs) (inside (p ∷ ps))
inside (word w s ∷ ps) = option_map (λ qs. word w s ∷ qs) (inside ps)
inside (left s ∷ ps) = option_map (λ qs. left s ∷ qs) (inside ps)
inside (bad s ∷ ps) = option_map (λ qs. bad s ∷ qs) (inside ps)

-- a task without the parentheses around it
abbrev pub bare : List Piece → Option (List Piece)
bare [] = Some []
bare (left s ∷ ps) = inside ps
bare (right s ∷ ps) = Some (right s ∷ ps)
bare (word w s ∷ ps) = Some (word w s ∷ ps)
bare (bad s ∷ ps) = Some (bad s ∷ ps)

-- a task: its name and its arguments
pub record Task : Type 0 where
  pub name : List ℕ
  pub arguments : List (List ℕ)

-- the names of a task: its own and those of its arguments
abbrev pub names_of : List Piece → Option (List (List ℕ))
names_of ps = option_and_then (every name_at) (bare ps)

-- the task of these names
abbrev pub named : List (List ℕ) → Option Task
named [] = None
named (w ∷ ws) = Some (record { name = w; arguments = ws })

abbrev pub task_of : List Piece → Option Task
task_of ps = option_and_then named (names_of ps)

-- the parts of a line that has an arrow: what stands before its first one, and what
-- stands behind it
pub record Parts : Type 0 where
  pub before : List Piece
  pub after : List Piece

-- parts with these words before them
abbrev pub with_front : List Piece → Option Parts → Option Parts
with_front front None = None
with_front front (Some h) = Some (record { before = front ++ h.before; after = h.after })

-- the parts of words in which an arrow stands
abbrev pub parts_of : List Piece → Option Parts
parts_of [] = None
parts_of (p ∷ ps) =
    if is_arrow p then Some (record { before = []; after = ps }) else with_front (p ∷ [])
    (parts_of ps)

-- what stands behind the arrow: the method's name and the ids of the children
pub record Method : Type 0 where
  pub name : List ℕ
  pub children : List ℕ

abbrev pub method_of : List Piece → Option Method
method_of [] = None
method_of (p ∷ ps) = both (λ w is. record { name = w; children = is }) (name_at p) (every id_at ps)

-- an action line, of an id and the task behind it, where both are there
abbrev pub action_of : ℕ → Option ℕ → Option Task → Option Form
action_of n None t = None
action_of n (Some i) None = None
action_of n (Some i) (Some t) =
    Some (action (record { id = i; name = t.name; arguments = t.arguments; line = n }))

-- a decomposition line, of an id, a task and what stands behind the arrow, where all are there
abbrev pub decomposition_of : ℕ → Option ℕ → Option Task → Option Method → Option Form
decomposition_of n None t m = None
decomposition_of n (Some i) None m = None
decomposition_of n (Some i) (Some t) None = None
decomposition_of n (Some i) (Some t) (Some m) =
    Some (decomposition
    (record {
      id = i;
      name = t.name;
      arguments = t.arguments;
      method = m.name;
      children = m.children;
      line = n;
    }))

-- a line that begins with an id: with an arrow a decomposition line, else an action line
abbrev pub node_of : ℕ → Option ℕ → List Piece → Option Parts → Option Form
node_of n i ps None = action_of n i (task_of ps)
node_of n i ps (Some h) = decomposition_of n i (task_of h.before) (method_of h.after)

abbrev pub root_of : ℕ → List ℕ → Form
root_of n is = root (record { ids = is; line = n })

-- what line n says, where it is of a listed form
abbrev pub form_of : ℕ → List Piece → Option Form
form_of n [] = Some blank
form_of n (left s ∷ ps) = None
form_of n (right s ∷ ps) = None
form_of n (bad s ∷ ps) = None
form_of n (word w s ∷ ps) =
    if bytes_eq w (codes "root") then option_map (root_of n) (every id_at ps) else node_of n
    (id_of w) ps (parts_of ps)

abbrev pub is_id : ℕ → Bool
is_id i = nat_le i greatest

-- a number, where it has at most 64 bits
abbrev pub as_number : ℕ → Option ℕ
as_number i = if is_id i then Some i else None

-- whether no id is past the greatest
abbrev pub fits : Form → Bool
fits blank = true
fits (action a) = is_id a.id
fits (decomposition d) = is_id d.id && list_all is_id d.children
fits (root r) = list_all is_id r.ids

-- a form, or the fault that there is none or that an id is too large
abbrev pub listed : ℕ → Option Form → Result Form PlanFault
listed n None = Err (faults.BadLine n)
listed n (Some f) = if fits f then Ok f else Err (faults.IdTooLarge n)

-- a bad byte comes before other faults of a line
abbrev pub sound : ℕ → Option Span → Result Form PlanFault → Result Form PlanFault
sound n (Some s) r = Err (faults.BadByte n)
sound n None r = r

-- what a line says, or its fault
abbrev pub said : NumberedLine → Result Form PlanFault
said l =
    sound l.number (first_bad (pieces l.bytes))
    (listed l.number (form_of l.number (pieces l.bytes)))
