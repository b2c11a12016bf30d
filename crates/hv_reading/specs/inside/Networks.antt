-- How the code reads: the grammar of task networks.
use Rattle.std.specs.Prelude.{Bool, true, false, List, [], Option, Some, None, option_map, codes, if◌then◌else◌}
use Rattle.hv_text.specs.Trees.{Tree, word, list, Trees, none, more}
use Rattle.hv_reading.specs.declared.field.Slot.TheVariants as slots
use Rattle.hv_reading.specs.Words.{is_the_word}
use Rattle.hv_reading.specs.inside.Words.{symbol_of}
use Rattle.hv_reading.specs.inside.Reading.{both, two, tuple}
use Rattle.hv_syntax.specs.Values.{WordAt, Term, Atom, Subtask, subtask, Pair, pair, Constraint, constraint, Network, network}
use Rattle.hv_reading.specs.inside.Terms.{term_of, atom_of}
use Rattle.hv_reading.specs.inside.Lists.{negated, listed}
use Rattle.hv_reading.specs.Fields.{field}

-- the second of two, where it is a list
abbrev pub with_list : Option (Tree × Tree) → Option (Tree × Tree)
with_list None = None
with_list (Some (l, word w s)) = None
with_list (Some (l, list ts s)) = Some (l, list ts s)

-- a label and a task: a list of an expression and a list
abbrev pub labelled : Tree → Option (Tree × Tree)
labelled (word w s) = None
labelled (list ts s) = with_list (two ts)

-- a task with this label
abbrev pub with_label : WordAt → Atom → Subtask
with_label l a = subtask (Some l) a

-- a label and a task, or a task alone
abbrev pub subtask_by : Option (Tree × Tree) → Tree → Option Subtask
subtask_by (Some (l, t)) e = both with_label (symbol_of l) (atom_of t)
subtask_by None e = option_map (subtask None) (atom_of e)

-- a subtask: a task, or `(symbol task)`
abbrev pub subtask_of : Tree → Option Subtask
subtask_of e = subtask_by (labelled e) e

-- the two others of three, where the first or the second of them is `<`
abbrev pub sides_by : Tree → Option (Tree × Tree) → Option (Tree × Tree)
sides_by x None = None
sides_by x (Some (y, z)) =
    if is_the_word (codes "<") x then Some (y, z) else
    if is_the_word (codes "<") y then Some (x, z) else
    None

-- the two others of three members, where the first or the second of them is `<`
abbrev pub sides : Tree → Option (Tree × Tree)
sides (word w s) = None
sides (list none s) = None
sides (list (more x ts) s) = sides_by x (two ts)

-- two symbols
abbrev pub pair_by : Option (Tree × Tree) → Option Pair
pair_by None = None
pair_by (Some (x, y)) = both pair (symbol_of x) (symbol_of y)

-- a pair: `(< symbol symbol)` or `(symbol < symbol)`
abbrev pub pair_of : Tree → Option Pair
pair_of t = pair_by (sides t)

-- two terms behind `=`
abbrev pub equation_by : Tree → Option (Tree × Tree) → Option (Term × Term)
equation_by x None = None
equation_by x (Some (y, z)) =
    if is_the_word (codes "=") x then both tuple (term_of y) (term_of z) else None

-- `(= term term)`
abbrev pub equation_of : Tree → Option (Term × Term)
equation_of (word w s) = None
equation_of (list none s) = None
equation_of (list (more x ts) s) = equation_by x (two ts)

-- what stands behind `not`, or the whole where nothing does
abbrev pub constraint_by : Option Tree → Tree → Option Constraint
constraint_by (Some t) e = option_map (constraint false) (equation_of t)
constraint_by None e = option_map (constraint true) (equation_of e)

-- a constraint: `(= term term)` or `(not (= term term))`
abbrev pub constraint_of : Tree → Option Constraint
constraint_of e = constraint_by (negated e) e

-- `()`, one of them, or `(and ..)` of them; none where the field is absent
abbrev pub listed_at : {A : Type 0} → (Tree → Option A) → Option Tree → Option (List A)
listed_at f None = Some []
listed_at f (Some e) = listed f e

-- the subtasks of one of the two forms, and whether it is the ordered one; at most one
-- of them stands
abbrev pub subtasks_by : Option Tree → Option Tree → Option (Bool × List Subtask)
subtasks_by None None = Some (false, [])
subtasks_by (Some e) None = option_map (tuple false) (listed subtask_of e)
subtasks_by None (Some e) = option_map (tuple true) (listed subtask_of e)
subtasks_by (Some e) (Some f) = None

-- a network with these pairs and constraints
abbrev pub network_with : List Pair × List Constraint → Bool × List Subtask → Network
network_with (ps, cs) (b, xs) = network xs b ps cs

-- the fields of a network: subtasks in one of two forms, `:ordering`, `:constraints`
abbrev pub network_of : Trees → Option Network
network_of ts =
    both network_with
    (both tuple (listed_at pair_of (field slots.Ordering ts))
    (listed_at constraint_of (field slots.Constraints ts)))
    (subtasks_by (field slots.Subtasks ts) (field slots.OrderedSubtasks ts))
