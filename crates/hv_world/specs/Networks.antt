-- The order that a network has by its labels.
use Rattle.std.specs.Prelude.{ℕ, ◌<◌, suc, Bool, false, All, List, [], ◌∷◌, map, length, Some, None, bytes_eq, if◌then◌else◌}
use Rattle.hv_syntax.specs.Values.{WordAt, Subtask, Pair, Network}
use Rattle.hv_world.specs.Names.{names}
use Rattle.hv_world.specs.Orders.{Written, written, IsCyclic}

-- the labels of subtasks
abbrev pub labels : List Subtask → List WordAt
labels [] = []
labels (x ∷ xs) = elim x.label [ None ↦ labels xs | Some w ↦ w ∷ labels xs ]

abbrev pub label_names : List Subtask → List (List ℕ)
label_names xs = names (labels xs)

abbrev pub has_label : List ℕ → Subtask → Bool
has_label l x = elim x.label [ None ↦ false | Some w ↦ bytes_eq l w.text ]

-- the number of the first subtask that has a label, where the first of all has number k; for a
-- label that none has, the number behind the last
abbrev pub labelled_from : ℕ → List Subtask → List ℕ → ℕ
labelled_from k [] l = k
labelled_from k (x ∷ xs) l = if has_label l x then k else labelled_from (suc k) xs l

abbrev pub labelled : List Subtask → List ℕ → ℕ
labelled xs l = labelled_from 0 xs l

-- the numbers of the two subtasks of a pair
abbrev pub numbered_pair : List Subtask → Pair → ℕ × ℕ
numbered_pair xs p = (labelled xs p.earlier.text, labelled xs p.later.text)

-- what is written of the order of a network
abbrev pub written_by : Network → Written
written_by n = written (length n.subtasks) n.is_ordered (map (numbered_pair n.subtasks) n.pairs)

-- the pairs name subtasks, and no subtask comes before itself
pub record IsArrangeable (n : Written) : Type 0 where
  pub pairs : All (λ p. (p.0 < n.len) × (p.1 < n.len)) n.pairs
  pub acyclic : IsCyclic n → ⊥
